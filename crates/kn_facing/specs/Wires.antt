-- The bytes that are on their way, as frames, through the steps of both ends.
use Rattle.std.specs.Prelude.{◌≡◌, ◌≢◌, ◌⊎◌, ℕ, ◌+◌, ◌*◌, ◌<◌, ◌≤◌, true, List, [], ◌∷◌, ◌++◌, None}
use Rattle.std.specs.List.{AllByRecursion}
use Rattle.kn_frames.specs.declared.frame.Frame.{Frame}
use Rattle.kn_frames.specs.Frames.{IsWithinLimits}
use Rattle.kn_h2_state.specs.declared.state.State.{State}
use Rattle.kn_h2_state.specs.Streams.{stream_at}
use Rattle.kn_h2_state.specs.Feeding.{after_frames}
use Rattle.kn_h2_state.specs.Calls.{text_of}
use Rattle.kn_h2_state.specs.Wire.{spellings, ends_in, Hears}
use Rattle.kn_h2_state.specs.Limits.{reply_limit}
use Rattle.kn_h2_state.specs.Outgoing.{reply_bytes}
use Rattle.kn_h2_state.specs.Holding.{Holds}
use Rattle.kn_h2_state.specs.Hearing.{is_peer_open, StaysOpen}
use Rattle.kn_h2.specs.Answered.{frames_answer}
use Rattle.kn_facing.specs.Ways.{Way, IsWhole, entered, with_from}
use Rattle.kn_facing.specs.Facing.{coming, AreTaken, asking}
use Rattle.kn_facing.specs.Faces.{HasNotEnded, Faces, acknowledged}

-- frames that the one end writes come behind those that are on their way
pub record Behind (w : Way) (t : State) (fs : List Frame) : Type 0 where
  pub whole : IsWhole (with_from (λ s. t) w)
  pub coming : coming (with_from (λ s. t) w) ≡ coming w ++ fs

abbrev pub WritesBehind : Type 0
WritesBehind = (w : Way) (t : State) (fs : List Frame) → IsWhole w → AllByRecursion IsWithinLimits fs → t.out.bytes ≡ w.from.state.out.bytes ++ spellings fs → Behind w t fs

-- what goes on its way changes nothing of what comes
pub record Same (w v : Way) : Type 0 where
  pub whole : IsWhole w → IsWhole v
  pub coming : coming v ≡ coming w

abbrev pub EntersAlike : Type 0
EntersAlike = (w : Way) (count : ℕ) → Same w (entered count w)

-- ---- a piece that is read

-- what acknowledges the SETTINGS among these frames
unfoldable pub all_acknowledged : List Frame → List Frame
all_acknowledged [] = []
all_acknowledged (f ∷ fs) = acknowledged f ++ all_acknowledged fs

-- The first frames on their way are read, one after another: the ends face each other still, and these frames are
-- answered with what acknowledges them, and with nothing else.
pub record AfterReading (a b : State) (fs ab ba : List Frame) : Type 0 where
  pub faces : Faces a (after_frames b fs) ab (ba ++ all_acknowledged fs)
  pub answers : frames_answer b fs ≡ all_acknowledged fs

abbrev pub ReadingKeepsFaces : Type 0
ReadingKeepsFaces = (a b : State) (fs ab ba : List Frame) → Faces a b (fs ++ ab) ba → AfterReading a b fs ab ba

-- ---- what a caller takes from it

-- neither end has failed, and none has a stream but the first, nor text of another
pub record HasOneStream (s : State) : Type 0 where
  pub goes : s.failed ≡ None
  pub streams : (n : ℕ) → n ≢ 1 → stream_at s.streams n ≡ None
  pub texts : (n : ℕ) → n ≢ 1 → text_of s n ≡ []

abbrev pub FacesHaveOneStream : Type 0
FacesHaveOneStream = (a b : State) (ab ba : List Frame) → Faces a b ab ba → HasOneStream a × HasOneStream b

-- Frames that are taken, none of which ends the stream, leave its half open.
abbrev pub HalvesStayOpen : Type 0
HalvesStayOpen = (n : ℕ) (s : State) (fs : List Frame) → Holds s → s.failed ≡ None → AllByRecursion IsWithinLimits fs → AreTaken s fs → reply_bytes s.out + 17 * asking fs ≤ reply_limit
    → is_peer_open n s ≡ true → ends_in n fs ≡ 0 → StaysOpen n s fs

-- So do the first frames on their way between two ends that face each other.
abbrev pub FacesKeepHalves : Type 0
FacesKeepHalves = (a b : State) (fs ab ba : List Frame) (n : ℕ) → Faces a b (fs ++ ab) ba → is_peer_open n b ≡ true → ends_in n fs ≡ 0 → StaysOpen n b fs

-- and so they do as long as the end that writes them has not ended its own half
abbrev pub UnendedStaysOpen : Type 0
UnendedStaysOpen = (a b : State) (fs ab ba : List Frame) (n : ℕ) → Faces a b (fs ++ ab) ba → is_peer_open n b ≡ true → HasNotEnded a n → StaysOpen n b fs

-- the peer may be heard on a stream: its half is open, or the stream has not come yet
abbrev pub MayHear : State → ℕ → Type 0
MayHear b n = (is_peer_open n b ≡ true) ⊎ (b.opened < n)

-- each of these frames adds to the text of the stream what it brings, and the peer may be heard behind them
pub record IsHeard (b : State) (fs : List Frame) (n : ℕ) : Type 0 where
  pub heard : Hears n b fs
  pub still : MayHear (after_frames b fs) n

-- As long as an end has not ended its half of a stream, all that it writes on it is heard.
abbrev pub UnendedIsHeard : Type 0
UnendedIsHeard = (a b : State) (fs ab ba : List Frame) (n : ℕ) → Faces a b (fs ++ ab) ba → HasNotEnded a n → MayHear b n → IsHeard b fs n
