-- What two ends that face each other go on to take of each other.
use Rattle.std.specs.Prelude.{◌≡◌, ℕ, ◌+◌, ◌*◌, ◌≤◌, true, false, not, List, ◌++◌, None}
use Rattle.std.specs.List.{AllByRecursion}
use Rattle.kn_frames.specs.declared.frame.Frame.{Frame}
use Rattle.kn_frames.specs.Frames.{IsWithinLimits}
use Rattle.kn_frames.specs.Readers.{after_bytes, frames_in, fault_in}
use Rattle.kn_h2_state.specs.declared.state.State.{State}
use Rattle.kn_h2_state.specs.Feeding.{after_frame, after_frames}
use Rattle.kn_h2_state.specs.Limits.{reply_limit}
use Rattle.kn_h2_state.specs.Outgoing.{reply_bytes}
use Rattle.kn_h2_state.specs.Rules.{is_client, verdict}
use Rattle.kn_h2_state.specs.Holding.{Holds}
use Rattle.kn_h2_state.specs.Preorder.{Accepts, HasRoomFor, HearsMore}
use Rattle.kn_facing.specs.Ways.{Way, delivered, IsWhole}
use Rattle.kn_facing.specs.Facing.{coming, asking, IsFollowed, Awaits, IsPlain, AreTaken}

-- ---- frames one behind the other

-- frames that come behind others are looked at once these were read
abbrev pub AcceptsJoin : Type 0
AcceptsJoin = (s : State) (fs gs : List Frame) → Accepts s fs → Accepts (after_frames s fs) gs → Accepts s (fs ++ gs)

abbrev pub AcceptsPart : Type 0
AcceptsPart = (s : State) (fs gs : List Frame) → Accepts s (fs ++ gs) → Accepts s fs × Accepts (after_frames s fs) gs

-- ---- a piece that comes

-- bytes that end between two frames are no fault, however they are cut
abbrev pub NoFaultBefore : Type 0
NoFaultBefore = (w : Way) (piece rest : List ℕ) → w.pipe ≡ piece ++ rest → IsWhole w → fault_in (after_bytes w.to.cutter piece).phase ≡ None

-- a piece that is read leaves the rest on its way
abbrev pub ReadsOn : Type 0
ReadsOn = (w : Way) (piece rest : List ℕ) → w.pipe ≡ piece ++ rest → w.to.state.failed ≡ None
    → coming w ≡ frames_in w.to.cutter piece ++ coming (delivered piece rest w)

-- ---- what an end does of its own

-- it still takes what is on its way, and hears at least as much behind it
pub record StillTakes (s t : State) (fs : List Frame) : Type 0 where
  pub accepts : Accepts t fs
  pub more : HearsMore (after_frames s fs) (after_frames t fs)

abbrev pub OwnStepsTake : Type 0
OwnStepsTake = (s t : State) (fs : List Frame) → Holds s → Holds t → HearsMore s t → HasRoomFor s fs → HasRoomFor t fs → Accepts s fs → StillTakes s t fs

-- what the other end may write next is still taken where this one hears at least as much
abbrev pub StaysFollowed : Type 0
StaysFollowed = (s t u : State) → Holds s → is_client t.role ≡ not (is_client s.role) → HearsMore t u → IsFollowed s t → IsFollowed s u

-- A frame that this end reads leaves the other taking what it may write next, and a client no further on than it was begun.
pub record ReadsOnFollowed (s t : State) : Type 0 where
  pub followed : IsFollowed s t
  pub awaits : Awaits s t

abbrev pub FramesKeepFollowed : Type 0
FramesKeepFollowed = (s t : State) (f : Frame) → Holds s → Holds (after_frame s f) → s.failed ≡ None → verdict s f ≡ None → IsPlain f → is_client t.role ≡ not (is_client s.role) → IsFollowed s t → Awaits s t
    → (is_client t.role ≡ true → (after_frame s f).opened ≤ t.opened) → ReadsOnFollowed (after_frame s f) t

-- ---- replies

-- all of them are read: nothing fails, and each that asks adds 17 bytes of reply frames at most
pub record AreRead (s : State) (fs : List Frame) : Type 0 where
  pub room : HasRoomFor s fs
  pub goes : (after_frames s fs).failed ≡ None
  pub replies : reply_bytes (after_frames s fs).out ≤ reply_bytes s.out + 17 * asking fs

-- Frames that break no rule are read where there is room for the replies that they may ask for, and one stream was
-- opened at most.
abbrev pub FewAreRead : Type 0
FewAreRead = (s : State) (fs : List Frame) → Holds s → s.failed ≡ None → AllByRecursion IsWithinLimits fs → Accepts s fs
    → reply_bytes s.out + 17 * asking fs ≤ reply_limit → (after_frames s fs).opened ≤ 1 → AreRead s fs

-- What s takes, t takes, which hears at least as much: the frames that are on their way when an end does a step of its own.
pub record AreTakenToo (s t : State) (fs : List Frame) : Type 0 where
  pub taken : AreTaken t fs
  pub more : HearsMore (after_frames s fs) (after_frames t fs)
  pub goes : (after_frames t fs).failed ≡ None

abbrev pub MoreAreTaken : Type 0
MoreAreTaken = (s t : State) (fs : List Frame) → Holds s → Holds t → HearsMore s t → s.failed ≡ None → t.failed ≡ None → AllByRecursion IsWithinLimits fs → AreTaken s fs
    → reply_bytes s.out + 17 * asking fs ≤ reply_limit → reply_bytes t.out + 17 * asking fs ≤ reply_limit → (is_client s.role ≡ false → (after_frames s fs).opened ≤ 1) → AreTakenToo s t fs
