-- Two ends of one connection that face each other, with the frames that are on their way between them.
use Rattle.std.specs.Prelude.{◌≡◌, ◌⊎◌, ◌<◌, ℕ, ℤ, pos, ◌+◌, ◌*◌, ◌+ℤ◌, ◌-ℤ◌, ◌≤◌, ◌==◌, Bool, true, false, not, ◌&&◌, List, [], ◌∷◌, ◌++◌, length, None, Some, if◌then◌else◌}
use Rattle.std.specs.List.{AllByRecursion}
use Rattle.kn_frames.specs.declared.frame.Frame.{Frame}
use Rattle.kn_frames.specs.Frames.{IsWithinLimits}
use Rattle.kn_hpack.specs.Fields.{Field}
use Rattle.kn_hpack.specs.Encoding.{block_of}
use Rattle.kn_hpack.specs.RoundTrip.{IsSmallList}
use Rattle.kn_h2_state.specs.declared.moves.Move.{Move}
use Rattle.kn_h2_state.specs.declared.moves.Move.TheVariants.{GrantAll, Grant, Send, End, Stop}
use Rattle.kn_h2_state.specs.declared.role.Role.TheVariants.{Server, Client}
use Rattle.kn_h2_state.specs.declared.stream.Stream.{Stream}
use Rattle.kn_h2_state.specs.declared.state.State.{State}
use Rattle.kn_h2_state.specs.Limits.{default_window, frame_limit}
use Rattle.kn_h2_state.specs.Outgoing.{reply_bytes}
use Rattle.kn_h2_state.specs.Payloads.{has}
use Rattle.kn_h2_state.specs.Streams.{stream_at, on_open}
use Rattle.kn_h2_state.specs.Heads.{is_malformed_request}
use Rattle.kn_h2_state.specs.Rules.{is_client}
use Rattle.kn_h2_state.specs.Feeding.{after_frame, after_frames}
use Rattle.kn_h2_state.specs.Calls.{fresh_state, text_of, refusal, queue_refusal, takes_more, after_take, after_begin, after_queue, after_finish, after_answer, after_took}
use Rattle.kn_h2_state.specs.Moves.{may, after_move, headers_frames}
use Rattle.kn_h2_state.specs.Holding.{Holds}
use Rattle.kn_h2_state.specs.Preorder.{HearsMore, OwnFacts}
use Rattle.kn_h2_state.specs.Wire.{frame, ends_in, grants_in, data_lengths_in, head_list, move_frames}
use Rattle.kn_h2.specs.Written.{opening_list, begin_list}
use Rattle.kn_facing.specs.Facing.{emptied, IsFollowed, Awaits, AreTaken, IsResponse, asking}
use Rattle.kn_facing.specs.Sums.{MayCome, MayGo, StreamSum}

-- ---- windows of the connection

-- how much DATA is on its way, with its padding
unfoldable pub all_lengths : List Frame → ℕ
all_lengths [] = 0
all_lengths (f ∷ fs) = (if f.kind == 0 then length f.payload else 0) + all_lengths fs

-- what the one end may send, with the text and the grants on their way, is what the other has room for
abbrev pub ConnectionSum : State → List Frame → State → List Frame → Type 0
ConnectionSum s fs t back = s.send +ℤ pos (all_lengths fs + grants_in 0 back) ≡ t.receive

-- ---- one end, and one way

-- This end has not ended its half of the stream: the half is open, or the stream is not begun yet.
abbrev pub HasNotEnded : State → ℕ → Type 0
HasNotEnded s n = ((a : Stream) × (stream_at s.streams n ≡ Some a) × (a.own_open ≡ true)) ⊎ (s.opened < n)

-- at a server text and an end wait on no stream that is not answered
abbrev pub AnswersFirst : State → Type 0
AnswersFirst s = is_client s.role ≡ false → (n : ℕ) (st : Stream) → stream_at s.streams n ≡ Some st → st.answered ≡ false → (length st.queue ≡ 0) × (st.finish ≡ None)

-- it has not failed, its peer set no other window, and one stream was begun at most
pub record IsEnd (s : State) : Type 0 where
  pub holds : Holds s
  pub facts : OwnFacts s
  pub goes : s.failed ≡ None
  pub initial : s.initial ≡ default_window
  pub one : s.opened ≤ 1
  pub first : AnswersFirst s

-- What s wrote, and is on its way to t, t takes; and what s may write next, t takes behind it. A reply is at most 17
-- bytes; the rest of 65,536 is for the answers of this end's own. No frame ends a half that s has not ended.
pub record IsSound (t : State) (fs : List Frame) (s : State) : Type 0 where
  pub limits : AllByRecursion IsWithinLimits fs
  pub taken : AreTaken (emptied t) fs
  pub followed : IsFollowed s (after_frames (emptied t) fs)
  pub awaits : Awaits s (after_frames (emptied t) fs)
  pub replies : reply_bytes t.out + 17 * asking fs ≤ 32768
  pub ends : (n : ℕ) → HasNotEnded s n → ends_in n fs ≡ 0

-- ---- both

-- The ends a and b of a connection, the frames on their way from a to b, and those from b to a.
pub record Faces (a b : State) (ab ba : List Frame) : Type 0 where
  pub other : is_client b.role ≡ not (is_client a.role)
  pub end_a : IsEnd a
  pub end_b : IsEnd b
  pub to_b : IsSound b ab a
  pub to_a : IsSound a ba b
  pub sum_ab : (n : ℕ) → StreamSum n a ab b ba
  pub sum_ba : (n : ℕ) → StreamSum n b ba a ab
  pub all_ab : ConnectionSum a ab b ba
  pub all_ba : ConnectionSum b ba a ab

-- they face each other, whichever is named first
abbrev pub FacesTurn : Type 0
FacesTurn = (a b : State) (ab ba : List Frame) → Faces a b ab ba → Faces b a ba ab

-- ---- a frame that is read

-- SETTINGS are acknowledged, and nothing else is answered
abbrev pub acknowledged : Frame → List Frame
acknowledged f = if (f.kind == 4) && not (has f 1) then frame 4 1 0 [] ∷ [] else []

-- The first frame on its way is read, and they face each other still.
abbrev pub FramesKeepFaces : Type 0
FramesKeepFaces = (a b : State) (f : Frame) (ab ba : List Frame) → Faces a b (f ∷ ab) ba → Faces a (after_frame b f) ab (ba ++ acknowledged f)

-- ---- what an end does of its own

-- From s to t an end writes the frames fs, which the other end takes that is u by then; it goes on to hear all that it heard.
pub record IsStep (s t : State) (fs : List Frame) (u : State) : Type 0 where
  pub still : IsEnd t
  pub role : t.role ≡ s.role
  pub hears : HearsMore s t
  pub limits : AllByRecursion IsWithinLimits fs
  pub taken : AreTaken u fs
  pub followed : IsFollowed t (after_frames u fs)
  pub awaits : Awaits t (after_frames u fs)
  pub ends : (n : ℕ) → HasNotEnded t n → ends_in n fs ≡ 0
  pub goes : (n : ℕ) (x : ℤ) → MayGo t n x → MayGo s n (x +ℤ pos (data_lengths_in n fs))
  pub comes : (n : ℕ) (y : ℤ) → MayCome t n y → MayCome s n (y -ℤ pos (grants_in n fs))
  pub all_goes : s.send ≡ t.send +ℤ pos (all_lengths fs)
  pub all_comes : t.receive ≡ s.receive +ℤ pos (grants_in 0 fs)

-- Such a step leaves them facing each other, where the replies have room that wait and that may be asked for, and the
-- streams that it begins stay as they are until the other end comes to know them.
abbrev pub StepsKeepFaces : Type 0
StepsKeepFaces = (a b t : State) (fs ab ba : List Frame) → Faces a b ab ba → IsStep a t fs (after_frames (emptied b) ab) → Awaits b (after_frames (emptied t) ba)
    → reply_bytes t.out + 17 * asking ba ≤ 32768 → reply_bytes b.out + 17 * asking (ab ++ fs) ≤ 32768 → Faces t b (ab ++ fs) ba

-- ---- calls that write nothing

-- text is taken, not more than there is
abbrev pub TakesKeepFaces : Type 0
TakesKeepFaces = (a b : State) (ab ba : List Frame) (n count : ℕ) → Faces a b ab ba → count ≤ length (text_of a n) → Faces (after_take n count a) b ab ba

-- what waits for the socket goes on its way: it is counted among the frames that are on it already
abbrev pub TookKeepsFaces : Type 0
TookKeepsFaces = (a b : State) (ab ba : List Frame) (count : ℕ) → Faces a b ab ba → Faces (after_took count a) b ab ba

-- at a server the stream is answered
abbrev pub IsAnsweredAt : State → ℕ → Type 0
IsAnsweredAt s n = is_client s.role ≡ false → on_open s.streams n (λ st. st.answered) ≡ true

-- bytes are queued
abbrev pub QueuesKeepFaces : Type 0
QueuesKeepFaces = (a b : State) (ab ba : List Frame) (n : ℕ) (bytes : List ℕ) → Faces a b ab ba → queue_refusal a n ≡ None → IsAnsweredAt a n → Faces (after_queue n bytes a) b ab ba

-- an end is asked for
abbrev pub FinishesKeepFaces : Type 0
FinishesKeepFaces = (a b : State) (ab ba : List Frame) (n : ℕ) (trailers : List Field) → Faces a b ab ba → refusal takes_more a n ≡ None → IsAnsweredAt a n → Faces (after_finish n trailers a) b ab ba

-- ---- the beginning

-- A new client's end and a new server's, before anything is read: their openings are on their way.
abbrev pub FacesBegin : Type 0
FacesBegin = Faces (fresh_state Client) (fresh_state Server) (opening_list Client) (opening_list Server)

-- ---- what is written where there is room

-- a grant, of the connection or of a stream, or text
abbrev pub IsCarrying : Move → Type 0
IsCarrying GrantAll = Unit {0}
IsCarrying (Grant n) = Unit {0}
IsCarrying (Send n count) = Unit {0}
IsCarrying (End n) = ⊥
IsCarrying (Stop n) = ⊥

abbrev pub MovesKeepFaces : Type 0
MovesKeepFaces = (a b : State) (ab ba : List Frame) (m : Move) → Faces a b ab ba → may a m ≡ true → IsCarrying m → Faces (after_move a m) b (ab ++ move_frames a m) ba

-- ---- heads

-- The fields are a list that the other end reads, and their block stands in one frame.
pub record IsOneFrame (wrote : Bool) (fields : List Field) : Type 0 where
  pub small : IsSmallList fields
  pub short : length (block_of wrote fields) ≤ frame_limit

-- a client begins its one stream, by a head that is a request, where the reply that it may ask for has room
abbrev pub BeginKeepsFaces : Type 0
BeginKeepsFaces = (a b : State) (ab ba : List Frame) (fields : List Field) → Faces a b ab ba → is_client a.role ≡ true → a.opened ≡ 0 → is_malformed_request fields ≡ false → IsOneFrame a.encoder fields
    → reply_bytes b.out + 17 * asking (ab ++ begin_list a fields) ≤ 32768 → Faces (after_begin fields a) b (ab ++ begin_list a fields) ba

-- a server answers a stream for the first time, by the head of a response, where its reply and those to come have room
abbrev pub AnswerKeepsFaces : Type 0
AnswerKeepsFaces = (a b : State) (ab ba : List Frame) (n : ℕ) (fields : List Field) → Faces a b ab ba → is_client a.role ≡ false → refusal takes_more a n ≡ None → on_open a.streams n (λ st. st.answered) ≡ false
    → IsResponse fields → IsOneFrame a.encoder fields → reply_bytes a.out + length (headers_frames n 0 (block_of a.encoder fields)) + 17 * asking ba ≤ 32768
    → reply_bytes b.out + 17 * asking (ab ++ head_list n 0 (block_of a.encoder fields)) ≤ 32768 → Faces (after_answer n fields a) b (ab ++ head_list n 0 (block_of a.encoder fields)) ba

-- ---- the end of a stream

-- A server ends its half of a stream by trailers that stand in one frame, where the reply that they count for has room.
abbrev pub EndKeepsFaces : Type 0
EndKeepsFaces = (a b : State) (ab ba : List Frame) (n : ℕ) → Faces a b ab ba → is_client a.role ≡ false → may a (End n) ≡ true
    → ((st : Stream) (trailers : List Field) → stream_at a.streams n ≡ Some st → st.finish ≡ Some trailers → IsOneFrame a.encoder trailers)
    → reply_bytes b.out + 17 * asking (ab ++ move_frames a (End n)) ≤ 32768 → Faces (after_move a (End n)) b (ab ++ move_frames a (End n)) ba

-- A client ends its half by an empty DATA frame.
abbrev pub ClientEndKeepsFaces : Type 0
ClientEndKeepsFaces = (a b : State) (ab ba : List Frame) (n : ℕ) → Faces a b ab ba → is_client a.role ≡ true → may a (End n) ≡ true → Faces (after_move a (End n)) b (ab ++ move_frames a (End n)) ba

-- A server tells a client that goes on to stop, where the reply frame has room
abbrev pub StopKeepsFaces : Type 0
StopKeepsFaces = (a b : State) (ab ba : List Frame) (n : ℕ) → Faces a b ab ba → is_client a.role ≡ false → may a (Stop n) ≡ true → reply_bytes (after_move a (Stop n)).out + 17 * asking ba ≤ 32768
    → Faces (after_move a (Stop n)) b (ab ++ move_frames a (Stop n)) ba
