-- What a call does to its own stream, and that it leaves all text but what is taken.
use Rattle.std.specs.Prelude.{◌≡◌, ℕ, Bool, true, false, List, [], ◌++◌, drop, None}
use Rattle.kn_hpack.specs.Fields.{Field}
use Rattle.kn_h2_state.specs.declared.state.State.{State}
use Rattle.kn_h2_state.specs.Streams.{on_open}
use Rattle.kn_h2_state.specs.Calls.{text_of, queue_of, takes_more, refusal, next_number, after_take, after_begin, after_queue, after_finish, after_answer, after_reset}
use Rattle.kn_h2_state.specs.Holding.{Holds}

-- this end's half of the stream is open, and its end was not asked for
abbrev pub takes : State → ℕ → Bool
takes s n = on_open s.streams n takes_more

-- what waits on the stream, and whether it takes more, are these
abbrev pub Waits : State → ℕ → List ℕ → Bool → Type 0
Waits s n bytes more = (queue_of s n ≡ bytes) × (takes s n ≡ more)

-- What waits on the stream of the call: `queue` appends, `reset` drops all, and the others leave it. After `finish` and
-- after `reset` the stream takes nothing more; a stream that begins does, and nothing waits on it.
pub record CallsOnTheirStream (s : State) (n : ℕ) : Type 0 where
  pub queue : (bytes : List ℕ) → refusal takes_more s n ≡ None → Waits (after_queue n bytes s) n (queue_of s n ++ bytes) true
  pub finish : (trailers : List Field) → Waits (after_finish n trailers s) n (queue_of s n) false
  pub reset : (code : ℕ) → Waits (after_reset n code s) n [] false
  pub answer : (fields : List Field) → Waits (after_answer n fields s) n (queue_of s n) (takes s n)
  pub take : (count : ℕ) → Waits (after_take n count s) n (queue_of s n) (takes s n)
  pub begin : (fields : List Field) → Waits (after_begin fields s) (next_number s) [] true

-- The text of the stream m that nobody took: `take` on it drops its front, and no other call changes it.
pub record CallsOnText (s : State) (n m : ℕ) : Type 0 where
  pub take : (count : ℕ) → text_of (after_take n count s) n ≡ drop count (text_of s n)
  pub queue : (bytes : List ℕ) → text_of (after_queue n bytes s) m ≡ text_of s m
  pub finish : (trailers : List Field) → text_of (after_finish n trailers s) m ≡ text_of s m
  pub answer : (fields : List Field) → text_of (after_answer n fields s) m ≡ text_of s m
  pub reset : (code : ℕ) → text_of (after_reset n code s) m ≡ text_of s m
  pub begin : (fields : List Field) → text_of (after_begin fields s) m ≡ text_of s m

abbrev pub CallsChangeTheirStream : Type 0
CallsChangeTheirStream = (s : State) (n : ℕ) → Holds s → CallsOnTheirStream s n

abbrev pub CallsLeaveText : Type 0
CallsLeaveText = (s : State) (n m : ℕ) → Holds s → CallsOnText s n m
