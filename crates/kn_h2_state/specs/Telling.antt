-- What a connection tells, and when it tells its end.
use Rattle.std.specs.Prelude.{◌≡◌, ◌≢◌, ℕ, Bool, true, false, List, [], ◌∷◌, ◌++◌, Option, Some, None}
use Rattle.std.specs.List.{AllByRecursion}
use Rattle.kn_frames.specs.declared.frame.Frame.{Frame}
use Rattle.kn_hpack.specs.Fields.{Field}
use Rattle.kn_h2_state.specs.declared.event.H2Event.{H2Event}
use Rattle.kn_h2_state.specs.declared.event.H2Event.TheVariants.{Opened, Head, Text, Ended, Reset, Away, Closed}
use Rattle.kn_h2_state.specs.declared.moves.Move.{Move}
use Rattle.kn_h2_state.specs.declared.state.State.{State}
use Rattle.kn_h2_state.specs.Rules.{verdict}
use Rattle.kn_h2_state.specs.Feeding.{after_frame}
use Rattle.kn_h2_state.specs.Moves.{after_move}
use Rattle.kn_h2_state.specs.Calls.{after_take, after_begin, after_queue, after_finish, after_answer, after_reset}
use Rattle.kn_h2_state.specs.Laws.{brought}

-- the event that says that the connection failed
abbrev pub is_closing : H2Event → Bool
is_closing (Opened n fields) = false
is_closing (Head n fields) = false
is_closing (Text n) = false
is_closing (Ended n) = false
is_closing (Reset n code) = false
is_closing (Away code) = false
is_closing (Closed code) = true

abbrev pub GoesOn : List H2Event → Type 0
GoesOn events = AllByRecursion (λ e. is_closing e ≡ false) events

-- Closed is told where the connection failed, with its code, as the last event, and nowhere else
abbrev pub EndsAs : Option ℕ → List H2Event → Type 0
EndsAs None events = GoesOn events
EndsAs (Some code) events = (before : List H2Event) × (events ≡ before ++ Closed code ∷ []) × GoesOn before

-- what a connection that had not failed told
pub record Tells (s t : State) : Type 0 where
  pub told : List H2Event
  pub events : t.events ≡ s.events ++ told
  pub ends : EndsAs t.failed told

abbrev pub FramesTell : Type 0
FramesTell = (s : State) (f : Frame) → s.failed ≡ None → Tells s (after_frame s f)

-- nothing is told, and the connection goes on as it did
pub record IsQuiet (s t : State) : Type 0 where
  pub events : t.events ≡ s.events
  pub failed : t.failed ≡ s.failed

-- the calls that write a reply fail the connection where it is one too many; the others tell nothing
pub record CallsTell (s : State) (n : ℕ) : Type 0 where
  pub answer : (fields : List Field) → Tells s (after_answer n fields s)
  pub reset : (code : ℕ) → Tells s (after_reset n code s)
  pub take : (count : ℕ) → IsQuiet s (after_take n count s)
  pub begin : (fields : List Field) → IsQuiet s (after_begin fields s)
  pub queue : (bytes : List ℕ) → IsQuiet s (after_queue n bytes s)
  pub finish : (trailers : List Field) → IsQuiet s (after_finish n trailers s)

-- moves tell nothing, and fail nothing
abbrev pub MovesAreQuiet : Type 0
MovesAreQuiet = (s : State) (m : Move) → IsQuiet s (after_move s m)

-- text comes with its event, which is the first that its frame tells
abbrev pub TextIsTold : Type 0
TextIsTold = (s : State) (f : Frame) (n : ℕ) → s.failed ≡ None → verdict s f ≡ None → brought n s f ≢ []
    → (more : List H2Event) × ((after_frame s f).events ≡ s.events ++ Text n ∷ more)
