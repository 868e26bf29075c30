-- What a piece of the peer's bytes does to the text of a stream that nobody took, and that it is told.
use Rattle.std.specs.Prelude.{◌≡◌, ◌⊎◌, ℕ, List, [], ◌∷◌, ◌++◌}
use Rattle.kn_frames.specs.declared.frame.Frame.{Frame}
use Rattle.kn_h2_state.specs.declared.event.H2Event.{H2Event}
use Rattle.kn_h2_state.specs.declared.event.H2Event.TheVariants.{Text}
use Rattle.kn_h2_state.specs.declared.state.State.{State}
use Rattle.kn_h2_state.specs.Feeding.{Connection, after_frame, after_piece}
use Rattle.kn_h2_state.specs.Calls.{text_of}
use Rattle.kn_h2_state.specs.Holding.{Holds}

-- the text stays as it is, or is gone with a reset
abbrev pub StaysOrGoes : ℕ → State → State → Type 0
StaysOrGoes n s t = (text_of t n ≡ text_of s n) ⊎ (text_of t n ≡ [])

-- text of the stream is told
abbrev pub TellsText : ℕ → List H2Event → Type 0
TellsText n told = (before : List H2Event) × (more : List H2Event) × (told ≡ before ++ Text n ∷ more)

-- Events are told behind the others. The text stays, or is gone with a reset, or that there is text is among them.
pub record BringsText (n : ℕ) (s t : State) : Type 0 where
  pub told : List H2Event
  pub events : t.events ≡ s.events ++ told
  pub text : StaysOrGoes n s t ⊎ TellsText n told

abbrev pub FramesBringText : Type 0
FramesBringText = (s : State) (f : Frame) (n : ℕ) → Holds s → BringsText n s (after_frame s f)

abbrev pub PiecesBringText : Type 0
PiecesBringText = (c : Connection) (piece : List ℕ) (n : ℕ) → Holds c.state → BringsText n c.state (after_piece c piece).state
