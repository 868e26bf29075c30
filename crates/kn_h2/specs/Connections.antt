-- A connection from its parts, and what it notes of its work.
use Rattle.std.specs.Prelude.{◌≡◌, Bool, true, false}
use Rattle.kn_frames.specs.Readers.{Reading}
use Rattle.kn_h2_state.specs.declared.state.State.{State}
use Rattle.kn_h2_state.specs.declared.moves.Move.{Move}
use Rattle.kn_h2_state.specs.Moves.{is_due}
use Rattle.kn_h2_state.specs.Feeding.{Connection}

abbrev pub connection : Reading → State → Connection
connection cutter state = record { cutter = cutter; state = state }

-- where it is noted that nothing is due, nothing is
abbrev pub NotesDue : Bool → State → Type 0
NotesDue true s = Unit {0}
NotesDue false s = (m : Move) → is_due s m ≡ false
