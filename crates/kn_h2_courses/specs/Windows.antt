-- The windows of a connection as sums over its life (RFC 9113, section 6.9).
use Rattle.std.specs.Prelude.{◌≡◌, ℕ, true, pos, ◌+◌, ◌+ℤ◌, ◌-ℤ◌, ◌==◌, List, [], ◌∷◌, length, None, if◌then◌else◌}
use Rattle.kn_frames.specs.declared.frame.Frame.{Frame}
use Rattle.kn_frames.specs.Readers.{Reading, frames_in}
use Rattle.kn_h2_state.specs.declared.role.Role.{Role}
use Rattle.kn_h2_state.specs.declared.moves.Move.{Move}
use Rattle.kn_h2_state.specs.declared.state.State.{State}
use Rattle.kn_h2_state.specs.Limits.{default_window, connection_window}
use Rattle.kn_h2_state.specs.Moves.{may}
use Rattle.kn_h2_state.specs.Wire.{wire_grants, move_frames}
use Rattle.kn_h2.specs.Sending.{spent_by}
use Rattle.kn_h2_courses.specs.Courses.{Course, OfEveryLife, first_reading}

-- how many bytes of DATA frames bring on all streams together, padding included
unfoldable pub all_data_in : List Frame → ℕ
all_data_in [] = 0
all_data_in (f ∷ fs) = (if f.kind == 0 then length f.payload else 0) + all_data_in fs

abbrev pub wire_all_data : Reading → List ℕ → ℕ
wire_all_data r bytes = all_data_in (frames_in r bytes)

-- The sending window is the default, more by all increments that came for the connection, less by all DATA that was sent.
-- The receiving window is what this end begins with, more by all that it granted, less by all DATA that came.
pub record HasWindows (role : Role) (c : Course) : Type 0 where
  pub send : c.connection.state.send ≡ (pos default_window +ℤ pos (wire_grants 0 (first_reading role) c.fed)) -ℤ pos c.spent
  pub receive : c.connection.state.receive ≡ (pos connection_window +ℤ pos c.granted) -ℤ pos (wire_all_data (first_reading role) c.fed)

-- as long as the connection has not failed
abbrev pub WindowsAreSums : Type 0
WindowsAreSums = OfEveryLife (λ n role c. c.connection.state.failed ≡ None → HasWindows role c)

-- What a move takes of the sending window is the DATA, on all streams together, in the frames that it writes.
abbrev pub DataIsSpent : Type 0
DataIsSpent = (s : State) (move : Move) → may s move ≡ true → all_data_in (move_frames s move) ≡ spent_by move
