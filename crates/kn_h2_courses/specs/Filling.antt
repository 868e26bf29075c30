-- How much waits for the socket after a move.
use Rattle.std.specs.Prelude.{◌≡◌, ◌≤◌, Bool, true, false, not, length}
use Rattle.kn_h2_state.specs.declared.moves.Move.{Move}
use Rattle.kn_h2_state.specs.declared.moves.Move.TheVariants.{GrantAll, Grant, Send, End, Stop}
use Rattle.kn_h2_state.specs.declared.state.State.{State}
use Rattle.kn_h2_state.specs.Rules.{is_client}
use Rattle.kn_h2_state.specs.Moves.{may, after_move}
use Rattle.kn_h2_state.specs.Holding.{Holds}

-- the move ends a stream with trailers, as a server's does
abbrev pub has_trailers : State → Move → Bool
has_trailers s GrantAll = false
has_trailers s (Grant n) = false
has_trailers s (Send n count) = false
has_trailers s (End n) = not (is_client s.role)
has_trailers s (Stop n) = false

-- A move is made only while fewer than 16,384 bytes wait, and one without trailers writes one frame: then at most 32,776 wait.
abbrev pub MovesFillLittle : Type 0
MovesFillLittle = (s : State) (m : Move) → Holds s → may s m ≡ true → has_trailers s m ≡ false → length (after_move s m).out.bytes ≤ 32776
