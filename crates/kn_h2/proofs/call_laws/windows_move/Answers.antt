use Rattle.kn_h2.proofs.OwnWindows.{move_shifts, moves_shift, connection_rises}
use Rattle.kn_h2.proofs.call_laws.windows_move.Goals as goal

pub returns : goal.returns
returns c = record { one = move_shifts; all = moves_shift; connection = connection_rises }
