use Rattle.kn_facing.proofs.OwnSumLemmas.{moves_shift_both, calls_leave_both}
use Rattle.kn_facing.proofs.laws.own_steps_move_windows.Goals as goal

pub returns : goal.returns
returns c = record {
  moves = moves_shift_both c.own_steps_are_heard.ensures.steps c.sending_laws.ensures.keeps c.windows_move.ensures.one;
  calls = calls_leave_both;
}
