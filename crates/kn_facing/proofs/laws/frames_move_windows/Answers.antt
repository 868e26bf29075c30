use Rattle.kn_facing.proofs.SumLemmas.{frames_take, frames_grant}
use Rattle.kn_facing.proofs.laws.frames_move_windows.Goals as goal

pub returns : goal.returns
returns c = record {
  takes = frames_take c.opened_is_above.ensures c.windows_follow.ensures.stream;
  grants = frames_grant c.opened_is_above.ensures c.windows_follow.ensures.stream;
}
