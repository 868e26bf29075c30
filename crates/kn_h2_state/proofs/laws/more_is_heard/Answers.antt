use Rattle.kn_h2_state.proofs.PreorderLaws.{more_is_heard}
use Rattle.kn_h2_state.proofs.MoreLaws.{frames_keep_more, more_is_accepted}
use Rattle.kn_h2_state.proofs.laws.more_is_heard.Goals as goal

pub returns-clause-rules : goal.returns-clause-rules
returns-clause-rules c = more_is_heard

pub returns-clause-frames : goal.returns-clause-frames
returns-clause-frames c = frames_keep_more

pub returns-clause-lists : goal.returns-clause-lists
returns-clause-lists c = more_is_accepted
