use Rattle.kn_call_heads.proofs.FrameFacts.{calls_are_one_frame, answers_are_one_frame, refusals_are_one_frame, ends_are_one_frame}
use Rattle.kn_call_heads.proofs.laws.heads_stand_in_one_frame.Goals as goal

pub returns : goal.returns
returns c =
    let short = c.own_blocks_are_short.ensures in
    record { calls = calls_are_one_frame short; answers = answers_are_one_frame short; refusals = refusals_are_one_frame short; ends = ends_are_one_frame short }
