use Rattle.kn_h2_courses.proofs.QueueLaws.{queued_is_sent}
use Rattle.kn_h2_courses.proofs.laws.queued_is_sent.Goals as goal

pub returns : goal.returns
returns c = queued_is_sent
