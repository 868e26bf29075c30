-- Each step is gone through.
use Rattle.kn_stream_order.proofs.StepLemmas.{own_keep}
use Rattle.kn_stream_order.proofs.laws.own_steps_keep_queues.Goals as goal

pub returns : goal.returns
returns c = own_keep
