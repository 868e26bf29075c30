use Rattle.kn_h2.proofs.HoldsLemmas.{content_length, stream_owed_fits}
use Rattle.kn_h2.proofs.text.data_in.Goals as goal

pub data_taken-requires-clause-part : goal.data_taken-requires-clause-part
data_taken-requires-clause-part c = rw c.content-text.ensures (content_length c.args.frame.now)

pub data_taken-requires-clause-stream_owed : goal.data_taken-requires-clause-stream_owed
data_taken-requires-clause-stream_owed c = stream_owed_fits c.args.state.now c.args.frame.now.stream _ c.requires.holds c.requires.limit
