use Rattle.kn_h2_state.proofs.WireLaws.{written_is_read}
use Rattle.kn_h2_state.proofs.laws.written_is_read.Goals as goal

pub returns : goal.returns
returns c = written_is_read c.read_as_written.ensures.frames c.read_as_written.ensures.state
