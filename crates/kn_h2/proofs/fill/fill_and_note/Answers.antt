-- Something is still due only where the connection has failed or is full.
use Rattle.kn_h2.proofs.FillLemmas.{noted}
use Rattle.kn_h2.proofs.fill.fill_and_note.Goals as goal

pub returns-clause-noted : goal.returns-clause-noted
returns-clause-noted c = noted c.fill_out.new.state c.is_stopped.result c.is_stopped.ensures c.in_ok-fill_out.ensures.filled
