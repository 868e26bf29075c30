use Rattle.kn_packet.proofs.RoundTrip.{spelling_reads}
use Rattle.kn_packet.proofs.viewing.spelling_reads.Goals as goal

pub returns : goal.returns
returns c = spelling_reads
