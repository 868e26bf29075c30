-- Nothing is there of which anything is said.
use Rattle.kn_packets.proofs.Starts.{keys_start}
use Rattle.kn_packets.proofs.key_laws.keys_hold_at_the_start.Goals as goal

pub returns : goal.returns
returns c = record { start = keys_start }
