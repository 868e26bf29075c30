-- A stream is the same under its new number, and a word of a connection joins its bytes.
use Rattle.kn_packets.proofs.JoinedBytes.{same_when_joined}
use Rattle.kn_packets.proofs.StreamNumbers.{same_when_numbered}
use Rattle.kn_packets.proofs.client_laws.numbers_and_bounds_are_unseen.Goals as goal

pub returns : goal.returns
returns c = record { numbered = same_when_numbered; joins = same_when_joined }
