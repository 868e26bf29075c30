-- Each kind of packet by itself.
use Rattle.kn_packets.proofs.ClientMoves.{answer_lifts, bytes_lift}
use Rattle.kn_packets.proofs.client_laws.client_takes_answers_and_bytes.Goals as goal

pub returns : goal.returns
returns c = record { answers = answer_lifts; bytes = bytes_lift }
