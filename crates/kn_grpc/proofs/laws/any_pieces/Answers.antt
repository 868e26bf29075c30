use Rattle.kn_grpc.proofs.Streams.{pieces, fed_pieces}
use Rattle.kn_grpc.proofs.laws.any_pieces.Goals as goal

pub returns-clause-state : goal.returns-clause-state
returns-clause-state c = fed_pieces

pub returns-clause-count : goal.returns-clause-count
returns-clause-count c kept xs ys = (pieces kept xs ys).1
