use Rattle.std.proofs.Common.{ap, arith}
use Rattle.kn_grpc.specs.Messages.{length_of}
use Rattle.kn_grpc.proofs.States.{count_of_body}
use Rattle.kn_grpc.proofs.state.take_body.Goals as goal

pub returns-in-Ok-clause-count : goal.returns-in-Ok-clause-count
returns-in-Ok-clause-count c =
    let s = c.args.state.now in
    let k = count_of_body s.head s.body c.args.piece.now c.requires.sound c.requires.head c.requires.well in
    let n = ap length_of c.as_slice.ensures in
    omega (arith, k, n, c.min-count.ensures, c.length_of.ensures.value, c.len.ensures)
