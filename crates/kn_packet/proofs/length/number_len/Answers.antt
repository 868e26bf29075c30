use Rattle.std.proofs.Common.{arith}
use Rattle.kn_packet.proofs.Lengths.{number_length}
use Rattle.kn_packet.proofs.length.number_len.Goals as goal

pub returns-else-n-eq0-clause-len : goal.returns-else-n-eq0-clause-len
returns-else-n-eq0-clause-len c =
    let whole = number_length c.args.number c.args.n c.requires c.if-n-eq0.false in
    let varint = c.varint_len.ensures.len in
    omega (arith, whole, varint)
