use Rattle.std.proofs.Common.{arith}
use Rattle.kn_packet.proofs.Lengths.{some_bytes, one_byte_written, byte_then_written}
use Rattle.kn_packet.proofs.writing.+put_varint_within.Goals as goal

pub returns-then-n-lt128-clause-written : goal.returns-then-n-lt128-clause-written
returns-then-n-lt128-clause-written t c =
    let some = some_bytes c.args.more c.args.n in
    one_byte_written c.args.room.now c.args.at c.args.more c.args.n (omega arith) c.if-more-eq0.false c.if-n-lt128.true

pub returns-clause-written : goal.returns-clause-written
returns-clause-written t c =
    let some = some_bytes c.args.more c.args.n in
    byte_then_written c.args.room.now c.put_varint_within.new.room c.args.at c.put_varint_within.result c.args.more c.args.n (omega arith) c.if-more-eq0.false c.if-n-lt128.false c.put_varint_within.ensures.written
