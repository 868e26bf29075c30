use Rattle.std.proofs.Common.{arith, get_or}
use Rattle.kn_packet.proofs.Groups.{power_below, last_below, more_below}
use Rattle.kn_packet.proofs.varint.+varint_within.Goals as goal

pub returns-then-byte-lt128-clause-bound : goal.returns-then-byte-lt128-clause-bound
returns-then-byte-lt128-clause-bound t c = last_below c.args.more _ (omega arith) (omega arith)

pub overflow_mul-result : goal.overflow_mul-result
overflow_mul-result t c =
    let whole = more_below c.args.more c.in-Ok.high 128 (omega arith) (omega arith) c.in-Ok.ensures.bound in
    let top = power_below c.args.more c.requires in
    omega (arith, whole, top)

pub overflow_add-result : goal.overflow_add-result
overflow_add-result t c =
    let whole = more_below c.args.more c.in-Ok.high (get_or c.args.bytes.now 0 0) (omega arith) (omega (arith, c.type_inv.bytes 0)) c.in-Ok.ensures.bound in
    let top = power_below c.args.more c.requires in
    omega (arith, whole, top)

pub returns-in-Ok-clause-bound : goal.returns-in-Ok-clause-bound
returns-in-Ok-clause-bound t c = more_below c.args.more c.in-Ok.high (get_or c.args.bytes.now 0 0) (omega arith) (omega (arith, c.type_inv.bytes 0)) c.in-Ok.ensures.bound
