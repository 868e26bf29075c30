use Rattle.std.proofs.Common.{arith, ◌-◌}
use Rattle.kn_hpack.proofs.Rooms.{power_small, power_one, power_more}
use Rattle.kn_hpack.proofs.integers.+tail_of.Goals as goal

pub returns-then-byte-lt128-clause-bound : goal.returns-then-byte-lt128-clause-bound
returns-then-byte-lt128-clause-bound t c = omega (arith, power_one c.args.left c.if-left-eq0.false)

pub overflow_mul-result : goal.overflow_mul-result
overflow_mul-result t c = omega (arith, power_small (c.args.left - 1) (omega arith), c.in_ok-high-in-len1-up.ensures.bound)

pub overflow_add-result : goal.overflow_add-result
overflow_add-result t c = omega (arith, power_small (c.args.left - 1) (omega arith), c.in_ok-high-in-len1-up.ensures.bound)

pub returns-in_ok-high-in-len1-up-clause-bound : goal.returns-in_ok-high-in-len1-up-clause-bound
returns-in_ok-high-in-len1-up-clause-bound t c =
    power_more (c.args.left - 1) c.args.left c.from-in-len1-up.result c.in_ok-high-in-len1-up.high (omega arith) (omega arith) c.in_ok-high-in-len1-up.ensures.bound
