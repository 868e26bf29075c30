use Rattle.std.proofs.Common.{arith, ap}
use Rattle.kn_hpack.specs.Fields.{total}
use Rattle.kn_hpack.proofs.TableFacts.{last_counts}
use Rattle.kn_hpack.proofs.GatheredFacts.{too_large, kept_one}
use Rattle.kn_hpack.proofs.gathered.Gathered.keep.Goals as goal

pub returns-then-size-self : goal.returns-then-size-self
returns-then-size-self c = too_large c.args.self.now c.args.field (omega (arith, ap total c.self.view_is, c.self.invariant))

pub invariant_of-self-2 : goal.invariant_of-self-2
invariant_of-self-2 c = (
  omega (arith, last_counts c.push.new.self c.self.inside.headers c.args.field c.in_ok-push.ensures.ok, c.self.invariant),
  omega (arith, c.self.invariant),
)

pub returns : goal.returns
returns c = kept_one c.args.self.now c.push.new.self c.self.inside.headers c.args.field c.self.view_is c.in_ok-push.ensures.ok (omega (arith, ap total c.self.view_is, c.self.invariant))
