use Rattle.std.proofs.Common.{refl}
use Rattle.kn_world.proofs.FlowLemmas.{take_further, drop_further}
use Rattle.kn_world.proofs.flow.Flow.pass.Goals as goal

pub returns : goal.returns
returns c = rw (
  ← c.self.view_is,
  c.min.ensures,
  c.len.ensures,
  take_further c.self.inside.place c.self.inside.bytes c.args.count c.self.invariant,
  drop_further c.self.inside.place c.self.inside.bytes c.args.count c.self.invariant,
) refl
