use Rattle.std.proofs.Common.{arith, ap, ◌-◌}
use Rattle.kn_hpack.specs.Fields.{Table}
use Rattle.kn_hpack.proofs.IndexFacts.{dynamic_some, dynamic_none}
use Rattle.kn_hpack.proofs.dynamic_table.Dynamic.field_at.Goals as goal

pub returns-in-Some : goal.returns-in-Some
returns-in-Some c =
    rw (c.name.ensures, c.value.ensures)
    (dynamic_some c.args.self.now c.self.inside.pairs.items c.args.index (c.args.index - 1 - 61) c.in-Some.pair.now (ap (λ (t : Table). t.fields) c.self.view_is) (omega arith) c.in-Some.ensures.item.0 c.in-Some.ensures.lookup)

pub returns-in-None : goal.returns-in-None
returns-in-None c =
    dynamic_none c.args.self.now c.self.inside.pairs.items c.args.index (c.args.index - 1 - 61) (ap (λ (t : Table). t.fields) c.self.view_is) (omega arith) c.in-None.ensures.item.0
