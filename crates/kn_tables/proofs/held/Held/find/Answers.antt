use Rattle.std.proofs.Common.{◌∙◌, ap, w64}
use Rattle.std.proofs.Math.Facts.{to_z-of_z}
use Rattle.kn_tables.specs.Indexed.{entry_at}
use Rattle.kn_tables.proofs.HeldLemmas.{connect_found}
use Rattle.kn_tables.proofs.held.Held.find.Goals as goal

pub returns : goal.returns
returns c =
    let fits = to_z-of_z {w = w64} {z = c.args.connect_id} c.ranges.connect_id in
    rw (c.entry_at.ensures, c.copied.ensures, ← c.self.view_is) (ap (entry_at c.self.inside.by_dial.entries) (rw fits at c.get.ensures.value) ∙ connect_found c.self.inside c.self.invariant c.args.link c.args.connect_id)
