use Rattle.kn_hpack.proofs.StaticFacts.{static_at}
use Rattle.kn_hpack.proofs.static_table.static_field.Goals as goal

pub returns : goal.returns
returns c = rw (c.part.ensures, c.part-2.ensures) (static_at c.args.place c.requires)
