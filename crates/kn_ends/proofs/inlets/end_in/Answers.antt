use Rattle.std.proofs.Common.{ap, ◌∙◌}
use Rattle.std.proofs.Math.Seq.{map-set_same}
use Rattle.kn_ends.proofs.InletLemmas.{stream_of}
use Rattle.kn_ends.proofs.inlets.end_in.Goals as goal

pub returns-in-Some-clause-same : goal.returns-in-Some-clause-same
returns-in-Some-clause-same c =
    map-set_same stream_of c.args.items.now.items c.args.place c.end_one.new.inlet c.in-Some.inlet.now (ap stream_of c.end_one.ensures ∙ ap stream_of c.in-Some.ensures.value)
