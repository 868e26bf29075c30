use Rattle.std.proofs.Common.{◌≤◌, length, refl, ap, ◌∙◌, arith}
use Rattle.std.specs.Vec.{vec_len}
use Rattle.std.proofs.lemmas.Option.{slice_get_past}
use Rattle.std.proofs.Math.Seq.{map-set_same}
use Rattle.kn_ends.proofs.InletLemmas.{stream_of, is_past}
use Rattle.kn_ends.proofs.inlets.read_in.Goals as goal

pub returns-in-Some-clause-same : goal.returns-in-Some-clause-same
returns-in-Some-clause-same c =
    map-set_same stream_of c.args.items.now.items c.args.place c.read_one.new.inlet c.in-Some.inlet.now (c.read_one.ensures.same ∙ ap stream_of c.in-Some.ensures.value)

pub returns-in-None-clause-count : goal.returns-in-None-clause-count
returns-in-None-clause-count c =
    let past = is_past c.args.place (vec_len c.args.items.now) c.in-None.ensures.variant.1 in
    let beyond : length c.args.items.now.items ≤ c.args.place = omega arith in
    rw (slice_get_past c.args.items.now.items c.args.place beyond) refl
