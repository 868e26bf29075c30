use Rattle.std.proofs.Common.{◌∙◌, ap, subst, arith}
use Rattle.std.specs.Prelude.{slice_set}
use Rattle.kn_route.specs.LinkLists.{drained}
use Rattle.kn_route.specs.Places.{IsOnlyPlace}
use Rattle.kn_route.proofs.PlaceLemmas.{drained_there, drained_nowhere}
use Rattle.kn_route.proofs.links.drain_all.Goals as goal

pub returns-then-place-len : goal.returns-then-place-len
returns-then-place-len c =
    let only = subst (λ ls. IsOnlyPlace c.args.number ls c.place_of-place.result) c.deref.ensures.value c.place_of-place.ensures in
    ap (slice_set c.args.links.now.items c.place_of-place.result) (c.drain_link.ensures ∙ ap (drained c.args.number) c.index_mut.ensures.value)
    ∙ drained_there c.args.number c.args.links.now.items c.place_of-place.result c.index_mut.result.now only (omega (arith, c.if-place-len.true, c.len.ensures))

pub returns-else-place-len : goal.returns-else-place-len
returns-else-place-len c =
    let only = subst (λ ls. IsOnlyPlace c.args.number ls c.place_of-place.result) c.deref.ensures.value c.place_of-place.ensures in
    drained_nowhere c.args.number c.args.links.now.items c.place_of-place.result only (omega (arith, c.if-place-len.false, c.len.ensures))
