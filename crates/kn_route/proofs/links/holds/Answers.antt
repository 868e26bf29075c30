use Rattle.std.proofs.Common.{sym}
use Rattle.kn_route.proofs.PlaceLemmas.{any_there, any_nowhere}
use Rattle.kn_route.proofs.links.holds.Goals as goal

pub returns-then-place-links : goal.returns-then-place-links
returns-then-place-links c = any_there c.args.number c.args.links.now c.place_of-place.result c.index-links-place.result c.place_of-place.ensures c.if-place-links.true

pub returns-else-place-links : goal.returns-else-place-links
returns-else-place-links c = sym (any_nowhere c.args.number c.args.links.now c.place_of-place.result c.place_of-place.ensures c.if-place-links.false)
