use Rattle.std.proofs.Common.{◌<◌, ◌≤◌, length, arith}
use Rattle.kn_rising.specs.Members.{place_in}
use Rattle.kn_rising.proofs.PlaceLemmas.{removed_members, removed_none}
use Rattle.kn_rising.proofs.rising.Rising.remove.Goals as goal

pub invariant_of-self : goal.invariant_of-self
invariant_of-self g c =
    let place = c.if-place-len.true in
    let len = c.len.ensures in
    let within : c.place_of-place.result < length c.self.inside.numbers.items = omega arith in
    rw (c.remove.ensures.items, c.remove-then-place-len.ensures.items)
    (removed_members c.self.inside.numbers.items c.self.inside.items.items c.place_of-place.result c.self.invariant within)

pub returns-else-place-len : goal.returns-else-place-len
returns-else-place-len g c =
    let place = c.place_of-place.ensures in
    let past = c.if-place-len.false in
    let len = c.len.ensures in
    let beyond : length c.self.inside.numbers.items ≤ place_in c.deref.result.now c.args.number = omega arith in
    rw (← c.self.view_is) (removed_none c.deref.result.now c.self.inside.numbers.items c.self.inside.items.items c.args.number c.deref.ensures.value c.self.invariant beyond)
