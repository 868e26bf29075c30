use Rattle.std.proofs.Common.{arith}
use Rattle.kn_rising.proofs.PlaceLemmas.{inserted_members}
use Rattle.kn_rising.proofs.rising.Rising.insert.Goals as goal

pub insert-requires : goal.insert-requires
insert-requires g c =
    let same = c.self.invariant.same in
    let within = c.in-Err.ensures.2 in
    let seen = c.deref.ensures.len in
    omega arith

pub insert-requires-in-Err : goal.insert-requires-in-Err
insert-requires-in-Err g c =
    let within = c.in-Err.ensures.2 in
    let seen = c.deref.ensures.len in
    let kept = c.reserve.ensures.len in
    omega arith

pub invariant_of-self-in-Err : goal.invariant_of-self-in-Err
invariant_of-self-in-Err g c =
    rw (c.in_ok-insert-in-Err.ensures.items, c.in_ok-insert-in-Err-2.ensures.items, c.reserve.ensures.items)
    (inserted_members c.deref.result.now c.self.inside.numbers.items c.self.inside.items.items c.args.number c.in-Err.place c.args.item
    c.deref.ensures.value c.self.invariant c.in-Err.ensures.0 c.in-Err.ensures.1 c.in-Err.ensures.2)
