use Rattle.std.proofs.Common.{arith}
use Rattle.kn_h2_state.proofs.PlaceLemmas.{searched_start, searched_more, searched_found, searched_writes, searched_none}
use Rattle.kn_h2_state.proofs.streams.place_of.Goals as goal

pub returns-then-items-place-clause-found : goal.returns-then-items-place-clause-found
returns-then-items-place-clause-found c =
    searched_found c.args.items.now c.args.number c.loop-place.place c.index-items-place.result c.loop-place.invariant c.loop-place-test.true c.if-items-place.true

pub returns-then-items-place-clause-writes : goal.returns-then-items-place-clause-writes
returns-then-items-place-clause-writes c = λ w l.
    searched_writes c.args.items.now c.args.number c.loop-place.place c.index-items-place.result w c.loop-place.invariant l c.if-items-place.true

pub loop-place-init : goal.loop-place-init
loop-place-init c = searched_start c.args.items.now c.args.number

pub loop-place-preserved : goal.loop-place-preserved
loop-place-preserved c =
    searched_more c.args.items.now c.args.number c.loop-place.place c.index-items-place.result c.loop-place.invariant c.loop-place-test.true c.if-items-place.false

pub returns-clause-found : goal.returns-clause-found
returns-clause-found c = searched_none c.args.items.now c.args.number c.loop-place.place c.loop-place.invariant (omega arith)
