use Rattle.std.proofs.Common.{arith}
use Rattle.kn_ends.proofs.InletLemmas.{searched_start, searched_more, searched_found, searched_none}
use Rattle.kn_ends.proofs.inlets.scan.Goals as goal

pub loop-place-init : goal.loop-place-init
loop-place-init c = searched_start c.args.streams.now c.args.number

pub loop-place-preserved : goal.loop-place-preserved
loop-place-preserved c = searched_more c.args.streams.now c.args.number c.loop-place.place _ c.loop-place.invariant c.loop-place-test.true c.if-streams-place.false

pub returns-then-streams-place : goal.returns-then-streams-place
returns-then-streams-place c = searched_found c.args.streams.now c.args.number c.loop-place.place _ c.loop-place.invariant c.loop-place-test.true c.if-streams-place.true

pub returns : goal.returns
returns c = searched_none c.args.streams.now c.args.number c.loop-place.place c.loop-place.invariant (omega arith)
