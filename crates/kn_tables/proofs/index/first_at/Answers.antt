use Rattle.kn_tables.proofs.IndexLemmas.{begins_none, begins_other, begins_some, pair_first}
use Rattle.kn_tables.proofs.index.first_at.Goals as goal

pub returns-in-Some : goal.returns-in-Some
returns-in-Some c = begins_some c.args.index.now c.args.begins c.range.result (c.range.ensures.in_range tt) c.in-Some.at.now.1 c.in-Some.number.now c.next.new.self
    (pair_first c.in-Some.at.now c.args.begins c.in-Some.number.now c.range.result c.next.new.self c.in-Some.ensures.steps c.if-at-begins.true)

pub returns-in_default : goal.returns-in_default
returns-in_default c = begins_other c.args.index.now c.args.begins c.range.result (c.range.ensures.in_range tt) c.in-Some.at.now c.in-Some.number.now c.next.new.self c.in-Some.ensures.steps c.if-at-begins.false

pub returns-in_default-2 : goal.returns-in_default-2
returns-in_default-2 c = begins_none c.args.index.now c.args.begins c.range.result (c.range.ensures.in_range tt) ((rw c.in_default.is at c.next.ensures.steps).0)
