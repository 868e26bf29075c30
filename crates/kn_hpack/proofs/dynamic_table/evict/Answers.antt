use Rattle.std.proofs.Common.{arith, sym, ◌∙◌, ap}
use Rattle.kn_hpack.specs.Fields.{kept, total}
use Rattle.kn_hpack.proofs.TableFacts.{kept_all, kept_last, last_counts}
use Rattle.kn_hpack.proofs.dynamic_table.evict.Goals as goal

pub overflow_sub-left : goal.overflow_sub-left
overflow_sub-left c = omega (arith, last_counts c.loop-left.pairs.items c.pop_back.new.self.items c.in-Some.pair c.in-Some.ensures.items)

pub loop-left-preserved : goal.loop-left-preserved
loop-left-preserved c = record {
  count = omega (arith, last_counts c.loop-left.pairs.items c.pop_back.new.self.items c.in-Some.pair c.in-Some.ensures.items);
  kept = sym (kept_last c.args.room c.pop_back.new.self.items c.in-Some.pair (omega (arith, ap total c.in-Some.ensures.items)))
      ∙ (ap (kept c.args.room) (sym c.in-Some.ensures.items) ∙ c.loop-left.invariant.kept);
}

pub returns-after-loop-left-clause-kept : goal.returns-after-loop-left-clause-kept
returns-after-loop-left-clause-kept c = sym (kept_all c.args.room c.loop-left.pairs.items (omega arith)) ∙ c.loop-left.invariant.kept
