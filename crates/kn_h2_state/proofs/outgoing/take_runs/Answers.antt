use Rattle.std.proofs.lemmas.Bool.Decides.{nat_tests}
use Rattle.std.proofs.Common.{rules, ◌+◌, ◌≡◌, ◌≤◌, [], sym, arith, ◌∙◌}
use Rattle.kn_h2_state.specs.Outgoing.{reply_part, count_true}
use Rattle.kn_h2_state.specs.Runs.{marks}
use Rattle.kn_h2_state.proofs.RunLemmas.{reply_part-le, drop-more, drop-none, count-marks, marks-none}
use Rattle.kn_h2_state.proofs.outgoing.take_runs.Goals as goal

pub overflow_add-replies : goal.overflow_add-replies
overflow_add-replies c =
    let low : c.reply_part-replies.result ≤ c.take_run-run.result.length = rw c.reply_part-replies.ensures (reply_part-le _ _) in
    omega arith

pub loop-left-preserved : goal.loop-left-preserved
loop-left-preserved c =
    let low : c.reply_part-replies.result ≤ c.take_run-run.result.length = rw c.reply_part-replies.ensures (reply_part-le _ _) in
    let count : count_true (marks c.loop-left.runs.items)
    ≡ reply_part c.take_run-run.result.reply c.take_run-run.result.length + count_true (marks c.take_run-run.new.runs.items) =
    count-marks c.take_run-run.result.length c.take_run-run.result.reply _ _ c.take_run-run.ensures.front in
    record {
      within = omega arith;
      rest = drop-more c.args.count c.loop-left.left c.take_run-run.result.length c.take_run-run.result.reply (marks c.args.runs.now.items) (marks c.loop-left.runs.items) (marks c.take_run-run.new.runs.items) (omega arith) c.take_run-run.ensures.count c.loop-left.invariant.rest c.take_run-run.ensures.front;
      counted = omega (arith, c.loop-left.invariant.counted, c.reply_part-replies.ensures, count);
    }

pub returns-else-not-is_empty-clause-rest : goal.returns-else-not-is_empty-clause-rest
returns-else-not-is_empty-clause-rest c =
    let none : marks c.loop-left.runs.items ≡ [] = marks-none c.loop-left.runs.items (search (rules, nat_tests)) in
    rw none (drop-none c.args.count c.loop-left.left (marks c.args.runs.now.items) (omega arith) (omega arith) c.requires (sym none ∙ c.loop-left.invariant.rest))
