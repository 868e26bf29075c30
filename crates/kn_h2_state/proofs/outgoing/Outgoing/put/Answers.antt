use Rattle.std.proofs.Common.{◌≡◌, ◌-◌, ◌≤◌, length, ap, refl, arith, length-append}
use Rattle.kn_h2_state.specs.Runs.{marks}
use Rattle.kn_h2_state.proofs.RunLemmas.{count_true-le, reply_part-le, one_more_run, marks-push}
use Rattle.kn_h2_state.proofs.outgoing.Outgoing.put.Goals as goal

pub overflow_add-self : goal.overflow_add-self
overflow_add-self c =
    let low : c.reply_part.result ≤ c.len.result - c.len-before.result = rw c.reply_part.ensures (reply_part-le _ _) in
    omega (
      arith,
      count_true-le (marks c.self.inside.runs.items),
      c.self.invariant.long,
      c.self.invariant.counted,
      length-append c.self.inside.bytes c.args.bytes.now,
      ap length c.in_ok-append.ensures.ok,
    )

pub invariant_of-self-2 : goal.invariant_of-self-2
invariant_of-self-2 c =
    let long : c.len.result - c.len-before.result ≡ length c.args.bytes.now =
    omega (arith, length-append c.self.inside.bytes c.args.bytes.now, ap length c.in_ok-append.ensures.ok) in
    rw (c.in_ok-append.ensures.ok, c.push_back_reserved.ensures.items, c.reserve.ensures.items, c.reply_part.ensures)
    (one_more_run _ _ _ _ _ _ long c.self.invariant)

pub returns-clause-ok : goal.returns-clause-ok
returns-clause-ok c =
    let long : c.len.result - c.len-before.result ≡ length c.args.bytes.now =
    omega (arith, length-append c.self.inside.bytes c.args.bytes.now, ap length c.in_ok-append.ensures.ok) in
    rw (c.in_ok-append.ensures.ok, c.push_back_reserved.ensures.items, c.reserve.ensures.items, marks-push, long, ← c.self.view_is) refl
