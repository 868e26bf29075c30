use Rattle.std.proofs.Common.{◌≡◌, ◌∷◌, ◌++◌, ◌≤◌, ◌<◌, ◌+◌, ℕ, List, [], true, false, rules, refl, sym, ap, ◌∙◌, subst, arith, length, take, drop}
use Rattle.kn_loop.specs.Kept.{is_in, line_of}
use Rattle.kn_loop.specs.Watch.{named_from}
use Rattle.kn_loop.specs.Gates.{gates_named}
use Rattle.kn_loop.proofs.Covering.{wakes_lines_then}
use Rattle.kn_loop.proofs.turning.wake_all.Goals as goal

pub loop-first-preserved : goal.loop-first-preserved
loop-first-preserved c =
    let split : c.loop-first.rest.now ≡ c.in-Some.first.now ∷ c.in-Some.after.now = search rules in
    record {
      lines = λ k. ap (named_from c.in-Some.after.now k) (c.in_ok-wake.ensures.lines k)
          ∙ subst (λ rs. named_from rs k (line_of c.loop-first.watch.lines k) ≡ named_from c.args.named.now k (line_of c.args.watch.now.lines k)) split (c.loop-first.invariant.lines k);
      gates = ap (gates_named c.in-Some.after.now) c.in_ok-wake.ensures.gates
          ∙ subst (λ rs. gates_named rs c.loop-first.watch.gates ≡ gates_named c.args.named.now c.args.watch.now.gates) split c.loop-first.invariant.gates;
      held = c.in_ok-wake.ensures.held ∙ c.loop-first.invariant.held;
      drain = c.in_ok-wake.ensures.drain ∙ c.loop-first.invariant.drain;
      course = c.in_ok-wake.ensures.course ∙ c.loop-first.invariant.course;
      awake = wakes_lines_then (is_in c.args.awake.now) (is_in c.loop-first.awake) (is_in c.wake.new.awake) (line_of c.args.watch.now.lines) (line_of c.loop-first.watch.lines) (line_of c.wake.new.watch.lines) c.loop-first.invariant.awake c.in_ok-wake.ensures.awake;
    }
