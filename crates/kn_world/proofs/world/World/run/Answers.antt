use Rattle.std.proofs.Common.{◌≡◌, ℕ, ◌+◌, ◌≤◌, [], drop, refl, arith}
use Rattle.std.proofs.lemmas.List.{drop_all}
use Rattle.kn_world.specs.declared.state.State.{State}
use Rattle.kn_world.specs.Events.{Runs, idle_one}
use Rattle.kn_world.proofs.RunLemmas.{idle_at_most, runs_on}
use Rattle.kn_world.proofs.world.World.run.Goals as goal

pub loop-event-preserved : goal.loop-event-preserved
loop-event-preserved c = record {
  few = let most : idle_one c.in_ok-seen.seen ≤ 1 = idle_at_most c.in_ok-seen.seen in omega arith;
  after = λ (rest : ℕ) (new : State) later.
      let step : Runs (drop c.loop-event.event-index c.args.events.now) c.loop-event.self (idle_one c.in_ok-seen.seen + rest) new =
      runs_on c.args.events.now c.loop-event.event-index c.event-item.result c.loop-event.self c.apply.new.self new c.in_ok-seen.seen rest
      (omega arith) c.event-item.is c.in_ok-seen.ensures.seen c.in_ok-seen.ensures.after later in
      let total : (c.loop-event.idle + c.idle_one-idle.result) + rest ≡ c.loop-event.idle + (idle_one c.in_ok-seen.seen + rest) = omega arith in
      rw total (c.loop-event.invariant.after (idle_one c.in_ok-seen.seen + rest) new step);
}

pub returns : goal.returns
returns c =
    let done : drop c.loop-event.event-index c.args.events.now ≡ [] = drop_all c.loop-event.event-index c.args.events.now (omega arith) in
    let base : Runs (drop c.loop-event.event-index c.args.events.now) c.loop-event.self 0 c.loop-event.self = rw done (refl, refl) in
    let total : c.loop-event.idle + 0 ≡ c.loop-event.idle = omega arith in
    rw total at (c.loop-event.invariant.after 0 c.loop-event.self base)
