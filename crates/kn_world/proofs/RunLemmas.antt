-- Events, one after another.
use Rattle.std.proofs.Common.{◌≡◌, ℕ, ◌+◌, ◌<◌, ◌≤◌, List, length, get_or, drop, refl, arith}
use Rattle.std.proofs.lemmas.List.{drop_more}
use Rattle.kn_world.specs.declared.event.Seen.{Seen}
use Rattle.kn_world.specs.declared.event.Seen.TheVariants.{Moved, Idle}
use Rattle.kn_world.specs.declared.event.WorldEvent.{WorldEvent}
use Rattle.kn_world.specs.declared.state.State.{State}
use Rattle.kn_world.specs.Events.{Happens, Runs, idle_one}
use Rattle.kn_world.specs.Idle.{seen_of}

pub idle_at_most : (seen : Seen) → idle_one seen ≤ 1
idle_at_most Moved = omega arith
idle_at_most Idle = omega arith

pub runs_on : (events : List WorldEvent) (i : ℕ) (e : WorldEvent) (old middle new : State) (seen : Seen) (rest : ℕ)
    → i < length events → e ≡ get_or events i e → seen ≡ seen_of e old → Happens e old middle
    → Runs (drop (i + 1) events) middle rest new → Runs (drop i events) old (idle_one seen + rest) new
runs_on events i e old middle new seen rest within is seen_is happens later =
    rw (drop_more events i e within, ← is, seen_is) (middle, rest, happens, later, refl)
