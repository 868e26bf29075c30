-- Events, one after another.
use Rattle.std.specs.Prelude.{◌≡◌, ℕ, ◌+◌, List, [], ◌∷◌}
use Rattle.kn_world.specs.declared.event.Seen.{Seen}
use Rattle.kn_world.specs.declared.event.Seen.TheVariants.{Moved, Idle}
use Rattle.kn_world.specs.declared.event.WorldEvent.{WorldEvent}
use Rattle.kn_world.specs.declared.state.State.{State}
use Rattle.kn_world.specs.Effects.{Does}
pub use Rattle.kn_world.specs.Idle.{seen_of}
pub use Rattle.kn_world.specs.States.{start}

-- an idle event changes nothing
abbrev pub HappensAs : Seen → WorldEvent → State → State → Type 0
HappensAs Moved e old new = Does e old new
HappensAs Idle e old new = new ≡ old

abbrev pub Happens : WorldEvent → State → State → Type 0
Happens e old new = HappensAs (seen_of e old) e old new

abbrev pub idle_one : Seen → ℕ
idle_one Idle = 1
idle_one Moved = 0

-- the events happen in order, and so many of them are idle
abbrev pub Runs : List WorldEvent → State → ℕ → State → Type 0
Runs [] old idle new = (new ≡ old) × (idle ≡ 0)
Runs (e ∷ es) old idle new = (middle : State) × (rest : ℕ) × Happens e old middle × Runs es middle rest new × (idle ≡ idle_one (seen_of e old) + rest)
