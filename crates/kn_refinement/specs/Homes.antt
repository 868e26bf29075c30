-- Where an app is at home.
use Rattle.std.specs.Prelude.{◌≡◌, ℕ, Some}
use Rattle.kn_world.specs.declared.parts.App.{App}
use Rattle.kn_world.specs.declared.parts.Home.TheVariants as home
use Rattle.kn_world.specs.declared.state.State.{State}
use Rattle.kn_world.specs.Numbers.{nth}

-- the app of a number, if there is one, is a client's
abbrev pub OfClient : ℕ → State → Type 0
OfClient k s = (a : App) → nth k s.apps ≡ Some a → (c : ℕ) × (n : ℕ) × (a.home ≡ home.Client c n)

-- there is an app of the number, and it came by CONNECT
abbrev pub OfConnect : ℕ → State → Type 0
OfConnect k s = (a : App) × (nth k s.apps ≡ Some a) × (a.home ≡ home.Connect)
