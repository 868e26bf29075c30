-- No end is due: one that ended its sending has told it, once nothing that it sent waits.
use Rattle.std.specs.Prelude.{◌≡◌, ℕ, true, [], Some}
use Rattle.kn_world.specs.declared.parts.App.{App}
use Rattle.kn_world.specs.declared.parts.Dial.{Dial}
use Rattle.kn_world.specs.declared.parts.Side.{Side}
use Rattle.kn_world.specs.declared.state.State.{State}
use Rattle.kn_world.specs.Numbers.{nth}

abbrev pub TellsItsEnd : Side → Type 0
TellsItsEnd side = side.ended ≡ true → side.sending.waiting ≡ [] → side.end_given ≡ true

pub record NoEndIsDue (s : State) : Type 0 where
  pub of_apps : (k : ℕ) (a : App) → nth k s.apps ≡ Some a → TellsItsEnd a.side
  pub of_dials : (d : ℕ) (x : Dial) → nth d s.dials ≡ Some x → TellsItsEnd x.side
