-- Apps that no dial is of.
use Rattle.std.specs.Prelude.{◌≡◌, ◌≢◌, ℕ, true, [], None, Some}
use Rattle.kn_packets.specs.Outcome.{IsIn}
use Rattle.kn_world.specs.declared.parts.App.{App}
use Rattle.kn_world.specs.declared.parts.AppChoice.{AppChoice}
use Rattle.kn_world.specs.declared.parts.Home.TheVariants as home
use Rattle.kn_world.specs.declared.state.State.{State}
use Rattle.kn_world.specs.Numbers.{nth}
use Rattle.kn_world.specs.Shown.{DialShown}
use Rattle.kn_world.specs.Views as views
use Rattle.kn_world.specs.declared.parts.Stage.TheVariants as stage
use Rattle.kn_refinement.specs.Shown.{shown}

-- one by CONNECT got nothing, whether or not its head was whole
abbrev pub ConnectGetsNothingUndialled : State → Type 0
ConnectGetsNothingUndialled s = (k : ℕ) (a : App) → nth k s.apps ≡ Some a → a.home ≡ home.Connect
    → ((d : ℕ) (x : DialShown) → nth d (views.shown s).dials ≡ Some x → x.app ≢ k) → a.side.coming.passed ≡ []

-- one of which each choice is without an answer is that of no dial
abbrev pub UnansweredHasNoDial : State → Type 0
UnansweredHasNoDial s = (k : ℕ) → ((c : AppChoice) → IsIn c s.choices → c.app ≡ k → c.choice.answer ≡ None)
    → (d : ℕ) (x : DialShown) → nth d (views.shown s).dials ≡ Some x → x.app ≢ k

-- one of a client, in the packet world, did not open: it waits for its dial, or has left
abbrev pub UndialledIsUnopened : State → Type 0
UndialledIsUnopened s = (k c number : ℕ) (a : App) → nth k s.apps ≡ Some a → a.home ≡ home.Client c number → ((shown s).apps k).came ≡ true
    → ((d : ℕ) (x : DialShown) → nth d (views.shown s).dials ≡ Some x → x.app ≢ k) → a.stage ≢ stage.Open
