-- What holds of a running world after every list of events, in the words of its report.
use Rattle.std.specs.Prelude.{◌≡◌, ◌≢◌, ℕ, true, List, [], Some}
use Rattle.kn_route.specs.declared.strategy.Strategy.{Strategy}
use Rattle.kn_server_core.specs.Isolation.{Each}
use Rattle.kn_edge_core.specs.declared.connection.Connection.{Connection}
use Rattle.kn_tunnel.specs.Cuts.{IsPrefixOf}
use Rattle.kn_packets.specs.Outcome.{Accounted, IsIn}
use Rattle.kn_packets.specs.Phases.{Phases}
use Rattle.kn_world.specs.declared.parts.App.{App}
use Rattle.kn_world.specs.declared.parts.AppChoice.{AppChoice}
use Rattle.kn_world.specs.declared.state.State.{State}
use Rattle.kn_world.specs.Numbers.{nth}
use Rattle.kn_world.specs.Shown.{AppShown, DialShown, Shown}
use Rattle.kn_world.specs.Views as views
use Rattle.kn_refinement.specs.Chosen.{HasChoice, Identifiers, IsPicked, last_number}
use Rattle.kn_refinement.specs.Shown.{shown}

-- ---- bytes: what a dial's destination got is the beginning of what the dial's own app sent, and what this app got is the beginning of what the
-- destination sent
pub record IsPaired (x : DialShown) (a : AppShown) : Type 0 where
  pub to_destination : IsPrefixOf x.got a.sent
  pub to_app : IsPrefixOf a.got x.sent

abbrev pub KeepsBytesApart : Shown → Type 0
KeepsBytesApart v = (d : ℕ) (x : DialShown) → nth d v.dials ≡ Some x → (a : AppShown) × (nth x.app v.apps ≡ Some a) × IsPaired x a

-- ---- dials: no two are of one app; and an app that is in the packet world, but is that of no dial, got nothing
abbrev pub OwnsItsDial : Shown → Type 0
OwnsItsDial v = (d e : ℕ) (x y : DialShown) → nth d v.dials ≡ Some x → nth e v.dials ≡ Some y → x.app ≡ y.app → d ≡ e

abbrev pub GetsNothingUndialled : State → Type 0
GetsNothingUndialled s = (k : ℕ) (a : App) → nth k s.apps ≡ Some a → ((shown s).apps k).came ≡ true
    → ((d : ℕ) (x : DialShown) → nth d (views.shown s).dials ≡ Some x → x.app ≢ k) → a.side.coming.passed ≡ []

-- ---- connections: each one that an agent holds has its open entry at the server, a reply or a request to close on the way, lingers over bytes that
-- are still to be written, or the server lost the link
abbrev pub AccountsForConnections : State → Type 0
AccountsForConnections s = (l : ℕ) (x : Connection) → IsIn x ((shown s).agents l).connections → Accounted (shown s) l x

-- ---- tables: once all is quiet and closed they are empty
pub record HasEmptyTables (v : Shown) : Type 0 where
  pub awaited : v.awaited ≡ 0
  pub held : v.held ≡ 0
  pub dialling : v.dialling ≡ 0
  pub connections : v.connections ≡ 0

abbrev pub LeavesNothing : Shown → Type 0
LeavesNothing v = v.quiet ≡ true → v.closed ≡ true → HasEmptyTables v

-- ---- choices: a choice with an answer has its dial in the report, if its number is below the last
abbrev pub IsShownDialled : Shown → AppChoice → Type 0
IsShownDialled v c = (link : ℕ) → c.choice.answer ≡ Some link → c.choice.dial ≢ last_number
    → (x : DialShown) × (nth c.choice.dial v.dials ≡ Some x) × (x.link ≡ link) × (x.app ≡ c.app)

pub record KeepsChoices (strategies : List Strategy) (agents : List Identifiers) (choices : List AppChoice) (v : Shown) : Type 0 where
  -- each is what the strategies pick
  pub picked : Each (λ (c : AppChoice). IsPicked strategies agents c.choice) choices
  -- each dial has the choice of its number, which is for its app and has its link as answer
  pub chosen : (d : ℕ) (x : DialShown) → nth d v.dials ≡ Some x → HasChoice choices d (x.link, x.app)
  -- and each choice with an answer has its dial
  pub dialled : Each (IsShownDialled v) choices

-- ---- all of it, of a world with these strategies to which agents with these identifiers came
pub record KeepsPromises (strategies : List Strategy) (agents : List Identifiers) (s : State) : Type 0 where
  pub bytes : KeepsBytesApart (views.shown s)
  pub own : OwnsItsDial (views.shown s)
  pub undialled : GetsNothingUndialled s
  pub connections : AccountsForConnections s
  pub tables : LeavesNothing (views.shown s)
  -- where each tunnel stands
  pub phases : Phases (shown s)
  pub choices : KeepsChoices strategies agents s.choices (views.shown s)
