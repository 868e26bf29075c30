-- The choices of a running world: each is what the strategies pick among the links that it names, and each dial is the answer of its choice.
use Rattle.std.specs.Prelude.{◌≡◌, ◌≢◌, ℕ, suc, Bool, List, [], ◌∷◌, ◌++◌, length, map, Option, None, Some, Result, Ok, Err}
use Rattle.kn_route.specs.Choice.{pick}
use Rattle.kn_route.specs.Identifiers.{identifiers_in}
use Rattle.kn_route.specs.declared.id_kind.IdKind.{IdKind}
use Rattle.kn_route.specs.declared.identifiers.IdFault.{IdFault}
use Rattle.kn_route.specs.declared.link.Link.{Link}
use Rattle.kn_route.specs.declared.strategy.Strategy.{Strategy}
use Rattle.kn_server_core.specs.Choices.{link_of}
use Rattle.kn_server_core.specs.Isolation.{Each, IsOrderly}
use Rattle.kn_server_core.specs.declared.choice.Choice.{Choice}
use Rattle.kn_server_core.specs.declared.state.State.{State as ServerState}
use Rattle.kn_packets.specs.Outcome.{IsIn}
use Rattle.kn_world.specs.declared.event.WorldEvent.{WorldEvent}
use Rattle.kn_world.specs.declared.event.WorldEvent.TheVariants as event
use Rattle.kn_world.specs.declared.parts.AppChoice.{AppChoice}
use Rattle.kn_world.specs.declared.parts.Dial.{Dial}
use Rattle.kn_world.specs.declared.state.State.{State}
use Rattle.kn_world.specs.Numbers.{nth}

-- ---- the agents of a script
-- what an agent says of itself, as its identifiers are read
abbrev pub Identifiers : Type 0
Identifiers = List (IdKind × List ℕ)

abbrev pub agent_read : Result (List (IdKind × List ℕ)) IdFault → List Identifiers
agent_read (Ok identifiers) = identifiers ∷ []
agent_read (Err fault) = []

-- an event brings an agent, or none
abbrev pub agent_in : WorldEvent → List Identifiers
agent_in (event.Agent identifiers) = agent_read (identifiers_in identifiers)
agent_in event.Client = []
agent_in (event.App c address) = []
agent_in (event.Connect address) = []
agent_in (event.Raw bytes) = []
agent_in (event.Up dial) = []
agent_in (event.Refuse dial) = []
agent_in (event.Send app bytes) = []
agent_in (event.Answer dial bytes) = []
agent_in (event.End app) = []
agent_in (event.Hang dial) = []
agent_in (event.Fail dial) = []
agent_in (event.Drain link) = []
agent_in (event.HoldDest dial) = []
agent_in (event.HoldApp app) = []
agent_in (event.TakeDest dial count) = []
agent_in (event.TakeApp app count) = []
agent_in (event.GoDest dial) = []
agent_in (event.GoApp app) = []
agent_in (event.LoseServer link) = []
agent_in (event.LoseAgent link) = []
agent_in (event.LoseFront c) = []
agent_in (event.LoseClient c) = []
agent_in (event.Step pipe) = []
agent_in (event.Pass count) = []

-- the identifiers of all agents, in the order in which these come: the first is agent 1
abbrev pub agents_in : List WorldEvent → List Identifiers
agents_in [] = []
agents_in (e ∷ es) = agent_in e ++ agents_in es

-- ---- one choice
abbrev pub identifiers_at : Option Identifiers → Identifiers
identifiers_at None = []
identifiers_at (Some identifiers) = identifiers

-- a link that a choice names by its number and its draining mark has the identifiers of the agent of this number
abbrev pub link_at : List Identifiers → ℕ × Bool → Link
link_at agents mark = record { number = mark.0; draining = mark.1; identifiers = identifiers_at (nth mark.0 agents) }

abbrev pub links_at : List Identifiers → List (ℕ × Bool) → List Link
links_at agents marks = map (link_at agents) marks

-- there is an agent of this number
abbrev pub NamesAgent : List Identifiers → ℕ × Bool → Type 0
NamesAgent agents mark = (identifiers : Identifiers) × (nth mark.0 agents ≡ Some identifiers)

-- a choice is what the strategies pick among its own links for its own host and number
pub record IsPicked (strategies : List Strategy) (agents : List Identifiers) (c : Choice) : Type 0 where
  pub agents_named : Each (NamesAgent agents) c.links
  pub answer : c.answer ≡ link_of (pick strategies (links_at agents c.links) c.host c.dial)

-- ---- choices and dials
-- what is known of a dial: its link, and the app that it is for
abbrev pub MadeFor : Type 0
MadeFor = ℕ × ℕ

abbrev pub made_for : Dial → MadeFor
made_for d = (d.link, d.app)

-- it has a choice of its number, which is for its app and has its link as answer
abbrev pub IsAnswer : ℕ → MadeFor → AppChoice → Type 0
IsAnswer dial made c = (c.choice.dial ≡ dial) × (c.choice.answer ≡ Some made.0) × (c.app ≡ made.1)

abbrev pub HasChoice : List AppChoice → ℕ → MadeFor → Type 0
HasChoice choices dial made = (c : AppChoice) × IsIn c choices × IsAnswer dial made c

-- a choice with an answer has its dial, if its number is below the last
abbrev pub last_number : ℕ
last_number = 9223372036854775807

abbrev pub IsDialled : List MadeFor → AppChoice → Type 0
IsDialled dials c = (link : ℕ) → c.choice.answer ≡ Some link → c.choice.dial ≢ last_number → nth c.choice.dial dials ≡ Some (link, c.app)

-- ---- what always holds
-- a link has the identifiers of its agent
abbrev pub IsOfAgent : List Identifiers → Link → Type 0
IsOfAgent agents link = nth link.number agents ≡ Some link.identifiers

pub record Chosen (strategies : List Strategy) (agents : List Identifiers) (count : ℕ) (server : ServerState) (choices : List AppChoice) (dials : List MadeFor) : Type 0 where
  pub strategies_same : server.strategies ≡ strategies
  pub agents_counted : count ≡ length agents
  pub links : Each (IsOfAgent agents) server.links.links
  pub orderly : IsOrderly server
  pub next_dial : server.next_dial ≡ suc (length dials)
  pub picked : Each (λ (c : AppChoice). IsPicked strategies agents c.choice) choices
  pub chosen : (d : ℕ) (x : MadeFor) → nth d dials ≡ Some x → HasChoice choices d x
  pub dialled : Each (IsDialled dials) choices

abbrev pub ChoicesHold : List Strategy → List Identifiers → State → Type 0
ChoicesHold strategies agents s = Chosen strategies agents (length s.agents) s.server s.choices (map made_for s.dials)
