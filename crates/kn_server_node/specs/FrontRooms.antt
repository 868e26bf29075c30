-- That no packet for a front is dropped.
use Rattle.std.specs.Prelude.{◌≡◌, ℕ, Bool, false, List, [], ◌∷◌, length, Option, Some, None}
use Rattle.kn_h2_state.specs.Calls.{queue_of}
use Rattle.kn_server_core.specs.declared.event.ServerEvent.{ServerEvent}
use Rattle.kn_server_core.specs.declared.event.ServerOut.{ServerOut}
use Rattle.kn_server_core.specs.declared.event.ServerOut.TheVariants.{ToLink, ToFront, CutLink, Made}
use Rattle.kn_server_core.specs.Server as server
use Rattle.kn_front_room.specs.Rooms.{IsShort, ComesInTime, HasRoom}
use Rattle.kn_ends.specs.Carriers.{is_full}
use Rattle.kn_rising.specs.Members.{Members, at}
use Rattle.kn_server_node.specs.declared.end.End.{End}
use Rattle.kn_server_node.specs.declared.end.End.TheVariants.{Streams, Connect}
use Rattle.kn_server_node.specs.declared.place.Place.{Place}
use Rattle.kn_server_node.specs.declared.node.Node.{Node}
use Rattle.kn_server_node.specs.Nodes.{output, event}
use Rattle.kn_server_node.specs.Steps.{Step, MayDo}
use Rattle.kn_server_node.specs.CoreEvents.{step_events}

-- ---- what waits for a front on its stream; a connection by CONNECT drops nothing

abbrev pub waiting_on : Option End → ℕ → ℕ
waiting_on None s = 0
waiting_on (Some (Streams for_agents carrier)) s = length (queue_of carrier.conn.state s)
waiting_on (Some (Connect d)) s = 0

abbrev pub waiting_at : Members End → Option Place → ℕ
waiting_at ends None = 0
waiting_at ends (Some p) = waiting_on (at ends p.conn) p.stream

abbrev pub waiting_for : Node → ℕ → ℕ
waiting_for node front = waiting_at node.ends (at node.fronts front)

-- ---- an output that finds a full queue is dropped

abbrev pub is_full_on : Option End → ℕ → Bool
is_full_on None s = false
is_full_on (Some (Streams for_agents carrier)) s = is_full carrier.conn.state s
is_full_on (Some (Connect d)) s = false

abbrev pub is_full_at : Members End → Option Place → Bool
is_full_at ends None = false
is_full_at ends (Some p) = is_full_on (at ends p.conn) p.stream

abbrev pub drops : Node → ServerOut → Bool
drops node (ToFront front packet) = is_full_at node.ends (at node.fronts front)
drops node (ToLink link packet) = false
drops node (CutLink link) = false
drops node (Made dial link front) = false

-- of these outputs, in their order, no packet for a front is dropped
abbrev pub DropsNone : Node → List ServerOut → Type 0
DropsNone node [] = Unit {0}
DropsNone node (o ∷ os) = (drops node o ≡ false) × DropsNone (output node o) os

-- as the outputs of an event find the node
abbrev pub after_core : ServerEvent → Node → Node
after_core e node = record node { core = (server.step node.core e).state; todo = [] }

-- ---- what it rests on

abbrev pub NoneStandsOn : ℕ → List Place → Type 0
NoneStandsOn conn [] = Unit {0}
NoneStandsOn conn (p ∷ ps) = (p.conn ≡ conn → ⊥) × NoneStandsOn conn ps

-- no link stands on the connection of the front, and no other front on its stream; each connection has its number
pub record IsAlone (node : Node) (front : ℕ) : Type 0 where
  pub numbered : length node.ends.items ≡ length node.ends.numbers
  pub links : (p : Place) → at node.fronts front ≡ Some p → NoneStandsOn p.conn node.links.items
  pub fronts : (p q : Place) (other : ℕ) → at node.fronts front ≡ Some p → at node.fronts other ≡ Some q → q.conn ≡ p.conn → q.stream ≡ p.stream → other ≡ front

abbrev pub AreAlone : Node → Type 0
AreAlone node = (front : ℕ) → IsAlone node front

abbrev pub HaveRoom : Node → Type 0
HaveRoom node = (front : ℕ) → HasRoom front (waiting_for node front) node.core

abbrev pub AreInTime : Node → ServerEvent → Type 0
AreInTime node e = (front : ℕ) → ComesInTime front (waiting_for node front) node.core e

-- ---- laws

-- an event that comes in time drops no packet for a front, and leaves room for what may come then
abbrev pub EventsDropNone : Type 0
EventsDropNone = (node : Node) (e : ServerEvent) → AreAlone node → HaveRoom node → IsShort e → AreInTime node e
    → DropsNone (after_core e node) (server.step node.core e).outs × AreAlone (event e node) × HaveRoom (event e node)

-- what a step brings the core comes in time: all else waits
abbrev pub StepsAreInTime : Type 0
StepsAreInTime = (node : Node) (s : Step) (e : ServerEvent) → MayDo node s → step_events node s ≡ e ∷ [] → AreInTime node e × IsShort e
