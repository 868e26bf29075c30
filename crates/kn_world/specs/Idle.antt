-- Whether an event does anything.
use Rattle.std.specs.Prelude.{ℕ, ◌&&◌, nat_lt, not, Bool, true, false, List, Option, Some, None, is_some}
use Rattle.kn_world.specs.declared.event.Seen.{Seen}
use Rattle.kn_world.specs.declared.event.Seen.TheVariants.{Moved, Idle}
use Rattle.kn_world.specs.declared.event.WorldEvent.{WorldEvent}
use Rattle.kn_world.specs.declared.event.WorldEvent.TheVariants as event
use Rattle.kn_world.specs.declared.parts.App.{App}
use Rattle.kn_world.specs.declared.parts.Client.{Client}
use Rattle.kn_world.specs.declared.parts.Dial.{Dial}
use Rattle.kn_world.specs.declared.parts.Home.{Home}
use Rattle.kn_world.specs.declared.parts.Home.TheVariants as home
use Rattle.kn_world.specs.declared.parts.Stage.{Stage}
use Rattle.kn_world.specs.declared.parts.Stage.TheVariants.{Dialling, Open, Refused, Ended}
use Rattle.kn_world.specs.declared.state.State.{State}
use Rattle.kn_world.specs.AppSteps as steps
use Rattle.kn_world.specs.Clients as clients
use Rattle.kn_world.specs.Dials as dials
use Rattle.kn_world.specs.Numbers.{nth}

abbrev pub moved_if : Bool → Seen
moved_if true = Moved
moved_if false = Idle

-- a test of the member of a number, where there is one
abbrev pub there_and : {X : Type 0} → (X → Bool) → Option X → Bool
there_and test None = false
there_and test (Some x) = test x

-- ---- apps
-- an app by CONNECT is connected until it was refused or either end closed
abbrev pub is_at_door : Stage → Bool
is_at_door Dialling = true
is_at_door Open = true
is_at_door Refused = false
is_at_door Ended = false

-- a client's app is connected while it is on its client's list
abbrev pub is_at_home : Home → Stage → List Client → Bool
is_at_home (home.Client c number) stage cs = is_some (clients.state_at number (nth c cs))
is_at_home home.Connect stage cs = is_at_door stage

abbrev pub is_app_here : App → State → Bool
is_app_here a s = is_at_home a.home a.stage s.clients

abbrev pub can_send : ℕ → State → Bool
can_send app s = there_and (λ a. is_app_here a s && not a.side.ended) (nth app s.apps)

abbrev pub can_hold_app : ℕ → State → Bool
can_hold_app app s = there_and (λ a. is_app_here a s && not a.side.held) (nth app s.apps)

abbrev pub can_take_app : ℕ → State → Bool
can_take_app app s = there_and (λ a. a.side.held && steps.has_left a.home a s.clients) (nth app s.apps)

abbrev pub is_app_held : ℕ → State → Bool
is_app_held app s = there_and (λ a. a.side.held) (nth app s.apps)

-- ---- dials and destinations
abbrev pub has_dial : ℕ → State → Bool
has_dial dial s = there_and (λ d. dials.is_dialling_at d.ticket (nth d.link s.agents)) (nth dial s.dials)

-- a destination is connected while its connection is on its agent's list
abbrev pub is_dest_here : Dial → State → Bool
is_dest_here d s = is_some (dials.state_at d.connect_id (nth d.link s.agents))

abbrev pub can_answer : ℕ → State → Bool
can_answer dial s = there_and (λ d. is_dest_here d s && not d.side.ended) (nth dial s.dials)

abbrev pub is_connected : ℕ → State → Bool
is_connected dial s = there_and (λ d. is_dest_here d s) (nth dial s.dials)

abbrev pub can_hold_dest : ℕ → State → Bool
can_hold_dest dial s = there_and (λ d. is_dest_here d s && not d.side.held) (nth dial s.dials)

abbrev pub can_take_dest : ℕ → State → Bool
can_take_dest dial s = there_and (λ d. d.side.held && nat_lt 0 (dials.unwritten_at d.connect_id (nth d.link s.agents))) (nth dial s.dials)

abbrev pub is_dest_held : ℕ → State → Bool
is_dest_held dial s = there_and (λ d. d.side.held) (nth dial s.dials)

-- ---- connections to the server, at either end
abbrev pub can_drain : ℕ → State → Bool
can_drain agent s = there_and (λ a. a.at_agent && not a.drained) (nth agent s.agents)

abbrev pub has_link : ℕ → State → Bool
has_link agent s = there_and (λ a. a.at_server) (nth agent s.agents)

abbrev pub has_server : ℕ → State → Bool
has_server agent s = there_and (λ a. a.at_agent) (nth agent s.agents)

abbrev pub has_front : ℕ → State → Bool
has_front client s = there_and (λ c. c.at_server) (nth client s.clients)

-- ---- events
abbrev pub seen_of : WorldEvent → State → Seen
seen_of (event.Agent identifiers) s = Moved
seen_of event.Client s = Moved
seen_of (event.App client address) s = Moved
seen_of (event.Connect address) s = Moved
seen_of (event.Raw bytes) s = Moved
seen_of (event.Up dial) s = moved_if (has_dial dial s)
seen_of (event.Refuse dial) s = moved_if (has_dial dial s)
seen_of (event.Send app bytes) s = moved_if (can_send app s)
seen_of (event.Answer dial bytes) s = moved_if (can_answer dial s)
seen_of (event.End app) s = moved_if (can_send app s)
seen_of (event.Hang dial) s = moved_if (can_answer dial s)
seen_of (event.Fail dial) s = moved_if (is_connected dial s)
seen_of (event.Drain agent) s = moved_if (can_drain agent s)
seen_of (event.HoldDest dial) s = moved_if (can_hold_dest dial s)
seen_of (event.HoldApp app) s = moved_if (can_hold_app app s)
seen_of (event.TakeDest dial count) s = moved_if (can_take_dest dial s)
seen_of (event.TakeApp app count) s = moved_if (can_take_app app s)
seen_of (event.GoDest dial) s = moved_if (is_dest_held dial s)
seen_of (event.GoApp app) s = moved_if (is_app_held app s)
seen_of (event.LoseServer agent) s = moved_if (has_link agent s)
seen_of (event.LoseAgent agent) s = moved_if (has_server agent s)
seen_of (event.LoseFront client) s = moved_if (has_front client s)
seen_of (event.LoseClient client) s = moved_if (clients.is_at_client (nth client s.clients))
seen_of (event.Step pipe) s = Moved
seen_of (event.Pass rounds) s = Moved
