-- What the server does with an event, and where its outputs go.
use Rattle.std.specs.Prelude.{ℕ, List, [], ◌∷◌, ◌++◌, Option, Some, None}
use Rattle.kn_packet.specs.declared.packet.Packet.{Packet}
use Rattle.kn_server_core.specs.Choices.{choice_at}
use Rattle.kn_server_core.specs.declared.choice.Choice.{Choice}
use Rattle.kn_server_core.specs.declared.event.ServerEvent.{ServerEvent}
use Rattle.kn_server_core.specs.declared.event.ServerOut.{ServerOut}
use Rattle.kn_server_core.specs.declared.event.ServerOut.TheVariants as out
use Rattle.kn_server_core.specs.Server as core
use Rattle.kn_world.specs.declared.parts.AppChoice.{AppChoice}
use Rattle.kn_world.specs.declared.parts.Owner.{Owner}
use Rattle.kn_world.specs.declared.parts.Owner.TheVariants as owner
use Rattle.kn_world.specs.declared.state.State.{State}
use Rattle.kn_world.specs.Numbers.{nth, change}
use Rattle.kn_world.specs.Agents as agents
use Rattle.kn_world.specs.Apps as apps
use Rattle.kn_world.specs.Clients as clients
use Rattle.kn_world.specs.States.{new_dial}

-- a packet goes to the list of a client's stream, or to an app at once
abbrev pub to_owner : Option Owner → Packet → State → State
to_owner None packet s = s
to_owner (Some (owner.Client client)) packet s = record s { clients = change (clients.queued_down packet) client s.clients }
to_owner (Some (owner.App app)) packet s = record s { apps = change (apps.heard packet) app s.apps }

abbrev pub to_front : Packet → ℕ → State → State
to_front packet front s = to_owner (nth front s.fronts) packet s

-- the dial that an app asked for drew its number
abbrev pub made : ℕ → ℕ → ℕ → State → State
made dial link app s = record s { dials = s.dials ++ new_dial link app ∷ []; apps = change (apps.with_dial dial) app s.apps }

abbrev pub gives : ServerOut → ℕ → State → State
gives (out.ToLink link packet) app s = record s { agents = change (agents.queued_down packet) link s.agents }
gives (out.ToFront front packet) app s = to_front packet front s
gives (out.CutLink link) app s = record s { agents = change agents.cut_off link s.agents }
gives (out.Made dial link front) app s = made dial link app s

abbrev pub gives_all : List ServerOut → ℕ → State → State
gives_all [] app s = s
gives_all (o ∷ os) app s = gives_all os app (gives o app s)

-- the choices, with one more where the server came to one
abbrev pub choices_with : Option Choice → ℕ → List AppChoice → List AppChoice
choices_with None app choices = choices
choices_with (Some choice) app choices = choices ++ (record { app = app; choice = choice }) ∷ []

-- ---- the server takes an event; a dial that it makes, and a choice that it comes to, is that of the app
abbrev pub stepped : ℕ → ServerEvent → State → State
stepped app event s = record s { server = (core.step s.server event).state; choices = choices_with (choice_at s.server event) app s.choices }

abbrev pub step : ℕ → ServerEvent → State → State
step app event s = gives_all (core.step s.server event).outs app (stepped app event s)
