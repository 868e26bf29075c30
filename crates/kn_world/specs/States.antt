-- A world before any event, and what comes into it.
use Rattle.std.specs.Prelude.{ℕ, pos, true, false, List, []}
use Rattle.kn_route.specs.declared.strategy.Strategy.{Strategy}
use Rattle.kn_edge_core.specs.Agent as agent
use Rattle.kn_edge_core.specs.Client as client
use Rattle.kn_server_core.specs.Server as server
use Rattle.kn_world.specs.declared.parts.Side.{Side}
use Rattle.kn_world.specs.declared.parts.Agent.{Agent}
use Rattle.kn_world.specs.declared.parts.Client.{Client}
use Rattle.kn_world.specs.declared.parts.Door.{Door}
use Rattle.kn_world.specs.declared.parts.App.{App}
use Rattle.kn_world.specs.declared.parts.Dial.{Dial}
use Rattle.kn_world.specs.declared.parts.Home.{Home}
use Rattle.kn_world.specs.declared.parts.Stage.TheVariants.{Dialling}
use Rattle.kn_world.specs.declared.state.State.{State}
use Rattle.kn_world.specs.Flows.{no_bytes}

abbrev pub new_side : Side
new_side = record { sending = no_bytes; coming = no_bytes; ended = false; end_given = false; held = false }

abbrev pub new_agent : Agent
new_agent = record { core = agent.start; up = []; down = []; at_server = true; at_agent = true; cut = false; drained = false; connections = [] }

abbrev pub new_client : ℕ → Client
new_client front = record { core = client.start; up = []; down = []; front = front; at_server = true; at_client = true; apps = [] }

abbrev pub new_door : Door
new_door = record { front = []; number = 0; at_server = false; early = []; reply = 0; closing = false }

abbrev pub new_app : Home → App
new_app home = record { home = home; stage = Dialling; dial = 0; error = []; side = new_side; door = new_door }

abbrev pub new_dial : ℕ → ℕ → Dial
new_dial link app = record { link = link; app = app; handled = false; ticket = 0; connect_id = pos 0; side = new_side }

abbrev pub start : List Strategy → State
start strategies = record { server = server.start strategies; agents = []; clients = []; apps = []; dials = []; fronts = []; choices = [] }
