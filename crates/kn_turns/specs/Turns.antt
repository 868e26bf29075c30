-- The turns of a world: each is one step of one end, or a note of what one side did. What settles behind a step are turns of their own.
use Rattle.std.specs.Prelude.{◌≡◌, ◌≢◌, ℕ, Bool, true, List, [], ◌∷◌, Some}
use Rattle.kn_edge_core.specs.declared.app.AppState.TheVariants.{Open}
use Rattle.kn_world.specs.declared.state.State.{State}
use Rattle.kn_world.specs.AgentSteps as agent
use Rattle.kn_world.specs.Answering as answering
use Rattle.kn_world.specs.AppSteps as app
use Rattle.kn_world.specs.Arrivals.{agent_comes, app_comes, client_comes, with_connect}
use Rattle.kn_world.specs.Clients as clients
use Rattle.kn_world.specs.Effects as effects
use Rattle.kn_world.specs.Handing as handing
use Rattle.kn_world.specs.Idle as idle
use Rattle.kn_world.specs.Numbers.{nth}
use Rattle.kn_world.specs.Pipes.{client_up}
use Rattle.kn_refinement.specs.Homes.{OfClient, OfConnect}
use Rattle.kn_turns.specs.Doors.{HasNotLeft, IsAnswered, IsFresh, IsHeard, IsOver, IsUnheard, MayHand, OfDoor}
use Rattle.kn_turns.specs.Doors as doors
use Rattle.kn_turns.specs.Losses as losses
use Rattle.kn_turns.specs.Notes as notes

pub data Turn : Type 0 where
  -- the server: an agent or a client comes, it takes a packet of theirs, or loses one of them while so many packets to it are left
  AgentComes : (identifiers : List ℕ) → Turn
  ClientComes : Turn
  TakesUp : (link : ℕ) → Turn
  TakesIn : (client : ℕ) → Turn
  LosesLink : (link left : ℕ) → Turn
  LosesFront : (client left : ℕ) → Turn
  -- an agent
  AgentTakes : (link : ℕ) → Turn
  AgentDrains : (link : ℕ) → Turn
  AgentLoses : (link left : ℕ) → Turn
  DialWon : (dial : ℕ) → Turn
  DialFailed : (dial : ℕ) → Turn
  -- a destination: it sends, its agent is given the next bytes, or the end; it takes bytes, a write to it fails, it is held or freed
  DestSends : (dial : ℕ) (bytes : List ℕ) → Turn
  DestStops : (dial : ℕ) → Turn
  DestHands : (dial : ℕ) → Turn
  DestEnds : (dial : ℕ) → Turn
  DestTakes : (dial count : ℕ) → Turn
  DestFails : (dial : ℕ) → Turn
  DestHolds : (dial : ℕ) (held : Bool) → Turn
  -- a client
  ClientTakes : (client : ℕ) → Turn
  ClientLoses : (client left : ℕ) (error : List ℕ) → Turn
  -- an app of a client
  AppComes : (client : ℕ) (address : List ℕ) → Turn
  AppSends : (app : ℕ) (bytes : List ℕ) → Turn
  AppStops : (app : ℕ) → Turn
  AppHands : (app : ℕ) → Turn
  AppEnds : (app : ℕ) → Turn
  AppTakes : (app count : ℕ) → Turn
  AppHolds : (app : ℕ) (held : Bool) → Turn
  -- an app that is refused at once
  AppRefused : (error : List ℕ) → Turn
  -- an app by CONNECT: it comes; the bytes of its head so far are kept, it is refused with a status, or asks for a dial, with bytes behind its head
  DoorComes : Turn
  DoorReads : (app : ℕ) (bytes : List ℕ) → Turn
  DoorFaulted : (app status : ℕ) → Turn
  DoorAsks : (app : ℕ) (target early rest : List ℕ) → Turn
  -- it sends, the server keeps the next bytes, makes one packet of those that it keeps, and takes the first packet
  DoorSends : (app : ℕ) (bytes : List ℕ) → Turn
  DoorHands : (app : ℕ) → Turn
  DoorJoins : (app : ℕ) → Turn
  DoorHears : (app : ℕ) → Turn
  -- it takes bytes, is held or freed, ends its sending; it leaves, and the server loses its front
  DoorTakes : (app count : ℕ) → Turn
  DoorHolds : (app : ℕ) (held : Bool) → Turn
  DoorStops : (app : ℕ) → Turn
  DoorLeaves : (app : ℕ) → Turn
  -- the server has ended its tunnel, and loses its front while there may be bytes for it to take
  DoorIsLost : (app : ℕ) → Turn

abbrev pub turned : Turn → State → State
turned (AgentComes identifiers) s = agent_comes identifiers s
turned ClientComes s = client_comes s
turned (TakesUp link) s = notes.takes_up link s
turned (TakesIn client) s = client_up client s
turned (LosesLink link left) s = losses.loses_link link left s
turned (LosesFront client left) s = losses.loses_front client left s
turned (AgentTakes link) s = notes.takes_down link s
turned (AgentDrains link) s = effects.drained link s
turned (AgentLoses link left) s = losses.agent_loses link left s
turned (DialWon dial) s = effects.dial_won dial s
turned (DialFailed dial) s = effects.dial_refused dial s
turned (DestSends dial bytes) s = notes.dest_sent bytes dial s
turned (DestStops dial) s = notes.dest_ended dial s
turned (DestHands dial) s = answering.hands_piece dial s
turned (DestEnds dial) s = answering.gives_end dial s
turned (DestTakes dial count) s = agent.takes dial count s
turned (DestFails dial) s = effects.dest_failed dial s
turned (DestHolds dial held) s = notes.dest_holding held dial s
turned (ClientTakes client) s = notes.takes_out client s
turned (ClientLoses client left error) s = losses.client_loses client left error s
turned (AppComes client address) s = app_comes client address s
turned (AppSends k bytes) s = notes.app_sent bytes k s
turned (AppStops k) s = notes.app_ended k s
turned (AppHands k) s = handing.hands_piece k s
turned (AppEnds k) s = handing.gives_end k s
turned (AppTakes k count) s = app.takes k count s
turned (AppHolds k held) s = notes.app_holding held k s
turned (AppRefused error) s = doors.app_refused error s
turned DoorComes s = with_connect s
turned (DoorReads k bytes) s = doors.reads bytes k s
turned (DoorFaulted k status) s = doors.faulted status k s
turned (DoorAsks k target early rest) s = doors.asks target early rest k s
turned (DoorSends k bytes) s = notes.app_sent bytes k s
turned (DoorHands k) s = handing.hands_piece k s
turned (DoorJoins k) s = doors.joins k s
turned (DoorHears k) s = handing.server_hears k s
turned (DoorTakes k count) s = app.takes k count s
turned (DoorHolds k held) s = notes.app_holding held k s
turned (DoorStops k) s = notes.app_ended k s
turned (DoorLeaves k) s = handing.gives_end k s
turned (DoorIsLost k) s = doors.loses_front k s

abbrev pub MayTurn : Turn → State → Type 0
MayTurn (AgentComes identifiers) s = Unit {0}
MayTurn ClientComes s = Unit {0}
MayTurn (TakesUp link) s = Unit {0}
MayTurn (TakesIn client) s = Unit {0}
MayTurn (LosesLink link left) s = idle.has_link link s ≡ true
MayTurn (LosesFront client left) s = idle.has_front client s ≡ true
MayTurn (AgentTakes link) s = Unit {0}
MayTurn (AgentDrains link) s = idle.can_drain link s ≡ true
MayTurn (AgentLoses link left) s = idle.has_server link s ≡ true
MayTurn (DialWon dial) s = Unit {0}
MayTurn (DialFailed dial) s = Unit {0}
MayTurn (DestSends dial bytes) s = idle.is_connected dial s ≡ true
MayTurn (DestStops dial) s = Unit {0}
MayTurn (DestHands dial) s = idle.is_connected dial s ≡ true
MayTurn (DestEnds dial) s = Unit {0}
MayTurn (DestTakes dial count) s = Unit {0}
MayTurn (DestFails dial) s = Unit {0}
MayTurn (DestHolds dial held) s = Unit {0}
MayTurn (ClientTakes client) s = Unit {0}
MayTurn (ClientLoses client left error) s = (clients.is_at_client (nth client s.clients) ≡ true) × (error ≢ [])
MayTurn (AppComes client address) s = Unit {0}
MayTurn (AppSends k bytes) s = OfClient k s
MayTurn (AppStops k) s = OfClient k s
MayTurn (AppHands k) s = app.state_of k s ≡ Some Open
MayTurn (AppEnds k) s = OfClient k s
MayTurn (AppTakes k count) s = OfClient k s
MayTurn (AppHolds k held) s = OfClient k s
MayTurn (AppRefused error) s = Unit {0}
MayTurn DoorComes s = Unit {0}
MayTurn (DoorReads k bytes) s = OfConnect k s
MayTurn (DoorFaulted k status) s = OfDoor IsUnheard k s
MayTurn (DoorAsks k target early rest) s = OfDoor IsFresh k s
MayTurn (DoorSends k bytes) s = OfDoor IsHeard k s
MayTurn (DoorHands k) s = OfDoor MayHand k s
MayTurn (DoorJoins k) s = OfDoor IsHeard k s
MayTurn (DoorHears k) s = OfDoor IsAnswered k s
MayTurn (DoorTakes k count) s = OfConnect k s
MayTurn (DoorHolds k held) s = OfConnect k s
MayTurn (DoorStops k) s = OfConnect k s
MayTurn (DoorLeaves k) s = OfDoor HasNotLeft k s
MayTurn (DoorIsLost k) s = OfDoor IsOver k s

-- turns, one after another
abbrev pub Turns : List Turn → State → State → Type 0
Turns [] old new = old ≡ new
Turns (t ∷ ts) old new = MayTurn t old × Turns ts (turned t old) new
