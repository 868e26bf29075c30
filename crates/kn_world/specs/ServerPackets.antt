-- What the server does with a packet of a link or a client, and with a loss.
use Rattle.std.specs.Prelude.{ℕ, List, Option, Some, None}
use Rattle.kn_packet.specs.declared.packet.Packet.{Packet}
use Rattle.kn_packet.specs.declared.packet.Packet.TheVariants.{DialReq, DialRsp, CloseReq, CloseRsp, Data, DialCls, Drain, Other}
use Rattle.kn_server_core.specs.declared.event.ServerEvent.TheVariants.{LinkPacket, LinkLost, FrontPacket, FrontLost}
use Rattle.kn_world.specs.declared.parts.App.{App}
use Rattle.kn_world.specs.declared.parts.Client.{Client}
use Rattle.kn_world.specs.declared.parts.Dial.{Dial}
use Rattle.kn_world.specs.declared.parts.Home.{Home}
use Rattle.kn_world.specs.declared.parts.Home.TheVariants as home
use Rattle.kn_world.specs.declared.state.State.{State}
use Rattle.kn_world.specs.Agents as agents
use Rattle.kn_world.specs.Clients as clients
use Rattle.kn_world.specs.Handing.{settles}
use Rattle.kn_world.specs.Numbers.{nth, change, number_of}
use Rattle.kn_world.specs.ServerSteps.{step}

-- ---- a packet of a link
abbrev pub if_at_connect : Home → ℕ → ℕ
if_at_connect home.Connect app = app
if_at_connect (home.Client client number) app = 0

abbrev pub if_by_connect_of : Option App → ℕ → ℕ
if_by_connect_of None app = 0
if_by_connect_of (Some a) app = if_at_connect a.home app

abbrev pub if_by_connect : ℕ → List App → ℕ
if_by_connect app apps = if_by_connect_of (nth app apps) app

abbrev pub app_of : Option Dial → List App → ℕ
app_of None apps = 0
app_of (Some d) apps = if_by_connect d.app apps

abbrev pub app_of_dial : ℕ → State → ℕ
app_of_dial dial s = app_of (nth dial s.dials) s.apps

-- the app by CONNECT whose dial an agent's packet answers
abbrev pub answered_by : Packet → State → ℕ
answered_by (DialRsp error connect_id random) s = app_of_dial (number_of random) s
answered_by (DialReq protocol address random) s = 0
answered_by (CloseReq connect_id) s = 0
answered_by (CloseRsp error connect_id) s = 0
answered_by (Data connect_id error bytes) s = 0
answered_by (DialCls random) s = 0
answered_by Drain s = 0
answered_by (Other number) s = 0

-- of an app by CONNECT that the packet answers the server takes what it kept
abbrev pub takes_of_link : Packet → ℕ → State → State
takes_of_link packet link s = settles (answered_by packet s) (step 0 (LinkPacket link packet) s)

-- ---- a packet of a client
-- the app that asks for a dial
abbrev pub asker : Packet → ℕ → List Client → ℕ
asker (DialReq protocol address random) client cs = clients.app_at (number_of random) (nth client cs)
asker (DialRsp error connect_id random) client cs = 0
asker (CloseReq connect_id) client cs = 0
asker (CloseRsp error connect_id) client cs = 0
asker (Data connect_id error bytes) client cs = 0
asker (DialCls random) client cs = 0
asker Drain client cs = 0
asker (Other number) client cs = 0

abbrev pub takes_of_client : Packet → ℕ → State → State
takes_of_client packet client s = step (asker packet client s.clients) (FrontPacket (clients.front_of (nth client s.clients)) packet) s

-- ---- losses at the server
abbrev pub loses_link : ℕ → State → State
loses_link link s = step 0 (LinkLost link) (record s { agents = change agents.lost_at_server link s.agents })

abbrev pub loses_front : ℕ → State → State
loses_front client s = step 0 (FrontLost (clients.front_of (nth client s.clients))) (record s { clients = change clients.lost_at_server client s.clients })
