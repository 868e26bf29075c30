-- Agents, clients and apps that come.
use Rattle.std.specs.Prelude.{ℕ, ◌+◌, List, [], ◌∷◌, ◌++◌, length, Option, Some, None, Result, Ok, Err, codes, if◌then◌else◌}
use Rattle.kn_route.specs.declared.id_kind.IdKind.{IdKind}
use Rattle.kn_route.specs.declared.identifiers.IdFault.{IdFault}
use Rattle.kn_route.specs.Identifiers.{identifiers_in}
use Rattle.kn_edge_core.specs.declared.client_event.ClientEvent.TheVariants as event
use Rattle.kn_server_core.specs.declared.event.ServerEvent.TheVariants.{LinkUp, FrontUp}
use Rattle.kn_world.specs.declared.parts.Client.{Client}
use Rattle.kn_world.specs.declared.parts.Home.TheVariants as home
use Rattle.kn_world.specs.declared.parts.Owner.TheVariants as owner
use Rattle.kn_world.specs.declared.state.State.{State}
use Rattle.kn_world.specs.Apps as apps
use Rattle.kn_world.specs.Clients as clients
use Rattle.kn_world.specs.ClientSteps as client
use Rattle.kn_world.specs.Hearing.{Hears}
use Rattle.kn_world.specs.Numbers.{nth, change}
use Rattle.kn_world.specs.ServerSteps.{step}
use Rattle.kn_world.specs.States.{new_agent, new_client, new_app}

-- ---- an agent comes, and its link is up
abbrev pub link_up : ℕ → List (IdKind × List ℕ) → State → State
link_up link identifiers s = step 0 (LinkUp link identifiers) s

abbrev pub with_agent : State → State
with_agent s = record s { agents = s.agents ++ new_agent ∷ [] }

abbrev pub agent_came : List (IdKind × List ℕ) → State → State
agent_came identifiers s = link_up (length (with_agent s).agents) identifiers (with_agent s)

abbrev pub agent_read : Result (List (IdKind × List ℕ)) IdFault → State → State
agent_read (Ok identifiers) s = agent_came identifiers s
agent_read (Err fault) s = s

abbrev pub agent_comes : List ℕ → State → State
agent_comes identifiers s = agent_read (identifiers_in identifiers) s

-- ---- a client comes, and its stream is up
abbrev pub front_up : ℕ → State → State
front_up front s = step 0 (FrontUp front) s

abbrev pub with_owner : State → State
with_owner s = record s { fronts = s.fronts ++ owner.Client (length s.clients + 1) ∷ [] }

abbrev pub with_client : ℕ → State → State
with_client front s = record s { clients = s.clients ++ new_client front ∷ [] }

abbrev pub client_comes_as : ℕ → State → State
client_comes_as front s = front_up front (with_client front s)

abbrev pub client_comes : State → State
client_comes s = client_comes_as (length (with_owner s).fronts) (with_owner s)

-- ---- an app comes at a client: it asks for an address, or is refused at once where the client lost its server
abbrev pub asks : ℕ → ℕ → List ℕ → State → State
asks c number address s = client.step c (event.AppUp number address) s

abbrev pub refuses : ℕ → State → State
refuses app s = record s { apps = change (apps.left (codes "server lost")) app s.apps }

abbrev pub asks_or_refuses : ℕ → ℕ → ℕ → List ℕ → State → State
asks_or_refuses c number app address s = if clients.is_at_client (nth c s.clients) then asks c number address s else refuses app s

abbrev pub with_app : ℕ → ℕ → State → State
with_app c number s = record s { apps = s.apps ++ new_app (home.Client c number) ∷ [] }

abbrev pub app_noted : ℕ → ℕ → State → State
app_noted c app s = record s { clients = change (clients.with_app app) c s.clients }

abbrev pub app_came_as : ℕ → ℕ → ℕ → List ℕ → State → State
app_came_as app c number address s = asks_or_refuses c number app address (app_noted c app s)

abbrev pub app_came : ℕ → ℕ → List ℕ → State → State
app_came c number address s = app_came_as (length (with_app c number s).apps) c number address (with_app c number s)

abbrev pub app_comes_at : Option Client → ℕ → List ℕ → State → State
app_comes_at None c address s = s
app_comes_at (Some client) c address s = app_came c (length client.apps + 1) address s

abbrev pub app_comes : ℕ → List ℕ → State → State
app_comes c address s = app_comes_at (nth c s.clients) c address s

-- ---- an app comes by CONNECT, and writes bytes
abbrev pub with_connect : State → State
with_connect s = record s { apps = s.apps ++ new_app home.Connect ∷ [] }

abbrev pub RawAppComes : List ℕ → State → State → Type 0
RawAppComes bytes old new = Hears bytes (length (with_connect old).apps) (with_connect old) new

-- a request as most clients write it
unfoldable pub request_text : List ℕ → List ℕ
request_text address = (((codes "CONNECT " ++ address) ++ codes " HTTP/1.1\r\nHost: ") ++ address) ++ codes "\r\n\r\n"
