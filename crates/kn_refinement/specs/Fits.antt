-- What always holds of a running world's own notes: how its lists name each other.
use Rattle.std.specs.Prelude.{◌≡◌, ◌≢◌, ◌≤◌, ◌<◌, ◌+◌, ◌⊎◌, ℕ, suc, pos, true, false, not, List, [], length, None, Some}
use Rattle.kn_packet.specs.declared.packet.Packet.{Packet}
use Rattle.kn_tables.specs.Lists.{IsRising, first_where}
use Rattle.kn_server_core.specs.FrontLists.{FrontList, is_up}
use Rattle.kn_server_core.specs.Isolation.{Each}
use Rattle.kn_edge_core.specs.AgentTables.{connection_at, is_dial}
use Rattle.kn_edge_core.specs.ClientTables.{is_app}
use Rattle.kn_edge_core.specs.declared.app.App.{App as ListedApp}
use Rattle.kn_edge_core.specs.declared.app.AppState.{AppState}
use Rattle.kn_edge_core.specs.declared.app.AppState.TheVariants as listed
use Rattle.kn_edge_core.specs.declared.dial.Dial.{Dial as ListedDial}
use Rattle.kn_world.specs.declared.parts.Agent.{Agent}
use Rattle.kn_world.specs.declared.parts.App.{App}
use Rattle.kn_world.specs.declared.parts.Client.{Client}
use Rattle.kn_world.specs.declared.parts.Dial.{Dial}
use Rattle.kn_world.specs.declared.parts.Home.TheVariants as home
use Rattle.kn_world.specs.declared.parts.Owner.{Owner}
use Rattle.kn_world.specs.declared.parts.Owner.TheVariants as owner
use Rattle.kn_world.specs.declared.parts.Stage.{Stage}
use Rattle.kn_world.specs.declared.parts.Stage.TheVariants as stage
use Rattle.kn_world.specs.declared.state.State.{State}
use Rattle.kn_world.specs.Doors.{data_of}
use Rattle.kn_world.specs.Flows.{no_bytes}
use Rattle.kn_world.specs.Numbers.{nth}
use Rattle.kn_world.specs.States.{new_door}

-- ---- agents and dials: each connection is that of one dial, and each dial that an agent makes has its ticket
pub record AgentFits (agents : List Agent) (dials : List Dial) : Type 0 where
  pub lost : (l : ℕ) (a : Agent) → nth l agents ≡ Some a → a.at_agent ≡ not a.core.lost
  pub next : (l : ℕ) (a : Agent) → nth l agents ≡ Some a → a.core.next_connect_id ≡ length a.connections + 1
  pub of_connection : (l c d : ℕ) (a : Agent) → nth l agents ≡ Some a → nth c a.connections ≡ Some d → (x : Dial) × (nth d dials ≡ Some x) × (x.link ≡ l) × (x.connect_id ≡ pos c)
  pub connection_of : (d n : ℕ) (x : Dial) → nth d dials ≡ Some x → x.connect_id ≡ pos (suc n) → (a : Agent) × (nth x.link agents ≡ Some a) × (nth (suc n) a.connections ≡ Some d)
  pub connect_id : (d : ℕ) (x : Dial) → nth d dials ≡ Some x → (n : ℕ) × (x.connect_id ≡ pos n)
  pub link : (d : ℕ) (x : Dial) → nth d dials ≡ Some x → (a : Agent) × (nth x.link agents ≡ Some a)
  pub of_ticket : (l ticket : ℕ) (a : Agent) (y : ListedDial) → nth l agents ≡ Some a → first_where (is_dial ticket) a.core.dials ≡ Some y
      → (d : ℕ) × (x : Dial) × (y.random ≡ pos d) × (nth d dials ≡ Some x) × (x.link ≡ l) × (x.ticket ≡ ticket)
  pub ticket_once : (d e : ℕ) (x y : Dial) → nth d dials ≡ Some x → nth e dials ≡ Some y → x.link ≡ y.link → x.ticket ≡ y.ticket → x.ticket ≢ 0 → d ≡ e
  pub ticket_older : (d : ℕ) (x : Dial) (a : Agent) → nth d dials ≡ Some x → nth x.link agents ≡ Some a → x.ticket < a.core.next_ticket
  pub first_ticket : (l : ℕ) (a : Agent) → nth l agents ≡ Some a → 0 < a.core.next_ticket
  pub ticket_some : (l ticket : ℕ) (a : Agent) (y : ListedDial) → nth l agents ≡ Some a → first_where (is_dial ticket) a.core.dials ≡ Some y → ticket ≢ 0
  pub tickets_rise : (l : ℕ) (a : Agent) → nth l agents ≡ Some a → IsRising (λ (y : ListedDial). y.ticket) a.core.dials
  -- nothing is on its way to a server that lost the link
  pub up_dry : (l : ℕ) (a : Agent) → nth l agents ≡ Some a → a.at_server ≡ false → a.up ≡ []
  -- no connection has the number of none, and nothing came for a destination that was not won
  pub no_connection : (l : ℕ) (a : Agent) → nth l agents ≡ Some a → connection_at (pos 0) a.core.connections ≡ None
  pub dry : (d : ℕ) (x : Dial) → nth d dials ≡ Some x → x.connect_id ≡ pos 0 → x.side.coming.waiting ≡ []

-- ---- clients and their apps: each has a number of its own at its client
-- an app that its client has is noted as dialling exactly while its client knows it so
abbrev pub IsNotedAs : AppState → Stage → Type 0
IsNotedAs listed.Dialling noted = noted ≡ stage.Dialling
IsNotedAs listed.Open noted = noted ≡ stage.Open
IsNotedAs listed.Closing noted = noted ≡ stage.Open
IsNotedAs listed.Lingering noted = noted ≡ stage.Open

abbrev pub HasLeft : Stage → Type 0
HasLeft noted = (noted ≡ stage.Refused) ⊎ (noted ≡ stage.Ended)

-- an app by CONNECT of which the server takes no more: it has left, or the server has ended its tunnel
abbrev pub IsPast : App → Type 0
IsPast a = HasLeft a.stage ⊎ (a.door.closing ≡ true)

pub record ClientFits (clients : List Client) (apps : List App) : Type 0 where
  pub of_number : (c n app : ℕ) (x : Client) → nth c clients ≡ Some x → nth n x.apps ≡ Some app → (a : App) × (nth app apps ≡ Some a) × (a.home ≡ home.Client c n)
  pub number_of : (app c n : ℕ) (a : App) → nth app apps ≡ Some a → a.home ≡ home.Client c n → (x : Client) × (nth c clients ≡ Some x) × (nth n x.apps ≡ Some app)
  pub top : (c : ℕ) (x : Client) → nth c clients ≡ Some x → x.core.top_app ≤ length x.apps
  -- one that has its stream was told of all its apps
  pub all_told : (c : ℕ) (x : Client) → nth c clients ≡ Some x → x.at_client ≡ true → x.core.top_app ≡ length x.apps
  pub told : (c n : ℕ) (x : Client) (y : ListedApp) → nth c clients ≡ Some x → first_where (is_app n) x.core.apps ≡ Some y → n ≤ x.core.top_app
  pub here : (app c n : ℕ) (a : App) (x : Client) (y : ListedApp) → nth app apps ≡ Some a → a.home ≡ home.Client c n → nth c clients ≡ Some x → first_where (is_app n) x.core.apps ≡ Some y
      → IsNotedAs y.state a.stage
  pub left : (app c n : ℕ) (a : App) (x : Client) → nth app apps ≡ Some a → a.home ≡ home.Client c n → nth c clients ≡ Some x → first_where (is_app n) x.core.apps ≡ None
      → n ≤ x.core.top_app → HasLeft a.stage
  -- nothing is on its way to an end that lost the stream
  pub up_dry : (c : ℕ) (x : Client) → nth c clients ≡ Some x → x.at_server ≡ false → x.up ≡ []
  pub down_dry : (c : ℕ) (x : Client) → nth c clients ≡ Some x → x.at_client ≡ false → x.down ≡ []
  -- one that its client was not told of asked for no dial
  pub unasked : (app c n : ℕ) (a : App) (x : Client) → nth app apps ≡ Some a → a.home ≡ home.Client c n → nth c clients ≡ Some x → x.core.top_app < n → a.dial ≡ 0
  -- no door of the server is theirs
  pub no_door : (app c n : ℕ) (a : App) → nth app apps ≡ Some a → a.home ≡ home.Client c n → a.door ≡ new_door

-- ---- fronts of the server: each is a client's, or an app's whose head by CONNECT was whole
abbrev pub IsDataOf : ℕ → Packet → Type 0
IsDataOf dial p = (bytes : List ℕ) × (p ≡ data_of dial bytes)

-- an app by CONNECT whose head is not whole
pub record IsUnheard (a : App) : Type 0 where
  pub sending : a.side.sending ≡ no_bytes
  pub coming : a.side.coming ≡ no_bytes
  pub dial : a.dial ≡ 0
  pub early : a.door.early ≡ []
  pub closing : a.door.closing ≡ false
  pub at_server : a.door.at_server ≡ false
  pub unopened : a.stage ≢ stage.Open

pub record FrontFits (clients : List Client) (apps : List App) (fronts : List Owner) (up : FrontList) : Type 0 where
  pub of_client : (f c : ℕ) → nth f fronts ≡ Some (owner.Client c) → (x : Client) × (nth c clients ≡ Some x) × (x.front ≡ f)
  pub client : (c : ℕ) (x : Client) → nth c clients ≡ Some x → nth x.front fronts ≡ Some (owner.Client c)
  pub of_app : (f app : ℕ) → nth f fronts ≡ Some (owner.App app) → (a : App) × (nth app apps ≡ Some a) × (a.home ≡ home.Connect) × (a.door.number ≡ f)
  pub app : (app n : ℕ) (a : App) → nth app apps ≡ Some a → a.home ≡ home.Connect → a.door.number ≡ suc n → nth (suc n) fronts ≡ Some (owner.App app)
  pub unheard : (app : ℕ) (a : App) → nth app apps ≡ Some a → a.home ≡ home.Connect → a.door.number ≡ 0 → IsUnheard a
  pub early : (app : ℕ) (a : App) → nth app apps ≡ Some a → a.home ≡ home.Connect → Each (IsDataOf a.dial) a.door.early
  -- one that was refused has no tunnel that the server would end; the server has the front of one whose end it was not told
  pub refused : (app : ℕ) (a : App) → nth app apps ≡ Some a → a.home ≡ home.Connect → a.stage ≡ stage.Refused → a.door.closing ≡ false
  pub present : (app n : ℕ) (a : App) → nth app apps ≡ Some a → a.home ≡ home.Connect → a.door.number ≡ suc n → a.side.end_given ≡ false → a.door.at_server ≡ true
  -- one whose front the server lost has left, or its tunnel has ended, and nothing of it is kept
  pub gone : (app n : ℕ) (a : App) → nth app apps ≡ Some a → a.home ≡ home.Connect → a.door.number ≡ suc n → a.door.at_server ≡ false → IsPast a × (a.door.early ≡ [])
  pub known : (f : ℕ) → is_up f up ≡ true → (o : Owner) × (nth f fronts ≡ Some o)

-- ---- a dial is of the app that asked for it, and the app knows it
pub record AskedFits (dials : List Dial) (apps : List App) : Type 0 where
  pub asker : (d : ℕ) (x : Dial) → nth d dials ≡ Some x → (a : App) × (nth x.app apps ≡ Some a) × (a.dial ≡ d)

-- ---- all of it; dials are numbered by the server
pub record Fits (s : State) : Type 0 where
  pub asked : AskedFits s.dials s.apps
  pub agents : AgentFits s.agents s.dials
  pub clients : ClientFits s.clients s.apps
  pub fronts : FrontFits s.clients s.apps s.fronts s.server.fronts
  pub next_dial : s.server.next_dial ≡ length s.dials + 1
