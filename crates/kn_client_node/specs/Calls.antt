-- The calls of the client node, and its answers.
use Rattle.std.specs.Prelude.{◌≡◌, ℕ, ◌+◌, ◌==◌, nat_lt, Bool, true, false, not, ◌&&◌, ◌||◌, List, [], ◌∷◌, ◌++◌, length, drop, Option, Some, None, is_some, is_none, if◌then◌else◌}
use Rattle.std.specs.Option.{option_map}
use Rattle.kn_h2_state.specs.declared.role.Role.TheVariants as role
use Rattle.kn_h2_state.specs.Calls.{fresh, next_number}
use Rattle.kn_edge_core.specs.declared.app.AppState.{AppState}
use Rattle.kn_edge_core.specs.declared.app.AppState.TheVariants.{Dialling, Open, Closing, Lingering}
use Rattle.kn_edge_core.specs.declared.client_state.ClientState.{ClientState}
use Rattle.kn_edge_core.specs.declared.client_event.ClientEvent.TheVariants.{AppUp, AppBytes, AppEnd, AppFailed, AppWrote}
use Rattle.kn_edge_core.specs.Client as client
use Rattle.kn_ends.specs.declared.carrier.Carrier.{Carrier}
use Rattle.kn_ends.specs.Carriers.{is_live, is_gone, is_bare, can_begin, with_loss, fed_with}
use Rattle.kn_ends.specs.Carriers.{out_of as carrier_out, took as carrier_took}
use Rattle.kn_ends.specs.Queues.{is_empty, total}
use Rattle.kn_rising.specs.Members.{Members, at, with, change, without, inserted, none}
use Rattle.kn_rising.specs.Stirring.{is_stirred}
use Rattle.kn_client_node.specs.declared.side.Side.{Side}
use Rattle.kn_client_node.specs.declared.tunnel.Tunnel.{Tunnel}
use Rattle.kn_client_node.specs.declared.ending.Ending.{Ending}
use Rattle.kn_client_node.specs.declared.node.Node.{Node}
use Rattle.kn_client_node.specs.Texts as text
use Rattle.kn_client_node.specs.Streams.{with_stream}
use Rattle.kn_client_node.specs.Nodes.{stir, queue_len, is_full, is_long, app_of_number, ending, event, any_stream_over}
use Rattle.kn_client_node.specs.Steps.{on_carrier, Settles}

-- ---- the start

abbrev pub fresh_carrier : Carrier
fresh_carrier = record { conn = fresh role.Client; lost = false; inlets = [] }

-- a client over the connection of this number, before its first app
abbrev pub fresh_node : ℕ → List ℕ → Node
fresh_node conn authority = record {
  core = client.start;
  server = conn;
  carrier = fresh_carrier;
  authority = authority;
  stream = None;
  behind = [];
  sides = none;
  by_app = none;
  ended = [];
  top = conn;
  handled = 0;
  gone = 0;
  stirred = [];
}

-- ---- answers

abbrev pub is_open : AppState → Bool
is_open Open = true
is_open Dialling = false
is_open Closing = false
is_open Lingering = false

abbrev pub is_open_state : Option AppState → Bool
is_open_state None = false
is_open_state (Some state) = is_open state

abbrev pub is_open_app : ClientState → Option ℕ → Bool
is_open_app s None = false
is_open_app s (Some n) = is_open_state (option_map (λ a. a.state) (app_of_number s n))

abbrev pub side_wants : Node → Option Side → Bool
side_wants node None = false
side_wants node (Some side) = not side.ended && is_open_app node.core side.app && not (is_long (queue_len node))

-- A connection is read: the server's until it is lost or fails; that of an app while its tunnel is open, the app has not
-- ended, and not much waits for the server.
unfoldable pub wants_of : Node → ℕ → Bool
wants_of node conn = if conn == node.server then is_live node.carrier else side_wants node (at node.sides conn)

abbrev pub side_out : Option Side → List ℕ
side_out None = []
side_out (Some side) = side.out

-- what waits for the socket of a connection
unfoldable pub out_of : Node → ℕ → List ℕ
out_of node conn = if conn == node.server then carrier_out node.carrier else side_out (at node.sides conn)

abbrev pub side_app : Option Side → Option ℕ
side_app None = None
side_app (Some side) = side.app

-- the app of a connection, while it is on the client's list
unfoldable pub app_of : Node → ℕ → Option ℕ
app_of node conn = side_app (at node.sides conn)

-- a connection is to be closed once nothing waits for its socket
unfoldable pub shuts_of : Node → ℕ → Bool
shuts_of node conn = if conn == node.server then not (is_live node.carrier) else is_none (side_app (at node.sides conn))

-- of one that is not lost packets may wait behind its queue
abbrev pub server_is_bare : Node → Bool
server_is_bare node = is_bare node.carrier && (is_empty node.behind || not (is_live node.carrier))

-- the connection has nothing under way, in either direction; of that of an app this is always so
unfoldable pub bare_of : Node → ℕ → Bool
bare_of node conn = if conn == node.server then server_is_bare node else true

-- the server's connection was lost or has failed
abbrev pub is_server_lost : Node → Bool
is_server_lost node = not (is_live node.carrier)

-- What is to be written on a connection, and whether it is to be closed, are other than before only where it was stirred; and
-- none that was is forgotten.
abbrev pub Stirs : Node → Node → Type 0
Stirs old new = (c : ℕ) → (is_stirred c old.stirred ≡ true → is_stirred c new.stirred ≡ true)
    × (is_stirred c new.stirred ≡ false → (out_of new c ≡ out_of old c) × (shuts_of new c ≡ shuts_of old c))

-- ---- an app comes

-- what waits for the stream, with what is kept behind its queue
abbrev pub backlog : Node → ℕ
backlog node = queue_len node + total node.behind

abbrev pub has_stream : Carrier → Option ℕ → Bool
has_stream c (Some s) = true
has_stream c None = can_begin c

-- the numbers of apps are used up
abbrev pub has_no_number : Node → Bool
has_no_number node = node.core.top_app + 1 == 9223372036854775807

-- there is no number, or no stream, for a further app
abbrev pub place_refusal : Node → Option (List ℕ)
place_refusal node = if has_no_number node || not (has_stream node.carrier node.stream) then Some text.too_many_streams else None

abbrev pub queue_refusal : Node → Option (List ℕ)
queue_refusal node = if is_full (backlog node) then Some text.client_busy else place_refusal node

-- why an app is closed at once: the first cause that holds
abbrev pub app_refusal : Node → Option (List ℕ)
app_refusal node = if is_live node.carrier then queue_refusal node else Some text.server_lost

-- it is told why, and its connection is none that is kept
abbrev pub refused : ℕ → List ℕ → Node → Node
refused conn error node = record node { ended = node.ended ++ ending conn true error ∷ [] }

-- the stream stands, or begins
abbrev pub begun : Option ℕ → Node → Node
begun (Some s) node = node
begun None node = record node { stream = Some (next_number node.carrier.conn.state); carrier = with_stream node.authority node.carrier }

abbrev pub new_side : ℕ → Side
new_side app = record { app = Some app; out = []; ended = false }

abbrev pub new_tunnel : ℕ → Tunnel
new_tunnel conn = record { conn = conn; up = false }

abbrev pub seated : ℕ → ℕ → Node → Node
seated conn app node = record node { sides = inserted node.sides conn (new_side app); by_app = inserted node.by_app app (new_tunnel conn) }

-- it draws the next number, and the core hears of it
abbrev pub accepted : ℕ → List ℕ → Node → Node
accepted conn address node = event (AppUp (node.core.top_app + 1) address) (seated conn (node.core.top_app + 1) node)

abbrev pub app_by : Option (List ℕ) → ℕ → List ℕ → Node → Node
app_by (Some error) conn address node = refused conn error node
app_by None conn address node = accepted conn address (begun node.stream node)

abbrev pub with_top : ℕ → Node → Node
with_top conn node = record node { top = conn }

unfoldable pub app_came : ℕ → List ℕ → Node → Node
app_came conn address node = app_by (app_refusal node) conn address (with_top conn node)

-- ---- the server's connection

-- It is lost: what waits for it is dropped, and its stream is over. One that is gone changes nothing.
abbrev pub lose_by : Bool → Node → Node
lose_by true node = node
lose_by false node = any_stream_over node.stream (on_carrier with_loss node)

abbrev pub lose_server : Node → Node
lose_server node = lose_by (is_gone node.carrier) node

-- ---- an app's connection: its bytes, what it took, its end, and its failure

abbrev pub app_sent : Option ℕ → List ℕ → Node → Node
app_sent None piece node = node
app_sent (Some app) piece node = event (AppBytes app piece) node

abbrev pub app_wrote : Option ℕ → ℕ → Node → Node
app_wrote None count node = node
app_wrote (Some app) count node = event (AppWrote app count) node

abbrev pub app_ended : Option ℕ → Node → Node
app_ended None node = node
app_ended (Some app) node = event (AppEnd app) node

abbrev pub app_failed : Option ℕ → Node → Node
app_failed None node = node
app_failed (Some app) node = event (AppFailed app) node

abbrev pub without_first : ℕ → Side → Side
without_first count side = record side { out = drop count side.out }

-- one that belongs to no app is forgotten with the last byte that it takes
abbrev pub less_at : Option Side → ℕ → ℕ → Members Side → Members Side
less_at None conn count sides = sides
less_at (Some side) conn count sides = if is_none side.app && (length side.out == count) then without sides conn else with sides conn (without_first count side)

abbrev pub with_end : Side → Side
with_end side = record side { ended = true }

abbrev pub app_at : Node → ℕ → Option ℕ
app_at node conn = side_app (at node.sides conn)

abbrev pub side_sent : ℕ → List ℕ → Node → Node
side_sent conn piece node = app_sent (app_at node conn) piece node

abbrev pub side_took : ℕ → ℕ → Node → Node
side_took conn count node = app_wrote (app_at node conn) count (record node { sides = less_at (at node.sides conn) conn count node.sides })

abbrev pub side_ended : ℕ → Node → Node
side_ended conn node = app_ended (app_at node conn) (record node { sides = change node.sides conn with_end })

-- what is to be written to it is dropped with it
abbrev pub side_lost : ℕ → Node → Node
side_lost conn node = app_failed (app_at node conn) (record node { sides = without node.sides conn })

-- ---- calls

pub data Called : Type 0 where
  -- bytes were read from a connection
  Bytes : ℕ → List ℕ → Called
  -- a connection took so many bytes of what waits for it
  Took : ℕ → ℕ → Called
  -- the bytes that come from a connection ended
  Ended : ℕ → Called
  -- a connection failed
  Lost : ℕ → Called
  -- an app came, and asks for an address
  App : ℕ → List ℕ → Called

-- what the call itself does; to the server's connection its end is a loss
unfoldable pub called : Called → Node → Node
called (Bytes conn piece) node = if conn == node.server then on_carrier (fed_with piece) node else side_sent conn piece node
called (Took conn count) node = if conn == node.server then on_carrier (carrier_took count) node else side_took conn count node
called (Ended conn) node = if conn == node.server then lose_server node else side_ended conn node
called (Lost conn) node = if conn == node.server then lose_server node else side_lost conn node
called (App conn address) node = app_came conn address node

-- the connection of a call
abbrev pub own : Called → ℕ
own (Bytes conn piece) = conn
own (Took conn count) = conn
own (Ended conn) = conn
own (Lost conn) = conn
own (App conn address) = conn

-- First the server's connection is stirred, to which packets may go, and then the call's own.
abbrev pub entered : Called → Node → Node
entered call node = stir (own call) (stir node.server node)

-- a call: what it does itself, and then steps until none is left
abbrev pub Handling : Node → Called → Node → Type 0
Handling old call new = Settles (called call (entered call old)) new

-- what was told first to an app that left is handed out
abbrev pub HandsOut : Node → ℕ → Bool → List ℕ → Node → Type 0
HandsOut old conn early error new = old ≡ record new { ended = ending conn early error ∷ new.ended }
