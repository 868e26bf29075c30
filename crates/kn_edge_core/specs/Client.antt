-- What a client does with an event: a definition for each rule. A rule takes the state and the app that it
-- concerns; the look-ups are made once, where an event is told apart.
use Rattle.std.specs.Prelude.{ℕ, ℤ, pos, ◌+◌, ◌==◌, ◌<◌, ◌≤◌, ◌^◌, List, [], ◌∷◌, length, Option, Some, None, if◌then◌else◌, codes}
use Rattle.kn_packet.specs.declared.packet.Packet.{Packet}
use Rattle.kn_packet.specs.declared.packet.Packet.TheVariants.{DialReq, DialRsp, CloseReq, CloseRsp, Data, DialCls, Drain, Other}
use Rattle.kn_tables.specs.Lists.{first_where}
use Rattle.kn_edge_core.specs.declared.app.App.{App}
use Rattle.kn_edge_core.specs.declared.app.AppState.{AppState}
use Rattle.kn_edge_core.specs.declared.app.AppState.TheVariants.{Dialling, Open, Closing, Lingering}
use Rattle.kn_edge_core.specs.declared.client_event.ClientEvent.{ClientEvent}
use Rattle.kn_edge_core.specs.declared.client_event.ClientEvent.TheVariants as event
use Rattle.kn_edge_core.specs.declared.client_event.ClientOut.{ClientOut}
use Rattle.kn_edge_core.specs.declared.client_event.ClientOut.TheVariants.{ToServer, ToApp, EndApp}
use Rattle.kn_edge_core.specs.declared.client_state.ClientState.{ClientState}
use Rattle.kn_edge_core.specs.ClientTables.{is_app, app_at, with_app, without_app, is_open_at, is_held_at, app_changed, opened, closing, lingering, with_more, with_fewer}
use Rattle.kn_edge_core.specs.Steps.{ClientStep}

-- nothing changes
abbrev pub ignored : ClientState → ClientStep
ignored s = record { state = s; outs = [] }

-- only outputs
abbrev pub told : ClientState → List ClientOut → ClientStep
told s outs = record { state = s; outs = outs }

-- an app changes
abbrev pub app_turned : ClientState → ℕ → (App → App) → List ClientOut → ClientStep
app_turned s number change outs = record { state = record s { apps = app_changed number change s.apps }; outs = outs }

-- an app leaves, and is told an error or the empty text
abbrev pub app_left : ClientState → ℕ → List ℕ → ClientStep
app_left s number error = record { state = record s { apps = without_app number s.apps }; outs = EndApp number error ∷ [] }

-- the same, after a packet to the server
abbrev pub app_left_telling : ClientState → ℕ → Packet → ClientStep
app_left_telling s number packet = record { state = record s { apps = without_app number s.apps }; outs = ToServer packet ∷ EndApp number [] ∷ [] }

-- ---- an app comes up: its number is the dial's random
abbrev pub app_up : ClientState → ℕ → List ℕ → ClientStep
app_up s number address =
    let a : App = record { number = number; state = Dialling; connect_id = pos 0; unwritten = 0; error = [] } in
    record {
      state = record s { apps = with_app a s.apps; top_app = number };
      outs = ToServer (DialReq (codes "tcp") address (pos number)) ∷ [];
    }

-- ---- the server replies to a dial
-- a reply that no app waits for: its connection is to be closed
abbrev pub stray_reply : ClientState → List ℕ → ℤ → ClientStep
stray_reply s [] connect_id = told s (ToServer (CloseReq connect_id) ∷ [])
stray_reply s (x ∷ xs) connect_id = ignored s

abbrev pub dial_answered : ClientState → ℕ → List ℕ → ℤ → ClientStep
dial_answered s number [] connect_id = app_turned s number (opened connect_id) []
dial_answered s number (x ∷ xs) connect_id = app_left s number (x ∷ xs)

abbrev pub reply_by_state : ClientState → ℕ → List ℕ → ℤ → AppState → ClientStep
reply_by_state s number error connect_id Dialling = dial_answered s number error connect_id
reply_by_state s number error connect_id Open = stray_reply s error connect_id
reply_by_state s number error connect_id Closing = stray_reply s error connect_id
reply_by_state s number error connect_id Lingering = stray_reply s error connect_id

abbrev pub reply_came : ClientState → List ℕ → ℤ → Option App → ClientStep
reply_came s error connect_id None = stray_reply s error connect_id
reply_came s error connect_id (Some a) = reply_by_state s a.number error connect_id a.state

-- ---- an app's bytes
abbrev pub app_bytes_by_state : ClientState → ℤ → List ℕ → AppState → ClientStep
app_bytes_by_state s connect_id bytes Open = told s (ToServer (Data connect_id [] bytes) ∷ [])
app_bytes_by_state s connect_id bytes Dialling = ignored s
app_bytes_by_state s connect_id bytes Closing = ignored s
app_bytes_by_state s connect_id bytes Lingering = ignored s

abbrev pub app_bytes : ClientState → List ℕ → Option App → ClientStep
app_bytes s bytes None = ignored s
app_bytes s bytes (Some a) = app_bytes_by_state s a.connect_id bytes a.state

-- ---- an app's end, and its failure
-- an app takes its dial back
abbrev pub dial_cancelled : ClientState → ℕ → ClientStep
dial_cancelled s number = app_left_telling s number (DialCls (pos number))

abbrev pub end_by_state : ClientState → ℕ → ℤ → AppState → ClientStep
end_by_state s number connect_id Dialling = dial_cancelled s number
end_by_state s number connect_id Open = app_turned s number closing (ToServer (CloseReq connect_id) ∷ [])
end_by_state s number connect_id Closing = ignored s
end_by_state s number connect_id Lingering = ignored s

abbrev pub app_ended : ClientState → Option App → ClientStep
app_ended s None = ignored s
app_ended s (Some a) = end_by_state s a.number a.connect_id a.state

abbrev pub failure_by_state : ClientState → ℕ → ℤ → AppState → ClientStep
failure_by_state s number connect_id Dialling = dial_cancelled s number
failure_by_state s number connect_id Open = app_left_telling s number (CloseReq connect_id)
failure_by_state s number connect_id Closing = app_left s number []
failure_by_state s number connect_id Lingering = app_left s number []

abbrev pub app_failed : ClientState → Option App → ClientStep
app_failed s None = ignored s
app_failed s (Some a) = failure_by_state s a.number a.connect_id a.state

-- ---- data and closes, for the first app that a connectID means
abbrev pub data_came : ClientState → List ℕ → Option App → ClientStep
data_came s bytes None = ignored s
data_came s bytes (Some a) = app_turned s a.number (with_more (length bytes)) (ToApp a.number bytes ∷ [])

-- the tunnel is over: the app is told at once, or once all is written
abbrev pub tunnel_closed : ClientState → ℕ → ℕ → List ℕ → ClientStep
tunnel_closed s number unwritten error = if unwritten == 0 then app_left s number error else app_turned s number (lingering error) []

abbrev pub close_came : ClientState → List ℕ → Option App → ClientStep
close_came s error None = ignored s
close_came s error (Some a) = tunnel_closed s a.number a.unwritten error

-- ---- an app took bytes: one that lingers leaves with the last of them
abbrev pub linger_wrote : ClientState → ℕ → App → ClientStep
linger_wrote s count a = if a.unwritten == count then app_left s a.number a.error else app_turned s a.number (with_fewer count) []

abbrev pub wrote_by_state : ClientState → ℕ → App → AppState → ClientStep
wrote_by_state s count a Lingering = linger_wrote s count a
wrote_by_state s count a Dialling = app_turned s a.number (with_fewer count) []
wrote_by_state s count a Open = app_turned s a.number (with_fewer count) []
wrote_by_state s count a Closing = app_turned s a.number (with_fewer count) []

abbrev pub app_wrote : ClientState → ℕ → Option App → ClientStep
app_wrote s count None = ignored s
app_wrote s count (Some a) = wrote_by_state s count a a.state

-- ---- the stream ends: each app leaves at once, or once all is written
abbrev pub held_after_stream : List ℕ → ℕ → App → Option App
held_after_stream error unwritten a = if unwritten == 0 then None else Some (lingering error a)

abbrev pub after_stream : List ℕ → AppState → App → Option App
after_stream error Dialling a = None
after_stream error Open a = held_after_stream error a.unwritten a
after_stream error Closing a = held_after_stream error a.unwritten a
after_stream error Lingering a = Some a

abbrev pub kept : Option App → List App → List App
kept None rest = rest
kept (Some a) rest = a ∷ rest

abbrev pub told_unless_kept : List ℕ → ℕ → Option App → List ClientOut → List ClientOut
told_unless_kept error number None rest = EndApp number error ∷ rest
told_unless_kept error number (Some a) rest = rest

abbrev pub apps_after : List ℕ → List App → List App
apps_after error [] = []
apps_after error (a ∷ rest) = kept (after_stream error a.state a) (apps_after error rest)

abbrev pub ends_told : List ℕ → List App → List ClientOut
ends_told error [] = []
ends_told error (a ∷ rest) = told_unless_kept error a.number (after_stream error a.state a) (ends_told error rest)

abbrev pub stream_ended : ClientState → List ℕ → ClientStep
stream_ended s error = record { state = record s { apps = apps_after error s.apps }; outs = ends_told error s.apps }

-- ---- packets and events
abbrev pub packet_came : ClientState → Packet → ClientStep
packet_came s (DialRsp error connect_id random) = reply_came s error connect_id (app_at random s.apps)
packet_came s (Data connect_id error bytes) = data_came s bytes (first_where (is_open_at connect_id) s.apps)
packet_came s (CloseRsp error connect_id) = close_came s error (first_where (is_held_at connect_id) s.apps)
packet_came s (DialReq protocol address random) = ignored s
packet_came s (CloseReq connect_id) = ignored s
packet_came s (DialCls random) = ignored s
packet_came s Drain = ignored s
packet_came s (Other number) = ignored s

abbrev pub step : ClientState → ClientEvent → ClientStep
step s (event.AppUp app address) = app_up s app address
step s (event.AppBytes app bytes) = app_bytes s bytes (first_where (is_app app) s.apps)
step s (event.AppEnd app) = app_ended s (first_where (is_app app) s.apps)
step s (event.AppFailed app) = app_failed s (first_where (is_app app) s.apps)
step s (event.AppWrote app count) = app_wrote s count (first_where (is_app app) s.apps)
step s (event.Packet packet) = packet_came s packet
step s (event.StreamEnded error) = stream_ended s error

-- no app
abbrev pub start : ClientState
start = record { apps = []; top_app = 0 }

-- ---- what an event needs
-- bytes that come are counted, and the count has room for them
abbrev pub HasRoom : ℕ → Option App → Type 0
HasRoom count None = Unit {0}
HasRoom count (Some a) = a.unwritten + count < 2 ^ 64

-- bytes that were written were to be written
abbrev pub WereUnwritten : ℕ → Option App → Type 0
WereUnwritten count None = Unit {0}
WereUnwritten count (Some a) = count ≤ a.unwritten

abbrev pub FitsPacket : ClientState → Packet → Type 0
FitsPacket s (Data connect_id error bytes) = HasRoom (length bytes) (first_where (is_open_at connect_id) s.apps)
FitsPacket s (DialReq protocol address random) = Unit {0}
FitsPacket s (DialRsp error connect_id random) = Unit {0}
FitsPacket s (CloseReq connect_id) = Unit {0}
FitsPacket s (CloseRsp error connect_id) = Unit {0}
FitsPacket s (DialCls random) = Unit {0}
FitsPacket s Drain = Unit {0}
FitsPacket s (Other number) = Unit {0}

-- an app has a number above all earlier ones, and at most 2^63 − 2
abbrev pub Fits : ClientState → ClientEvent → Type 0
Fits s (event.AppUp app address) = (s.top_app < app) × (app < 9223372036854775807)
Fits s (event.AppWrote app count) = WereUnwritten count (first_where (is_app app) s.apps)
Fits s (event.Packet packet) = FitsPacket s packet
Fits s (event.AppBytes app bytes) = Unit {0}
Fits s (event.AppEnd app) = Unit {0}
Fits s (event.AppFailed app) = Unit {0}
Fits s (event.StreamEnded error) = Unit {0}
