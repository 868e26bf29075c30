-- The streams and the apps after a step of the server, once each CONNECT app has taken what came for it.
use Rattle.std.proofs.Common.{◌≡◌, ◌&&◌, ◌++◌, ℕ, ℤ, Bool, true, false, cond, List, [], ◌∷◌, Option, refl, sym, ap, ◌∙◌, append_assoc}
use Rattle.kn_packet.specs.declared.packet.Packet.{Packet}
use Rattle.kn_server_core.specs.declared.event.ServerOut.{ServerOut}
use Rattle.kn_tunnel.specs.Kinds.{left_phase}
use Rattle.kn_tunnel.specs.Tunnel.{Front, Phase, Side}
use Rattle.kn_packets.specs.Outputs.{all_answered, all_finish, asks, dial_made, for_front, queued}
use Rattle.kn_packets.specs.World.{WorldApp, WorldStream}
use Rattle.kn_refinement.specs.Settled.{bytes_taken, ends, is_refused, settled_app, settled_stream, takes}
use Rattle.kn_refinement.proofs.DoorsHeard.{View, taken_at}
use Rattle.kn_refinement.proofs.ServerStreams.{queued_gone}

-- ---- what a step makes of a stream, and of an app
abbrev pub served_stream : List ServerOut → ℕ → WorldStream → WorldStream
served_stream os f x = record x { down = queued x.client x.down (for_front f os); finished = all_finish x.connect (for_front f os) x.finished }

abbrev pub served_app : List ServerOut → ℤ → WorldStream → WorldApp → WorldApp
served_app os random x a = record a { dial = dial_made a.stream (asks x.connect a.number random) os a.dial; phase = all_answered x.connect (for_front a.stream os) a.phase }

-- ---- where there is no CONNECT app
pub calm_stream : (phase : Phase) (x : WorldStream) → takes x ≡ false → settled_stream phase x ≡ x
calm_stream phase x h = here (takes x) h
  where
    here : (t : Bool) → t ≡ false → record x { client = cond (t && ends x.down) false x.client; up = cond ((t && ends x.down) && is_refused phase) [] x.up; down = cond t [] x.down } ≡ x
    here true e = absurd cc
    here false e = refl

pub calm_app : (x : WorldStream) (a : WorldApp) → takes x ≡ false → settled_app x a ≡ a
calm_app x a h = here (takes x) h
  where
    here : (t : Bool) → t ≡ false → record a { phase = cond (t && ends x.down) (left_phase a.phase) a.phase; side = record a.side { got = cond t (a.side.got ++ bytes_taken x.down) a.side.got } } ≡ a
    here true e = absurd cc
    here false e = refl

-- ---- where there is one
queued_all : (ps : List Packet) (xs : List Packet) → queued true xs ps ≡ xs ++ ps
queued_all [] xs = sym (nil xs)
  where
    nil : (ys : List Packet) → ys ++ [] ≡ ys
    nil [] = refl
    nil (y ∷ ys) = ap (λ zs. y ∷ zs) (nil ys)
queued_all (p ∷ ps) xs = queued_all ps (xs ++ p ∷ []) ∙ append_assoc xs (p ∷ []) ps

abbrev pub stream_by : ℕ → Front → View → WorldStream
stream_by k front v = record { begun = true; connect = true; owner = 0; app = k; front = front; client = v.client; finished = v.finished; up = v.up; down = [] }

abbrev pub app_by : ℕ → Option ℕ → View → WorldApp
app_by f dial v = record { came = true; stream = f; number = 0; phase = v.phase; side = v.side; dial = dial }

abbrev pub view_by : Bool → Bool → List Packet → Phase → Side → View
view_by client finished up phase side = record { client = client; finished = finished; up = up; phase = phase; side = side }

pub stream_settles : (k f : ℕ) (front : Front) (os : List ServerOut) (client finished : Bool) (up : List Packet) (phase later : Phase) (side : Side)
    → stream_by k front (taken_at later (for_front f os) (view_by client finished up phase side)) ≡ settled_stream later (served_stream os f (stream_by k front (view_by client finished up phase side)))
stream_settles k f front os true finished up phase later side = rw (queued_all (for_front f os) []) refl
stream_settles k f front os false finished up phase later side = rw (queued_gone [] (for_front f os)) refl

pub app_settles : (k f : ℕ) (front : Front) (os : List ServerOut) (client finished : Bool) (up : List Packet) (phase later : Phase) (side : Side) (dial : Option ℕ)
    → app_by f dial (taken_at later (for_front f os) (view_by client finished up phase side))
    ≡ settled_app (served_stream os f (stream_by k front (view_by client finished up phase side))) (app_by f dial (view_by client finished up later side))
app_settles k f front os true finished up phase later side dial = rw (queued_all (for_front f os) []) refl
app_settles k f front os false finished up phase later side dial = refl
