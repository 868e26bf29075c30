-- The packet world once each CONNECT app has taken all that came for it, as an app of the running world does at once.
use Rattle.std.specs.Prelude.{ℕ, ◌&&◌, ◌||◌, ◌++◌, Bool, true, false, List, [], ◌∷◌, if◌then◌else◌}
use Rattle.kn_packet.specs.declared.packet.Packet.{Packet}
use Rattle.kn_packet.specs.declared.packet.Packet.TheVariants.{CloseReq, CloseRsp, Data, DialCls, DialReq, DialRsp, Drain, Other}
use Rattle.kn_tunnel.specs.Kinds.{left_phase}
use Rattle.kn_tunnel.specs.Tunnel.{Dialling, Draining, Ended, Ending, Opened, Phase, Refused}
use Rattle.kn_packets.specs.Outputs.{finishes}
use Rattle.kn_packets.specs.World.{World, WorldApp, WorldStream}

-- a refusal or the close is the last that it takes
abbrev pub ends : List Packet → Bool
ends [] = false
ends (p ∷ ps) = finishes p || ends ps

abbrev pub bytes_in : Packet → List ℕ
bytes_in (Data connect_id error bytes) = bytes
bytes_in (DialReq protocol address random) = []
bytes_in (DialRsp error connect_id random) = []
bytes_in (CloseReq connect_id) = []
bytes_in (CloseRsp error connect_id) = []
bytes_in (DialCls random) = []
bytes_in Drain = []
bytes_in (Other number) = []

abbrev pub bytes_taken : List Packet → List ℕ
bytes_taken [] = []
bytes_taken (p ∷ ps) = if finishes p then [] else bytes_in p ++ bytes_taken ps

-- a CONNECT app takes while it has its end, and leaves with the last
abbrev pub takes : WorldStream → Bool
takes s = s.connect && s.client

abbrev pub leaves : WorldStream → Bool
leaves s = takes s && ends s.down

abbrev pub is_refused : Phase → Bool
is_refused Refused = true
is_refused Dialling = false
is_refused Opened = false
is_refused Ending = false
is_refused Draining = false
is_refused Ended = false

-- what one that was refused sent before is dropped
abbrev pub settled_stream : Phase → WorldStream → WorldStream
settled_stream phase s = record s {
  client = (if leaves s then false else s.client);
  up = (if leaves s && is_refused phase then [] else s.up);
  down = (if takes s then [] else s.down);
}

abbrev pub settled_app : WorldStream → WorldApp → WorldApp
settled_app s a = record a {
  phase = (if leaves s then left_phase a.phase else a.phase);
  side = record a.side { got = (if takes s then a.side.got ++ bytes_taken s.down else a.side.got) };
}

abbrev pub settled : World → World
settled w = record w {
  streams = λ f. settled_stream (w.apps (w.streams f).app).phase (w.streams f);
  apps = λ k. settled_app (w.streams (w.apps k).stream) (w.apps k);
}
