-- Which tunnel a number is of: the facts on keys that tie the tables of the three ends, the numbers in flight and what the world notes together.
use Rattle.std.specs.Prelude.{◌≡◌, ◌≢◌, ◌<◌, ◌≤◌, ◌+◌, ℕ, ℤ, suc, pos, negsuc, Bool, true, false, List, [], ◌∷◌, length, None, Some}
use Rattle.kn_packet.specs.declared.packet.Packet.{Packet}
use Rattle.kn_packet.specs.declared.packet.Packet.TheVariants.{CloseReq, CloseRsp, Data, DialCls, DialReq, DialRsp, Drain, Other}
use Rattle.kn_route.specs.LinkLists.{has_link}
use Rattle.kn_tables.specs.Lists.{IsRising, first_where}
use Rattle.kn_tables.specs.Awaiting.{is_dial}
use Rattle.kn_tables.specs.Holding.{is_held_dial}
use Rattle.kn_tables.specs.declared.awaited_entry.AwaitedEntry.{AwaitedEntry}
use Rattle.kn_tables.specs.declared.held_entry.HeldEntry.{HeldEntry}
use Rattle.kn_server_core.specs.FrontLists.{is_up}
use Rattle.kn_server_core.specs.Isolation.{Each, IsOrderly}
use Rattle.kn_edge_core.specs.AgentTables.{is_connection}
use Rattle.kn_edge_core.specs.ClientTables.{is_app}
use Rattle.kn_edge_core.specs.declared.app.App.{App}
use Rattle.kn_edge_core.specs.declared.app.AppState.TheVariants as app
use Rattle.kn_edge_core.specs.declared.connection.Connection.{Connection}
use Rattle.kn_edge_core.specs.declared.dial.Dial.{Dial}
use Rattle.kn_tunnel.specs.Kinds.{has_left, is_present}
use Rattle.kn_tunnel.specs.Facts.{Facts}
use Rattle.kn_words.specs.Down.{down_item, down_ordered, is_request}
use Rattle.kn_words.specs.In.{in_ordered, stream_in_item}
use Rattle.kn_words.specs.Numbers.{is_drawn_number, is_number}
use Rattle.kn_words.specs.Out.{out_ordered, stream_out_item}
use Rattle.kn_words.specs.Up.{up_item, up_ordered}
use Rattle.kn_packets.specs.Moves.{is_of_client}
use Rattle.kn_packets.specs.Outputs.{asks}
use Rattle.kn_packets.specs.World.{World, has_random, tunnel}

-- ---- the server
-- a dial has an app
abbrev pub HasApp : World → ℕ → Type 0
HasApp w d = (k : ℕ) × ((w.apps k).came ≡ true) × ((w.apps k).dial ≡ Some d)

-- an awaited dial is of its link, and of the app that asked for it and no other
pub record AwaitedFits (w : World) (d : ℕ) (e : AwaitedEntry) : Type 0 where
  pub link : (w.dials d).link ≡ e.link
  pub front : (k : ℕ) → (w.apps k).came ≡ true → (w.apps k).dial ≡ Some d → (w.apps k).stream ≡ e.front
  pub random : (k : ℕ) → (w.apps k).came ≡ true → (w.apps k).dial ≡ Some d → asks (w.streams (w.apps k).stream).connect (w.apps k).number e.random ≡ true
  pub app : (k : ℕ) → (w.apps k).came ≡ true → (w.apps k).stream ≡ e.front → asks (w.streams (w.apps k).stream).connect (w.apps k).number e.random ≡ true → (w.apps k).dial ≡ Some d
  pub has_app : HasApp w d

-- a tunnel is of its dial's link and connectID, and its front is the stream of its dial's app
pub record HeldFits (w : World) (d : ℕ) (e : HeldEntry) : Type 0 where
  pub link : (w.dials d).link ≡ e.link
  pub cid : ℕ
  pub drawn : (w.dials d).cid ≡ Some cid
  pub named : e.connect_id ≡ pos cid
  pub front : (k f : ℕ) → (w.apps k).came ≡ true → (w.apps k).dial ≡ Some d → e.front ≡ Some f → (w.apps k).stream ≡ f

-- a packet names no dial from a bound on: on a stream by its connectID, on a link by its random
abbrev pub IsBelow : ℕ → ℤ → Type 0
IsBelow n (pos m) = m < n
IsBelow n (negsuc m) = Unit {0}

abbrev pub StreamOlder : ℕ → Packet → Type 0
StreamOlder n (DialRsp error connect_id random) = IsBelow n connect_id
StreamOlder n (Data connect_id error bytes) = IsBelow n connect_id
StreamOlder n (CloseReq connect_id) = IsBelow n connect_id
StreamOlder n (CloseRsp error connect_id) = IsBelow n connect_id
StreamOlder n (DialReq protocol address random) = Unit {0}
StreamOlder n (DialCls random) = Unit {0}
StreamOlder n Drain = Unit {0}
StreamOlder n (Other number) = Unit {0}

abbrev pub LinkOlder : ℕ → Packet → Type 0
LinkOlder n (DialReq protocol address random) = IsBelow n random
LinkOlder n (DialRsp error connect_id random) = IsBelow n random
LinkOlder n (Data connect_id error bytes) = Unit {0}
LinkOlder n (CloseReq connect_id) = Unit {0}
LinkOlder n (CloseRsp error connect_id) = Unit {0}
LinkOlder n (DialCls random) = Unit {0}
LinkOlder n Drain = Unit {0}
LinkOlder n (Other number) = Unit {0}

-- a reply has as random the dial of its connectID, and an error is short
pub record OfDial (w : World) (link : ℕ) (connect_id random : ℤ) : Type 0 where
  pub dial : ℕ
  pub cid : ℕ
  pub asked : random ≡ pos dial
  pub named : connect_id ≡ pos cid
  pub on : (w.dials dial).link ≡ link
  pub drawn : (w.dials dial).cid ≡ Some cid

abbrev pub ReplyFits : World → ℕ → Packet → Type 0
ReplyFits w link (DialRsp [] connect_id random) = OfDial w link connect_id random
ReplyFits w link (DialRsp (x ∷ xs) connect_id random) = length (x ∷ xs) ≤ 256
ReplyFits w link (DialReq protocol address random) = Unit {0}
ReplyFits w link (Data connect_id error bytes) = Unit {0}
ReplyFits w link (CloseReq connect_id) = Unit {0}
ReplyFits w link (CloseRsp error connect_id) = Unit {0}
ReplyFits w link (DialCls random) = Unit {0}
ReplyFits w link Drain = Unit {0}
ReplyFits w link (Other number) = Unit {0}

pub record ServerKeys (w : World) : Type 0 where
  pub orderly : IsOrderly w.server
  pub from_one : 0 < w.server.next_dial
  pub links_up : (l : ℕ) → has_link l w.server.links ≡ is_present (w.links l).server
  pub fronts_up : (f : ℕ) → is_present (w.streams f).front ≡ true → is_up f w.server.fronts ≡ true
  pub awaited : (d : ℕ) (e : AwaitedEntry) → first_where (is_dial d) w.server.awaited ≡ Some e → AwaitedFits w d e
  pub held : (d : ℕ) (e : HeldEntry) → first_where (is_held_dial d) w.server.held ≡ Some e → HeldFits w d e
  pub dials_older : (k d : ℕ) → (w.apps k).came ≡ true → (w.apps k).dial ≡ Some d → d < w.server.next_dial
  pub ups_older : (l : ℕ) → Each (LinkOlder w.server.next_dial) (w.links l).up
  pub downs_older : (l : ℕ) → Each (LinkOlder w.server.next_dial) (w.links l).down
  pub agents_older : (l : ℕ) → Each (λ (x : Dial). IsBelow w.server.next_dial x.random) (w.agents l).dials
  pub ins_older : (f : ℕ) → Each (StreamOlder w.server.next_dial) (w.streams f).up
  pub outs_older : (f : ℕ) → Each (StreamOlder w.server.next_dial) (w.streams f).down

-- ---- an agent
-- a dial that the agent makes is one of its link that has no connectID yet
pub record MakesDial (w : World) (link : ℕ) (random : ℤ) : Type 0 where
  pub dial : ℕ
  pub asked : random ≡ pos dial
  pub on : (w.dials dial).link ≡ link
  pub undrawn : (w.dials dial).cid ≡ None
  pub app : HasApp w dial

-- no connectID from a bound on is named on a link
abbrev pub CidOlder : ℕ → Packet → Type 0
CidOlder n (DialRsp [] connect_id random) = IsBelow n connect_id
CidOlder n (DialRsp (x ∷ xs) connect_id random) = Unit {0}
CidOlder n (Data connect_id error bytes) = IsBelow n connect_id
CidOlder n (CloseReq connect_id) = IsBelow n connect_id
CidOlder n (CloseRsp error connect_id) = IsBelow n connect_id
CidOlder n (DialReq protocol address random) = Unit {0}
CidOlder n (DialCls random) = Unit {0}
CidOlder n Drain = Unit {0}
CidOlder n (Other number) = Unit {0}

-- a request on a link is of a dial of this link that has no connectID yet
abbrev pub RequestFits : World → ℕ → Packet → Type 0
RequestFits w link (DialReq protocol address random) = MakesDial w link random
RequestFits w link (DialRsp error connect_id random) = Unit {0}
RequestFits w link (Data connect_id error bytes) = Unit {0}
RequestFits w link (CloseReq connect_id) = Unit {0}
RequestFits w link (CloseRsp error connect_id) = Unit {0}
RequestFits w link (DialCls random) = Unit {0}
RequestFits w link Drain = Unit {0}
RequestFits w link (Other number) = Unit {0}

abbrev pub one_more : Bool → ℕ → ℕ
one_more true n = suc n
one_more false n = n

-- a dial is asked for once: it stands in one request or is made once
abbrev pub asked_at : ℕ → List Packet → ℕ
asked_at d [] = 0
asked_at d (p ∷ ps) = one_more (is_request d p) (asked_at d ps)

abbrev pub made_at : ℕ → List Dial → ℕ
made_at d [] = 0
made_at d (x ∷ xs) = one_more (has_random d x) (made_at d xs)

pub record AgentKeys (w : World) : Type 0 where
  pub cid_once : (d e c : ℕ) → (w.dials d).link ≡ (w.dials e).link → (w.dials d).cid ≡ Some c → (w.dials e).cid ≡ Some c → d ≡ e
  pub cid_app : (d c : ℕ) → (w.dials d).cid ≡ Some c → HasApp w d
  pub replies : (l : ℕ) → Each (ReplyFits w l) (w.links l).up
  pub cids_older : (d c : ℕ) → (w.dials d).cid ≡ Some c → c < (w.agents (w.dials d).link).next_connect_id
  pub ups_older : (l : ℕ) → Each (CidOlder (w.agents l).next_connect_id) (w.links l).up
  pub downs_older : (l : ℕ) → Each (CidOlder (w.agents l).next_connect_id) (w.links l).down
  pub connections_rise : (l : ℕ) → IsRising (λ (x : Connection). x.connect_id) (w.agents l).connections
  pub connections_older : (l n : ℕ) → (w.agents l).next_connect_id ≤ n → first_where (is_connection n) (w.agents l).connections ≡ None
  pub unwritten : (d c : ℕ) (x : Connection) → (w.dials d).cid ≡ Some c → first_where (is_connection c) (w.agents (w.dials d).link).connections ≡ Some x → x.unwritten ≡ length (w.dials d).side.unwritten
  pub dials : (l : ℕ) → Each (λ (x : Dial). MakesDial w l x.random) (w.agents l).dials
  pub requests : (l : ℕ) → Each (RequestFits w l) (w.links l).down
  pub asked_once : (d : ℕ) → asked_at d (w.links (w.dials d).link).down + made_at d (w.agents (w.dials d).link).dials ≤ 1
  pub lost : (l : ℕ) → (w.agents l).lost ≡ true → ((w.agents l).dials ≡ []) × ((w.agents l).connections ≡ []) × ((w.links l).down ≡ [])

-- ---- a client
-- an app on its client's list: what it has come to besides its state
pub record ListedFits (w : World) (k : ℕ) (x : App) : Type 0 where
  pub unwritten : x.unwritten ≡ length (w.apps k).side.unwritten
  pub dial : x.state ≢ app.Dialling → (d : ℕ) × ((w.apps k).dial ≡ Some d) × (x.connect_id ≡ pos d)

-- of a client's app with this number
abbrev pub IsAppOf : World → ℕ → ℕ → ℕ → Type 0
IsAppOf w c n k = ((w.apps k).came ≡ true) × (is_of_client c (w.streams (w.apps k).stream) ≡ true) × ((w.apps k).number ≡ n)

-- over a CONNECT connection only its head and bytes come
abbrev pub OfConnection : Packet → Type 0
OfConnection (DialReq protocol address random) = Unit {0}
OfConnection (Data connect_id error bytes) = Unit {0}
OfConnection (DialRsp error connect_id random) = ⊥
OfConnection (CloseReq connect_id) = ⊥
OfConnection (CloseRsp error connect_id) = ⊥
OfConnection (DialCls random) = ⊥
OfConnection Drain = ⊥
OfConnection (Other number) = ⊥

-- an app of this stream asked with this random
abbrev pub AskedOn : World → ℕ → ℤ → Type 0
AskedOn w f random = (k : ℕ) × ((w.apps k).came ≡ true) × ((w.apps k).stream ≡ f) × (asks (w.streams f).connect (w.apps k).number random ≡ true)

-- an answer on its way to a client is for an app of its stream; a reply has as connectID the dial of the app that its random names, and of no other
abbrev pub AnswerFits : World → ℕ → Packet → Type 0
AnswerFits w f (DialRsp [] connect_id random) = AskedOn w f random × ((k : ℕ) → (w.apps k).came ≡ true → (w.apps k).stream ≡ f → is_drawn_number (w.apps k).dial connect_id ≡ is_number (w.apps k).number random)
AnswerFits w f (DialRsp (x ∷ xs) connect_id random) = AskedOn w f random
AnswerFits w f (DialReq protocol address random) = Unit {0}
AnswerFits w f (Data connect_id error bytes) = Unit {0}
AnswerFits w f (CloseReq connect_id) = Unit {0}
AnswerFits w f (CloseRsp error connect_id) = Unit {0}
AnswerFits w f (DialCls random) = Unit {0}
AnswerFits w f Drain = Unit {0}
AnswerFits w f (Other number) = Unit {0}

-- a request on a stream, or its cancel, is of an app of that stream
abbrev pub RequestOf : World → ℕ → Packet → Type 0
RequestOf w f (DialReq protocol address random) = AskedOn w f random
RequestOf w f (DialRsp error connect_id random) = Unit {0}
RequestOf w f (Data connect_id error bytes) = Unit {0}
RequestOf w f (CloseReq connect_id) = Unit {0}
RequestOf w f (CloseRsp error connect_id) = Unit {0}
RequestOf w f (DialCls random) = AskedOn w f random
RequestOf w f Drain = Unit {0}
RequestOf w f (Other number) = Unit {0}

pub record ClientKeys (w : World) : Type 0 where
  pub begun : (k : ℕ) → (w.apps k).came ≡ true → (w.streams (w.apps k).stream).begun ≡ true
  pub unfinished : (f : ℕ) → (w.streams f).connect ≡ false → (w.streams f).finished ≡ false
  pub alone : (f g c : ℕ) → is_of_client c (w.streams f) ≡ true → is_of_client c (w.streams g) ≡ true → (w.streams f).client ≡ true → (w.streams g).client ≡ true → f ≡ g
  pub apart : (j k c n : ℕ) → IsAppOf w c n j → IsAppOf w c n k → j ≡ k
  pub connect_one : (j k : ℕ) → (w.apps j).came ≡ true → (w.apps k).came ≡ true → (w.apps j).stream ≡ (w.apps k).stream → (w.streams (w.apps j).stream).connect ≡ true → j ≡ k
  pub connection : (k : ℕ) → (w.apps k).came ≡ true → (w.streams (w.apps k).stream).connect ≡ true → (w.streams (w.apps k).stream).app ≡ k
  pub connect_ins : (f : ℕ) → (w.streams f).connect ≡ true → Each OfConnection (w.streams f).up
  pub requests : (f : ℕ) → Each (RequestOf w f) (w.streams f).up
  pub answers : (f : ℕ) → (w.streams f).connect ≡ false → Each (AnswerFits w f) (w.streams f).down
  pub known : (c n : ℕ) (x : App) → first_where (is_app n) (w.clients c).apps ≡ Some x → (k : ℕ) × IsAppOf w c n k
  pub apps_rise : (c : ℕ) → IsRising (λ (x : App). x.number) (w.clients c).apps
  pub tops : (k : ℕ) → (w.apps k).came ≡ true → (w.streams (w.apps k).stream).connect ≡ false → (w.apps k).number ≤ (w.clients (w.streams (w.apps k).stream).owner).top_app
  pub listed : (k : ℕ) (x : App) → (w.apps k).came ≡ true → (w.streams (w.apps k).stream).connect ≡ false
      → first_where (is_app (w.apps k).number) (w.clients (w.streams (w.apps k).stream).owner).apps ≡ Some x → ListedFits w k x
  pub left : (k : ℕ) → (w.apps k).came ≡ true → (w.streams (w.apps k).stream).connect ≡ false
      → first_where (is_app (w.apps k).number) (w.clients (w.streams (w.apps k).stream).owner).apps ≡ None → has_left (w.apps k).phase ≡ true
  pub dials_once : (j k d : ℕ) → (w.apps j).came ≡ true → (w.apps k).came ≡ true → (w.apps j).dial ≡ Some d → (w.apps k).dial ≡ Some d → j ≡ k

-- ---- the order of each tunnel's packets in its four lists
pub record InOrder (w : World) (k : ℕ) : Type 0 where
  pub inward : in_ordered (stream_in_item (w.streams (w.apps k).stream).connect (w.apps k).number (w.apps k).dial) (w.streams (w.apps k).stream).up ≡ true
  pub outward : out_ordered (stream_out_item (w.streams (w.apps k).stream).connect (w.apps k).number (w.apps k).dial) (w.streams (w.apps k).stream).down ≡ true
  pub up : (d : ℕ) → (w.apps k).dial ≡ Some d → up_ordered (up_item d (w.dials d).cid) (w.links (w.dials d).link).up ≡ true
  pub down : (d : ℕ) → (w.apps k).dial ≡ Some d → down_ordered (down_item (w.dials d).cid) (w.links (w.dials d).link).down ≡ true

-- all that a lift asks for
pub record Keys (w : World) : Type 0 where
  pub server : ServerKeys w
  pub agents : AgentKeys w
  pub clients : ClientKeys w
  pub ordered : (k : ℕ) → (w.apps k).came ≡ true → InOrder w k
  pub facts : (k : ℕ) → (w.apps k).came ≡ true → Facts (tunnel w k)
