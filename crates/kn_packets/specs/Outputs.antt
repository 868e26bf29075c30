-- What an end gives out, list by list. What goes to an end that lost the list is dropped.
use Rattle.std.specs.Prelude.{ℕ, ℤ, pos, negsuc, ◌==◌, ◌&&◌, ◌||◌, ◌++◌, Bool, true, false, List, [], ◌∷◌, Option, None, Some, if◌then◌else◌}
use Rattle.kn_packet.specs.declared.packet.Packet.{Packet}
use Rattle.kn_packet.specs.declared.packet.Packet.TheVariants.{CloseReq, CloseRsp, Data, DialCls, DialReq, DialRsp, Drain, Other}
use Rattle.kn_server_core.specs.declared.event.ServerOut.{ServerOut}
use Rattle.kn_server_core.specs.declared.event.ServerOut.TheVariants.{CutLink, Made, ToFront, ToLink}
use Rattle.kn_edge_core.specs.declared.agent_event.AgentOut.{AgentOut}
use Rattle.kn_edge_core.specs.declared.agent_event.AgentOut.TheVariants as agent
use Rattle.kn_edge_core.specs.declared.client_event.ClientOut.{ClientOut}
use Rattle.kn_edge_core.specs.declared.client_event.ClientOut.TheVariants as client
use Rattle.kn_tunnel.specs.Kinds.{opened_phase, refused_phase}
use Rattle.kn_tunnel.specs.Tunnel.{Phase}
use Rattle.kn_words.specs.Numbers.{is_number}

-- packets behind a list, one after another, if its receiver has it
abbrev pub queued : Bool → List Packet → List Packet → List Packet
queued there ps [] = ps
queued there ps (q ∷ qs) = queued there (if there then ps ++ q ∷ [] else ps) qs

-- ---- the server's
-- the packets for a link, for a front
abbrev pub more_if : {A : Type 0} → Bool → A → List A → List A
more_if true x xs = x ∷ xs
more_if false x xs = xs

abbrev pub for_link : ℕ → List ServerOut → List Packet
for_link l [] = []
for_link l (ToLink link p ∷ outs) = more_if (l == link) p (for_link l outs)
for_link l (ToFront front p ∷ outs) = for_link l outs
for_link l (CutLink link ∷ outs) = for_link l outs
for_link l (Made dial link front ∷ outs) = for_link l outs

abbrev pub for_front : ℕ → List ServerOut → List Packet
for_front f [] = []
for_front f (ToFront front p ∷ outs) = more_if (f == front) p (for_front f outs)
for_front f (ToLink link p ∷ outs) = for_front f outs
for_front f (CutLink link ∷ outs) = for_front f outs
for_front f (Made dial link front ∷ outs) = for_front f outs

abbrev pub is_cut : ℕ → List ServerOut → Bool
is_cut l [] = false
is_cut l (CutLink link ∷ outs) = (l == link) || is_cut l outs
is_cut l (ToLink link p ∷ outs) = is_cut l outs
is_cut l (ToFront front p ∷ outs) = is_cut l outs
is_cut l (Made dial link front ∷ outs) = is_cut l outs

-- a request is an app's own: the only one of its connection, or the one with its number
abbrev pub asks : Bool → ℕ → ℤ → Bool
asks true number random = true
asks false number random = is_number number random

-- a dial that was made for an app on this stream, if the request was its own
abbrev pub dial_made : ℕ → Bool → List ServerOut → Option ℕ → Option ℕ
dial_made stream own [] old = old
dial_made stream own (Made dial link front ∷ outs) old = dial_made stream own outs (if (stream == front) && own then Some dial else old)
dial_made stream own (ToLink link p ∷ outs) old = dial_made stream own outs old
dial_made stream own (ToFront front p ∷ outs) old = dial_made stream own outs old
dial_made stream own (CutLink link ∷ outs) old = dial_made stream own outs old

-- the answer to a CONNECT request is its head: a refusal, or the reply
abbrev pub answered : Packet → Phase → Phase
answered (DialRsp [] connect_id random) phase = opened_phase phase
answered (DialRsp (x ∷ xs) connect_id random) phase = refused_phase phase
answered (DialReq protocol address random) phase = phase
answered (CloseReq connect_id) phase = phase
answered (CloseRsp error connect_id) phase = phase
answered (Data connect_id error bytes) phase = phase
answered (DialCls random) phase = phase
answered Drain phase = phase
answered (Other number) phase = phase

abbrev pub all_answered : Bool → List Packet → Phase → Phase
all_answered connect [] phase = phase
all_answered connect (p ∷ ps) phase = all_answered connect ps (if connect then answered p phase else phase)

-- a refusal or a close finishes it
abbrev pub finishes : Packet → Bool
finishes (DialRsp [] connect_id random) = false
finishes (DialRsp (x ∷ xs) connect_id random) = true
finishes (CloseRsp error connect_id) = true
finishes (DialReq protocol address random) = false
finishes (CloseReq connect_id) = false
finishes (Data connect_id error bytes) = false
finishes (DialCls random) = false
finishes Drain = false
finishes (Other number) = false

abbrev pub all_finish : Bool → List Packet → Bool → Bool
all_finish connect [] finished = finished
all_finish connect (p ∷ ps) finished = all_finish connect ps (finished || (finishes p && connect))

-- ---- an agent's
abbrev pub from_agent : List AgentOut → List Packet
from_agent [] = []
from_agent (agent.ToServer p ∷ outs) = p ∷ from_agent outs
from_agent (agent.Dial ticket address ∷ outs) = from_agent outs
from_agent (agent.Write connect_id bytes ∷ outs) = from_agent outs
from_agent (agent.CloseDest connect_id ∷ outs) = from_agent outs
from_agent (agent.DropDial ticket ∷ outs) = from_agent outs

-- a reply without an error tells the connectID that was drawn for its dial
abbrev pub cid_told : ℕ → Packet → Option ℕ → Option ℕ
cid_told d (DialRsp [] (pos c) random) old = if is_number d random then Some c else old
cid_told d (DialRsp [] (negsuc c) random) old = old
cid_told d (DialRsp (x ∷ xs) connect_id random) old = old
cid_told d (DialReq protocol address random) old = old
cid_told d (CloseReq connect_id) old = old
cid_told d (CloseRsp error connect_id) old = old
cid_told d (Data connect_id error bytes) old = old
cid_told d (DialCls random) old = old
cid_told d Drain old = old
cid_told d (Other number) old = old

abbrev pub cid_drawn : ℕ → List Packet → Option ℕ → Option ℕ
cid_drawn d [] old = old
cid_drawn d (p ∷ ps) old = cid_drawn d ps (cid_told d p old)

-- the bytes to be written to the destination of a connectID, to the app of a number
abbrev pub is_cid : Option ℕ → ℤ → Bool
is_cid None connect_id = false
is_cid (Some c) connect_id = is_number c connect_id

abbrev pub for_dest : Option ℕ → List AgentOut → List ℕ → List ℕ
for_dest cid [] old = old
for_dest cid (agent.Write connect_id bytes ∷ outs) old = for_dest cid outs (if is_cid cid connect_id then old ++ bytes else old)
for_dest cid (agent.ToServer p ∷ outs) old = for_dest cid outs old
for_dest cid (agent.Dial ticket address ∷ outs) old = for_dest cid outs old
for_dest cid (agent.CloseDest connect_id ∷ outs) old = for_dest cid outs old
for_dest cid (agent.DropDial ticket ∷ outs) old = for_dest cid outs old

-- ---- a client's
abbrev pub from_client : List ClientOut → List Packet
from_client [] = []
from_client (client.ToServer p ∷ outs) = p ∷ from_client outs
from_client (client.ToApp app bytes ∷ outs) = from_client outs
from_client (client.EndApp app error ∷ outs) = from_client outs

abbrev pub for_app : ℕ → List ClientOut → List ℕ → List ℕ
for_app n [] old = old
for_app n (client.ToApp app bytes ∷ outs) old = for_app n outs (if n == app then old ++ bytes else old)
for_app n (client.ToServer p ∷ outs) old = for_app n outs old
for_app n (client.EndApp app error ∷ outs) old = for_app n outs old
