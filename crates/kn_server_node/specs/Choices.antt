-- The choices of links that the server's core makes, and whose dials they are for.
use Rattle.std.specs.Prelude.{ℕ, ℤ, List, [], ◌∷◌, ◌++◌, Option, Some, None}
use Rattle.kn_packet.specs.declared.packet.Packet.{Packet}
use Rattle.kn_packet.specs.declared.packet.Packet.TheVariants.{DialReq, DialRsp, CloseReq, CloseRsp, Data, DialCls, Drain, Other}
use Rattle.kn_server_core.specs.declared.choice.Choice.{Choice}
use Rattle.kn_server_core.specs.declared.event.ServerEvent.{ServerEvent}
use Rattle.kn_server_core.specs.declared.event.ServerEvent.TheVariants.{LinkUp, LinkPacket, LinkLost, FrontUp, FrontPacket, FrontLost}
use Rattle.kn_server_core.specs.Choices.{choice_at}
use Rattle.kn_rising.specs.Members.{at}
use Rattle.kn_server_node.specs.declared.chosen.Chosen.{Chosen}
use Rattle.kn_server_node.specs.declared.place.Place.{Place}
use Rattle.kn_server_node.specs.declared.node.Node.{Node}

abbrev pub conn_of : Option Place → Option ℕ
conn_of None = None
conn_of (Some p) = Some p.conn

abbrev pub asked_by : Option ℕ → ℕ → ℤ → Option Choice → Option Chosen
asked_by conn front random None = None
asked_by conn front random (Some choice) = Some (record { conn = conn; front = front; random = random; choice = choice })

-- a request of a front comes to what the core chooses for it; no other packet comes to a choice
abbrev pub chosen_for : Node → ℕ → Packet → Option Chosen
chosen_for node front (DialReq protocol address random) = asked_by (conn_of (at node.fronts front)) front random (choice_at node.core (FrontPacket front (DialReq protocol address random)))
chosen_for node front (DialRsp error connect_id random) = None
chosen_for node front (CloseReq connect_id) = None
chosen_for node front (CloseRsp error connect_id) = None
chosen_for node front (Data connect_id error bytes) = None
chosen_for node front (DialCls random) = None
chosen_for node front Drain = None
chosen_for node front (Other number) = None

-- nor does another event
abbrev pub chosen_at : Node → ServerEvent → Option Chosen
chosen_at node (FrontPacket front packet) = chosen_for node front packet
chosen_at node (LinkUp link identifiers) = None
chosen_at node (LinkPacket link packet) = None
chosen_at node (LinkLost link) = None
chosen_at node (FrontUp front) = None
chosen_at node (FrontLost front) = None

-- a choice is behind those that were made before it
abbrev pub noted : Option Chosen → List Chosen → List Chosen
noted None choices = choices
noted (Some chosen) choices = choices ++ chosen ∷ []
