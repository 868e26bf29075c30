-- A packet without where its texts and bytes lie.
use Rattle.kn_packet.specs.declared.packet.Packet.{Packet}
use Rattle.kn_packet.specs.declared.packet.Packet.TheVariants as owned
use Rattle.kn_packet.specs.declared.packet_ref.PacketRef.{PacketRef}
use Rattle.kn_packet.specs.declared.packet_ref.PacketRef.TheVariants.{DialReq, DialRsp, CloseReq, CloseRsp, Data, DialCls, Drain, Other}

abbrev pub message : PacketRef → Packet
message (DialReq protocol address random) = owned.DialReq protocol.now address.now random
message (DialRsp error connect_id random) = owned.DialRsp error.now connect_id random
message (CloseReq connect_id) = owned.CloseReq connect_id
message (CloseRsp error connect_id) = owned.CloseRsp error.now connect_id
message (Data connect_id error bytes) = owned.Data connect_id error.now bytes.now
message (DialCls random) = owned.DialCls random
message Drain = owned.Drain
message (Other number) = owned.Other number
