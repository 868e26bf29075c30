-- Lists in which a number that is not drawn yet stands nowhere: all that packets name is below it.
use Rattle.std.specs.Prelude.{◌<◌, ℕ, ℤ, pos, negsuc, List}
use Rattle.std.specs.List.{AllByRecursion}
use Rattle.kn_packet.specs.declared.packet.Packet.{Packet}
use Rattle.kn_packet.specs.declared.packet.Packet.TheVariants.{CloseReq, CloseRsp, Data, DialCls, DialReq, DialRsp, Drain, Other}

abbrev pub IsBelow : ℕ → ℤ → Type 0
IsBelow next (pos number) = number < next
IsBelow next (negsuc number) = Unit {0}

-- the packet's connectID, if it has one
abbrev pub ConnectBelow : ℕ → Packet → Type 0
ConnectBelow next (DialRsp error connect_id random) = IsBelow next connect_id
ConnectBelow next (CloseReq connect_id) = IsBelow next connect_id
ConnectBelow next (CloseRsp error connect_id) = IsBelow next connect_id
ConnectBelow next (Data connect_id error bytes) = IsBelow next connect_id
ConnectBelow next (DialReq protocol address random) = Unit {0}
ConnectBelow next (DialCls random) = Unit {0}
ConnectBelow next Drain = Unit {0}
ConnectBelow next (Other number) = Unit {0}

-- the packet's random, if it has one
abbrev pub RandomBelow : ℕ → Packet → Type 0
RandomBelow next (DialReq protocol address random) = IsBelow next random
RandomBelow next (DialRsp error connect_id random) = IsBelow next random
RandomBelow next (DialCls random) = IsBelow next random
RandomBelow next (CloseReq connect_id) = Unit {0}
RandomBelow next (CloseRsp error connect_id) = Unit {0}
RandomBelow next (Data connect_id error bytes) = Unit {0}
RandomBelow next Drain = Unit {0}
RandomBelow next (Other number) = Unit {0}

abbrev pub ConnectsBelow : ℕ → List Packet → Type 0
ConnectsBelow next ps = AllByRecursion (ConnectBelow next) ps

abbrev pub RandomsBelow : ℕ → List Packet → Type 0
RandomsBelow next ps = AllByRecursion (RandomBelow next) ps
