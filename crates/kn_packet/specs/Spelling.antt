-- The canonical spelling of a packet: fields by rising number, shortest varints, a field of a payload left
-- out where it is 0 or empty, and the payload always written.
use Rattle.std.specs.Prelude.{ℕ, zero, suc, ◌+◌, ◌*◌, ◌/◌, ◌%◌, ◌^◌, ◌<◌, ◌==◌, nat_lt, List, [], ◌∷◌, ◌++◌, length, Option, Some, None, if◌then◌else◌, ℤ, FitsSigned, IsUtf8}
use Rattle.std.specs.Int.{w64, cast_unsigned}
use Rattle.kn_packet.specs.declared.packet.Packet.{Packet}
use Rattle.kn_packet.specs.declared.packet.Packet.TheVariants.{DialReq, DialRsp, CloseReq, CloseRsp, Data, DialCls, Drain, Other}

-- the shortest varint, with at most so many bytes after its first
unfoldable pub shortest : ℕ → ℕ → List ℕ
shortest zero n = n ∷ []
shortest (suc more) n = if nat_lt n 128 then n ∷ [] else (n % 128 + 128) ∷ shortest more (n / 128)

abbrev pub varint_of : ℕ → List ℕ
varint_of n = shortest 9 n

abbrev pub tag : ℕ → ℕ → List ℕ
tag number wire = varint_of (number * 8 + wire)

abbrev pub number_field : ℕ → ℕ → List ℕ
number_field number n = if n == 0 then [] else tag number 0 ++ varint_of n

-- a negative number is spelled as itself plus 2 ^ 64
abbrev pub int64_field : ℕ → ℤ → List ℕ
int64_field number z = number_field number (cast_unsigned w64 z)

abbrev pub message_field : ℕ → List ℕ → List ℕ
message_field number body = tag number 2 ++ varint_of (length body) ++ body

-- a text or bytes
abbrev pub bytes_field : ℕ → List ℕ → List ℕ
bytes_field number body = if length body == 0 then [] else message_field number body

abbrev pub type_number : Packet → ℕ
type_number (DialReq protocol address random) = 0
type_number (DialRsp error connect_id random) = 1
type_number (CloseReq connect_id) = 2
type_number (CloseRsp error connect_id) = 3
type_number (Data connect_id error bytes) = 4
type_number (DialCls random) = 5
type_number Drain = 6
type_number (Other number) = number

abbrev pub body_of : Packet → List ℕ
body_of (DialReq protocol address random) =
    bytes_field 1 protocol ++ bytes_field 2 address ++ int64_field 3 random
body_of (DialRsp error connect_id random) =
    bytes_field 1 error ++ int64_field 2 connect_id ++ int64_field 3 random
body_of (CloseReq connect_id) = int64_field 1 connect_id
body_of (CloseRsp error connect_id) = bytes_field 1 error ++ int64_field 2 connect_id
body_of (Data connect_id error bytes) =
    int64_field 1 connect_id ++ bytes_field 2 error ++ bytes_field 3 bytes
body_of (DialCls random) = int64_field 1 random
body_of Drain = []
body_of (Other number) = []

-- the number of the payload's field
abbrev pub payload_number : Packet → Option ℕ
payload_number (DialReq protocol address random) = Some 2
payload_number (DialRsp error connect_id random) = Some 3
payload_number (CloseReq connect_id) = Some 5
payload_number (CloseRsp error connect_id) = Some 6
payload_number (Data connect_id error bytes) = Some 4
payload_number (DialCls random) = Some 7
payload_number Drain = Some 8
payload_number (Other number) = None

abbrev pub payload_field : Option ℕ → List ℕ → List ℕ
payload_field None body = []
payload_field (Some number) body = message_field number body

abbrev pub payload_of : Packet → List ℕ
payload_of packet = payload_field (payload_number packet) (body_of packet)

abbrev pub spelling : Packet → List ℕ
spelling packet = number_field 1 (type_number packet) ++ payload_of packet

-- the texts and bytes together are under 2 ^ 32 bytes, and an unknown type is none that has a name
abbrev pub HasSpelling : Packet → Type 0
HasSpelling (DialReq protocol address random) = length protocol + length address < 2 ^ 32
HasSpelling (DialRsp error connect_id random) = length error < 2 ^ 32
HasSpelling (CloseReq connect_id) = Unit {0}
HasSpelling (CloseRsp error connect_id) = length error < 2 ^ 32
HasSpelling (Data connect_id error bytes) = length error + length bytes < 2 ^ 32
HasSpelling (DialCls random) = Unit {0}
HasSpelling Drain = Unit {0}
HasSpelling (Other number) = 6 < number

-- the numbers are of their types, and the texts are texts
abbrev pub IsPacket : Packet → Type 0
IsPacket (DialReq protocol address random) = IsUtf8 protocol × IsUtf8 address × FitsSigned w64 random
IsPacket (DialRsp error connect_id random) = IsUtf8 error × FitsSigned w64 connect_id × FitsSigned w64 random
IsPacket (CloseReq connect_id) = FitsSigned w64 connect_id
IsPacket (CloseRsp error connect_id) = IsUtf8 error × FitsSigned w64 connect_id
IsPacket (Data connect_id error bytes) = FitsSigned w64 connect_id × IsUtf8 error
IsPacket (DialCls random) = FitsSigned w64 random
IsPacket Drain = Unit {0}
IsPacket (Other number) = number < 2 ^ 32
