-- The line of text that stands for a packet.
use Rattle.std.specs.Prelude.{ℕ, ◌+◌, ◌/◌, ◌%◌, ◌==◌, nat_lt, Bool, ◌||◌, List, [], ◌∷◌, ◌++◌, if◌then◌else◌, codes, ℤ}
use Rattle.std.specs.List.{flat_map}
use Rattle.std.specs.Fmt.{decimal, signed_decimal}
use Rattle.kn_packet.specs.declared.packet.Packet.{Packet}
use Rattle.kn_packet.specs.declared.packet.Packet.TheVariants.{DialReq, DialRsp, CloseReq, CloseRsp, Data, DialCls, Drain, Other}
use Rattle.kn_packet.specs.declared.fault.PacketReason.{PacketReason}
use Rattle.kn_packet.specs.declared.fault.PacketReason.TheVariants as reasons

-- a hexadecimal digit in lower case
abbrev pub hex_digit : ℕ → ℕ
hex_digit d = if nat_lt d 10 then 48 + d else 87 + d

abbrev pub hex_pair : ℕ → List ℕ
hex_pair byte = hex_digit (byte / 16) ∷ hex_digit (byte % 16) ∷ []

-- a byte that is not printable ASCII, and a backslash
abbrev pub is_escaped : ℕ → Bool
is_escaped byte = nat_lt byte 32 || nat_lt 126 byte || byte == 92

-- `\x` and two digits in place of such a byte
abbrev pub escape : ℕ → List ℕ
escape byte = if is_escaped byte then 92 ∷ 120 ∷ hex_pair byte else byte ∷ []

unfoldable pub escaped : List ℕ → List ℕ
escaped text = flat_map escape text

unfoldable pub hex_of : List ℕ → List ℕ
hex_of bytes = flat_map hex_pair bytes

-- a label, and a text, a number or bytes behind it
unfoldable pub labelled_text : List ℕ → List ℕ → List ℕ
labelled_text label text = label ++ escaped text

unfoldable pub labelled_number : List ℕ → ℤ → List ℕ
labelled_number label n = label ++ signed_decimal n

unfoldable pub labelled_hex : List ℕ → List ℕ → List ℕ
labelled_hex label bytes = label ++ hex_of bytes

unfoldable pub labelled_type : List ℕ → ℕ → List ℕ
labelled_type label n = label ++ decimal n

abbrev pub line_of : Packet → List ℕ
line_of (DialReq protocol address random) =
    labelled_text (codes "DIAL_REQ protocol=") protocol
    ++ labelled_text (codes " address=") address
    ++ labelled_number (codes " random=") random
line_of (DialRsp error connect_id random) =
    labelled_text (codes "DIAL_RSP error=") error
    ++ labelled_number (codes " connectID=") connect_id
    ++ labelled_number (codes " random=") random
line_of (CloseReq connect_id) = labelled_number (codes "CLOSE_REQ connectID=") connect_id
line_of (CloseRsp error connect_id) =
    labelled_text (codes "CLOSE_RSP error=") error
    ++ labelled_number (codes " connectID=") connect_id
line_of (Data connect_id error bytes) =
    labelled_number (codes "DATA connectID=") connect_id
    ++ labelled_text (codes " error=") error
    ++ labelled_hex (codes " data=") bytes
line_of (DialCls random) = labelled_number (codes "DIAL_CLS random=") random
line_of Drain = codes "DRAIN"
line_of (Other number) = labelled_type (codes "OTHER type=") number

-- the text of a reason
abbrev pub text_of : PacketReason → List ℕ
text_of reasons.Cut = codes "cut"
text_of reasons.Varint = codes "bad varint"
text_of reasons.Wire = codes "bad wire type"
text_of reasons.FieldZero = codes "field zero"
text_of reasons.Length = codes "bad length"
text_of reasons.NotUtf8 = codes "not utf-8"
