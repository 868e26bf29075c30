-- What the functions that read a varint or a field at the front of some bytes answer. Laws lead from here
-- to the grammar and back.
use Rattle.std.specs.Prelude.{ℕ, zero, suc, ◌+◌, ◌-◌, ◌*◌, ◌/◌, ◌%◌, ◌==◌, List, [], ◌∷◌, length, take, drop, nat_lt, if◌then◌else◌}
use Rattle.kn_packet.specs.declared.fault.PacketReason.{PacketReason}
use Rattle.kn_packet.specs.declared.fault.PacketReason.TheVariants.{Cut, Varint, Wire, FieldZero, Length, NotUtf8}
use Rattle.kn_packet.specs.declared.varint.VarintFault.{VarintFault}
use Rattle.kn_packet.specs.declared.varint.VarintFault.TheVariants.{Unfinished, TooLong}
use Rattle.kn_packet.specs.Fields.{Content, varint, fixed64, delimited, fixed32, Field}

pub data Scan : Type 0 where
  whole : ℕ → List ℕ → Scan
  unfinished : Scan
  too_long : Scan

-- a byte that has the top bit set, and what stands behind it
abbrev pub continued : ℕ → Scan → Scan
continued byte (whole high rest) = whole (byte - 128 + 128 * high) rest
continued byte unfinished = unfinished
continued byte too_long = too_long

-- the varint at the front, which may have so many bytes after its first
unfoldable pub scanned : ℕ → List ℕ → Scan
scanned more [] = unfinished
scanned zero (byte ∷ rest) = if nat_lt 1 byte then too_long else whole byte rest
scanned (suc more) (byte ∷ rest) = if nat_lt byte 128 then whole byte rest else continued byte (scanned more rest)

abbrev pub scan_of_fault : VarintFault → Scan
scan_of_fault Unfinished = unfinished
scan_of_fault TooLong = too_long

-- a field's content, or a field, and the bytes after it; or why there is none
pub data Found (A : Type 0) : Type 0 where
  found : A → List ℕ → Found A
  refused : PacketReason → Found A

abbrev pub reason_of_fault : VarintFault → PacketReason
reason_of_fault Unfinished = Cut
reason_of_fault TooLong = Varint

-- a varint's value
abbrev pub value_of : Scan → Found Content
value_of (whole n rest) = found (varint n) rest
value_of unfinished = refused Cut
value_of too_long = refused Varint

-- bytes behind their length
abbrev pub delimited_of : Scan → Found Content
delimited_of (whole n rest) = if nat_lt (length rest) n then refused Cut else found (delimited (take n rest)) (drop n rest)
delimited_of unfinished = refused Cut
delimited_of too_long = refused Varint

-- so many bytes
abbrev pub fixed_of : ℕ → Content → List ℕ → Found Content
fixed_of size content bytes = if nat_lt (length bytes) size then refused Cut else found content (drop size bytes)

-- the content behind a tag of this wire type
unfoldable pub content_at : ℕ → List ℕ → Found Content
content_at wire bytes =
    if wire == 0 then value_of (scanned 9 bytes)
    else if wire == 1 then fixed_of 8 fixed64 bytes
    else if wire == 2 then delimited_of (scanned 9 bytes)
    else if wire == 5 then fixed_of 4 fixed32 bytes
    else refused Wire

-- what comes before the number 0
abbrev pub reason_at_zero : PacketReason → PacketReason
reason_at_zero Varint = Varint
reason_at_zero Wire = Wire
reason_at_zero Cut = FieldZero
reason_at_zero FieldZero = FieldZero
reason_at_zero Length = FieldZero
reason_at_zero NotUtf8 = FieldZero

abbrev pub field_of_zero : Found Content → Found Field
field_of_zero (found content rest) = refused FieldZero
field_of_zero (refused reason) = refused (reason_at_zero reason)

abbrev pub field_of_number : ℕ → Found Content → Found Field
field_of_number number (found content rest) = found (record { number = number; content = content }) rest
field_of_number number (refused reason) = refused reason

abbrev pub field_behind : ℕ → Found Content → Found Field
field_behind number content = if number == 0 then field_of_zero content else field_of_number number content

abbrev pub field_of_scan : Scan → Found Field
field_of_scan (whole tag rest) = field_behind (tag / 8) (content_at (tag % 8) rest)
field_of_scan unfinished = refused Cut
field_of_scan too_long = refused Varint

-- the field at the front
unfoldable pub field_at : List ℕ → Found Field
field_at bytes = field_of_scan (scanned 9 bytes)
