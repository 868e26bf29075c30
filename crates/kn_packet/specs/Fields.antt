-- Fields (Protocol Buffers encoding, "Message Structure"): a tag, which is a varint of the field's number
-- and its wire type, and a content.
use Rattle.std.specs.Prelude.{◌≡◌, ℕ, ◌<◌, ◌+◌, ◌*◌, ◌⊎◌, List, ◌++◌, length}
use Rattle.kn_packet.specs.declared.fault.PacketReason.{PacketReason}
use Rattle.kn_packet.specs.declared.fault.PacketReason.TheVariants.{Varint, Wire, FieldZero, Cut}
use Rattle.kn_packet.specs.Varints.{IsVarint, IsUnfinished, IsTooLong}

-- What a field holds: a varint, eight bytes, a list of bytes behind its length, or four bytes. No field
-- of these packets is of eight or of four bytes, so their values are left out.
pub data Content : Type 0 where
  varint : ℕ → Content
  fixed64 : Content
  delimited : List ℕ → Content
  fixed32 : Content

pub record Field : Type 0 where
  pub number : ℕ
  pub content : Content

-- the wire types
abbrev pub wire_type : Content → ℕ
wire_type (varint n) = 0
wire_type fixed64 = 1
wire_type (delimited body) = 2
wire_type fixed32 = 5

-- the bytes behind the tag
abbrev pub IsContent : List ℕ → Content → Type 0
IsContent spelled (varint n) = IsVarint spelled n
IsContent spelled fixed64 = length spelled ≡ 8
IsContent spelled (delimited body) = (head : List ℕ) × IsVarint head (length body) × (spelled ≡ head ++ body)
IsContent spelled fixed32 = length spelled ≡ 4

-- a tag stands at the front of these bytes, and the rest follows
pub record BeginsWithTag (spelled : List ℕ) (number wire : ℕ) (rest : List ℕ) : Type 0 where
  pub tag : List ℕ
  pub joined : spelled ≡ tag ++ rest
  pub is_varint : IsVarint tag (number * 8 + wire)
  pub in_range : wire < 8

-- the bytes spell the field
pub record IsField (spelled : List ℕ) (field : Field) : Type 0 where
  pub rest : List ℕ
  pub tagged : BeginsWithTag spelled field.number (wire_type field.content) rest
  pub numbered : 0 < field.number
  pub content : IsContent rest field.content

-- the varint behind a tag of this wire type, which is a value or a length, is too long
abbrev pub IsLongBehind : ℕ → List ℕ → Type 0
IsLongBehind wire rest = ((wire ≡ 0) ⊎ (wire ≡ 2)) × IsTooLong rest

-- wire types that proto3 has no more, or never had
abbrev pub IsBadWire : ℕ → Type 0
IsBadWire wire = (wire ≡ 3) ⊎ (wire ≡ 4) ⊎ (wire ≡ 6) ⊎ (wire ≡ 7)

-- the bytes end inside the content behind a tag of this wire type
pub data EndsInside (wire : ℕ) (rest : List ℕ) : Type 0 where
  in_value : wire ≡ 0 → IsUnfinished rest → EndsInside wire rest
  in_fixed64 : wire ≡ 1 → length rest < 8 → EndsInside wire rest
  in_length : wire ≡ 2 → IsUnfinished rest → EndsInside wire rest
  in_bytes : wire ≡ 2 → (head body : List ℕ) (n : ℕ) → rest ≡ head ++ body
      → IsVarint head n → length body < n → EndsInside wire rest
  in_fixed32 : wire ≡ 5 → length rest < 4 → EndsInside wire rest

-- Why no field stands at the front of these bytes, which are not empty: the first cause that holds, in
-- this order. A tag that is not whole says nothing but that it is cut or too long.
pub data FieldFault (spelled : List ℕ) : PacketReason → Type 0 where
  long_tag : IsTooLong spelled → FieldFault spelled Varint
  long_varint : (number wire : ℕ) (rest : List ℕ) → BeginsWithTag spelled number wire rest
      → IsLongBehind wire rest → FieldFault spelled Varint
  bad_wire : (number wire : ℕ) (rest : List ℕ) → BeginsWithTag spelled number wire rest
      → IsBadWire wire → FieldFault spelled Wire
  field_zero : (wire : ℕ) (rest : List ℕ) → BeginsWithTag spelled 0 wire rest
      → ¬ IsLongBehind wire rest → ¬ IsBadWire wire → FieldFault spelled FieldZero
  cut_tag : 0 < length spelled → IsUnfinished spelled → FieldFault spelled Cut
  cut_content : (number wire : ℕ) (rest : List ℕ) → BeginsWithTag spelled number wire rest
      → 0 < number → EndsInside wire rest → FieldFault spelled Cut
