-- The first fault of bytes that are no packet: where it is, and what it is.
use Rattle.std.specs.Prelude.{◌≡◌, ℕ, List, [], ◌++◌, length, Some}
use Rattle.kn_packet.specs.declared.fault.PacketReason.{PacketReason}
use Rattle.kn_packet.specs.declared.fault.PacketReason.TheVariants.{Cut, Varint, Wire, FieldZero, Length, NotUtf8}
use Rattle.kn_packet.specs.declared.fault.PacketFault.{PacketFault}
use Rattle.kn_packet.specs.declared.payload.Payload.{Payload}
use Rattle.kn_packet.specs.Fields.{Field, IsField, FieldFault}
use Rattle.kn_packet.specs.Reading.{Joins, entry_in, IsSound, IsEntry, IsPart, payload_in}

-- The bytes are some things that are spelled, and then others at whose front none is. before are the
-- bytes up to the fault.
pub record FirstFault {A : Type 0} (Spells : List ℕ → A → Type 0)
    (Faulty : List ℕ → List ℕ → PacketReason → Type 0)
    (bytes before : List ℕ) (reason : PacketReason) : Type 0 where
  pub things : List A
  pub front : List ℕ
  pub rest : List ℕ
  pub inner : List ℕ
  pub joined : Joins Spells front things
  pub bytes-is : bytes ≡ front ++ rest
  pub faulty : Faulty rest inner reason
  pub before-is : before ≡ front ++ inner

-- a payload whose bytes end inside a field has a wrong length
abbrev pub reason_in_payload : PacketReason → PacketReason
reason_in_payload Cut = Length
reason_in_payload Varint = Varint
reason_in_payload Wire = Wire
reason_in_payload FieldZero = FieldZero
reason_in_payload Length = Length
reason_in_payload NotUtf8 = NotUtf8

-- why no field of the payload stands at the front of the bytes
pub data EntryFault (payload : Payload) (bytes before : List ℕ) (reason : PacketReason) : Type 0 where
  bad_entry : (cause : PacketReason) → FieldFault bytes cause
      → reason ≡ reason_in_payload cause → before ≡ [] → EntryFault payload bytes before reason
  not_utf8 : (spelled rest : List ℕ) (field : Field) → bytes ≡ spelled ++ rest
      → IsField spelled field → ¬ IsSound (entry_in payload field)
      → reason ≡ NotUtf8 → before ≡ [] → EntryFault payload bytes before reason

-- Why no field of a packet stands at the front of the bytes. A payload's body is looked at where its
-- field stands.
pub data PartFault (bytes before : List ℕ) (reason : PacketReason) : Type 0 where
  bad_part : FieldFault bytes reason → before ≡ [] → PartFault bytes before reason
  in_payload : (head body rest inner : List ℕ) (field : Field) (payload : Payload)
      → bytes ≡ (head ++ body) ++ rest → IsField (head ++ body) field
      → payload_in field ≡ Some (payload, body)
      → FirstFault (IsEntry payload) (EntryFault payload) body inner reason
      → before ≡ head ++ inner → PartFault bytes before reason

-- the bytes have this first fault
pub record HasFault (bytes : List ℕ) (fault : PacketFault) : Type 0 where
  pub before : List ℕ
  pub first : FirstFault IsPart PartFault bytes before fault.reason
  pub place-is : fault.place ≡ length before
