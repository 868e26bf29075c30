-- What bytes are a packet, and which (Protocol Buffers encoding, "Message Structure", "Last One Wins",
-- "Oneofs"; client.proto).
use Rattle.std.specs.Prelude.{◌≡◌, ℕ, ◌==◌, ◌%◌, ◌^◌, Bool, false, not, List, [], ◌∷◌, ◌++◌, Option, Some, None, unwrap_or, if◌then◌else◌, ℤ, IsUtf8}
use Rattle.std.specs.List.{list_any}
use Rattle.std.specs.Int.{w64, cast_signed}
use Rattle.kn_packet.specs.declared.payload.Payload.{Payload}
use Rattle.kn_packet.specs.declared.payload.Payload.TheVariants as payloads
use Rattle.kn_packet.specs.declared.payload.FieldKind.{FieldKind}
use Rattle.kn_packet.specs.declared.payload.FieldKind.TheVariants.{Int64, Text, Bytes, Unknown}
use Rattle.kn_packet.specs.declared.packet.Packet.{Packet}
use Rattle.kn_packet.specs.declared.packet.Packet.TheVariants.{DialReq, DialRsp, CloseReq, CloseRsp, Data, DialCls, Drain, Other}
use Rattle.kn_packet.specs.Fields.{Content, varint, fixed64, delimited, fixed32, Field, IsField}
use Rattle.kn_packet.specs.Payloads.{is_payload, payload_of_number, payload_of_type, kind_of}

-- ---- lists of fields

-- the bytes are the spellings of these things, one behind the other
abbrev pub Joins : {A : Type 0} → (List ℕ → A → Type 0) → List ℕ → List A → Type 0
Joins Spells bytes [] = bytes ≡ []
Joins Spells bytes (x ∷ xs) =
    (spelled rest : List ℕ) × Spells spelled x × (bytes ≡ spelled ++ rest) × Joins Spells rest xs

-- the last value that is picked, or the default where none is
abbrev pub last_of : {A B : Type 0} → (A → Option B) → B → List A → B
last_of pick default [] = default
last_of pick default (x ∷ xs) = last_of pick (unwrap_or (pick x) default) xs

-- ---- the fields of a payload

-- a field that the payload knows, with its number; or one that is skipped
pub data Entry : Type 0 where
  int64 : ℕ → ℕ → Entry
  text : ℕ → List ℕ → Entry
  bytes : ℕ → List ℕ → Entry
  skipped : Entry

-- a known number with another wire type than its kind's is skipped, like an unknown one
abbrev pub entry_of : FieldKind → ℕ → Content → Entry
entry_of Int64 number (varint n) = int64 number n
entry_of Int64 number fixed64 = skipped
entry_of Int64 number (delimited body) = skipped
entry_of Int64 number fixed32 = skipped
entry_of Text number (varint n) = skipped
entry_of Text number fixed64 = skipped
entry_of Text number (delimited body) = text number body
entry_of Text number fixed32 = skipped
entry_of Bytes number (varint n) = skipped
entry_of Bytes number fixed64 = skipped
entry_of Bytes number (delimited body) = bytes number body
entry_of Bytes number fixed32 = skipped
entry_of Unknown number content = skipped

abbrev pub entry_in : Payload → Field → Entry
entry_in payload field = entry_of (kind_of payload field.number) field.number field.content

-- a text is UTF-8
abbrev pub IsSound : Entry → Type 0
IsSound (int64 number n) = Unit {0}
IsSound (text number body) = IsUtf8 body
IsSound (bytes number body) = Unit {0}
IsSound skipped = Unit {0}

pub record IsEntry (payload : Payload) (spelled : List ℕ) (entry : Entry) : Type 0 where
  pub field : Field
  pub is_field : IsField spelled field
  pub entry-is : entry ≡ entry_in payload field
  pub sound : IsSound entry

abbrev pub int64_at : ℕ → Entry → Option ℕ
int64_at wanted (int64 number n) = if number == wanted then Some n else None
int64_at wanted (text number body) = None
int64_at wanted (bytes number body) = None
int64_at wanted skipped = None

abbrev pub text_at : ℕ → Entry → Option (List ℕ)
text_at wanted (int64 number n) = None
text_at wanted (text number body) = if number == wanted then Some body else None
text_at wanted (bytes number body) = None
text_at wanted skipped = None

abbrev pub bytes_at : ℕ → Entry → Option (List ℕ)
bytes_at wanted (int64 number n) = None
bytes_at wanted (text number body) = None
bytes_at wanted (bytes number body) = if number == wanted then Some body else None
bytes_at wanted skipped = None

-- the last value of a field, or 0 or nothing where it is missing
abbrev pub last_int64 : ℕ → List Entry → ℤ
last_int64 number entries = cast_signed w64 (last_of (int64_at number) 0 entries)

abbrev pub last_text : ℕ → List Entry → List ℕ
last_text number entries = last_of (text_at number) [] entries

abbrev pub last_bytes : ℕ → List Entry → List ℕ
last_bytes number entries = last_of (bytes_at number) [] entries

-- the packet with this payload
abbrev pub packet_with : Payload → List Entry → Packet
packet_with payloads.DialRequest entries =
    DialReq (last_text 1 entries) (last_text 2 entries) (last_int64 3 entries)
packet_with payloads.DialResponse entries =
    DialRsp (last_text 1 entries) (last_int64 2 entries) (last_int64 3 entries)
packet_with payloads.Data entries =
    Data (last_int64 1 entries) (last_text 2 entries) (last_bytes 3 entries)
packet_with payloads.CloseRequest entries = CloseReq (last_int64 1 entries)
packet_with payloads.CloseResponse entries = CloseRsp (last_text 1 entries) (last_int64 2 entries)
packet_with payloads.CloseDial entries = DialCls (last_int64 1 entries)
packet_with payloads.Drain entries = Drain

-- ---- the fields of a packet

-- the type, a payload with its fields, or a field that is skipped
pub data Part : Type 0 where
  packet_type : ℕ → Part
  member : Payload → List Entry → Part
  unknown : Part

-- the payload that a field is, with its bytes
abbrev pub payload_if_known : Option Payload → List ℕ → Option (Payload × List ℕ)
payload_if_known None body = None
payload_if_known (Some payload) body = Some (payload, body)

abbrev pub payload_of_content : ℕ → Content → Option (Payload × List ℕ)
payload_of_content number (varint n) = None
payload_of_content number fixed64 = None
payload_of_content number (delimited body) = payload_if_known (payload_of_number number) body
payload_of_content number fixed32 = None

abbrev pub payload_in : Field → Option (Payload × List ℕ)
payload_in field = payload_of_content field.number field.content

-- what a field says that is no payload
abbrev pub plain_part : ℕ → Content → Part
plain_part number (varint n) = if number == 1 then packet_type n else unknown
plain_part number fixed64 = unknown
plain_part number (delimited body) = unknown
plain_part number fixed32 = unknown

pub data IsPart (spelled : List ℕ) (part : Part) : Type 0 where
  of_plain : (field : Field) → IsField spelled field → payload_in field ≡ None
      → part ≡ plain_part field.number field.content → IsPart spelled part
  of_payload : (field : Field) → IsField spelled field
      → (payload : Payload) (body : List ℕ) → payload_in field ≡ Some (payload, body)
      → (entries : List Entry) → Joins (IsEntry payload) body entries
      → part ≡ member payload entries → IsPart spelled part

abbrev pub type_in : Part → Option ℕ
type_in (packet_type n) = Some n
type_in (member payload entries) = None
type_in unknown = None

abbrev pub entries_in : Payload → Part → List Entry
entries_in wanted (packet_type n) = []
entries_in wanted (member payload entries) = if is_payload payload wanted then entries else []
entries_in wanted unknown = []

-- it is another member of the oneof
abbrev pub is_other : Payload → Part → Bool
is_other wanted (packet_type n) = false
is_other wanted (member payload entries) = not (is_payload payload wanted)
is_other wanted unknown = false

-- The fields of a payload: occurrences of one member merge, and another member clears what came before it.
abbrev pub entries_of : Payload → List Part → List Entry
entries_of wanted [] = []
entries_of wanted (part ∷ parts) =
    (if list_any (is_other wanted) parts then [] else entries_in wanted part)
    ++ entries_of wanted parts

-- An enum has 32 bits. A payload that is not the type's does not count, and the type's own is then empty.
abbrev pub type_of : List Part → ℕ
type_of parts = last_of type_in 0 parts % 2 ^ 32

abbrev pub packet_for : Option Payload → List Part → Packet
packet_for None parts = Other (type_of parts)
packet_for (Some payload) parts = packet_with payload (entries_of payload parts)

abbrev pub packet_of : List Part → Packet
packet_of parts = packet_for (payload_of_type (type_of parts)) parts

-- the bytes read as the packet
pub record Reads (spelled : List ℕ) (packet : Packet) : Type 0 where
  pub parts : List Part
  pub joined : Joins IsPart spelled parts
  pub packet-is : packet ≡ packet_of parts
