-- Packets as messages: how one is carried, what a message reads as, and the first packet of a text.
use Rattle.std.specs.Prelude.{ℕ, zero, suc, List, [], ◌∷◌, length, if◌then◌else◌, Option, Some, None}
use Rattle.std.specs.Str.{is_utf8}
use Rattle.kn_packet.specs.declared.packet.Packet.{Packet}
use Rattle.kn_packet.specs.declared.payload.Payload.{Payload}
use Rattle.kn_packet.specs.Fields.{Field}
use Rattle.kn_packet.specs.Scanning.{Found, found, refused, field_at}
use Rattle.kn_packet.specs.Reading.{Entry, int64, text, bytes, skipped, entry_in, Part, member, plain_part, payload_in, packet_of}
use Rattle.kn_packet.specs.Spelling.{spelling}
use Rattle.kn_grpc.specs.declared.fault.MessageReason.{MessageReason}
use Rattle.kn_grpc.specs.declared.fault.MessageReason.TheVariants.{Compressed, Flag, TooLong}
use Rattle.kn_grpc.specs.Messages.{spelled}
use Rattle.kn_grpc.specs.Readers.{First, Less, Whole, Bad, first_message}

-- a packet as a stream carries it
abbrev pub framed : Packet → List ℕ
framed packet = spelled (spelling packet)

-- ---- the packet that bytes read as, as a function

abbrev pub prepended : {A : Type 0} → Option A → Option (List A) → Option (List A)
prepended None things = None
prepended (Some x) None = None
prepended (Some x) (Some xs) = Some (x ∷ xs)

abbrev pub things_at : {A : Type 0} → (Field → Option A) → (List ℕ → Option (List A)) → Found Field → Option (List A)
things_at thing next (refused reason) = None
things_at thing next (found field rest) = prepended (thing field) (next rest)

-- what the fields say that the bytes are the join of, where each says something; no more fields than bytes
abbrev pub things_by : {A : Type 0} → (Field → Option A) → ℕ → List ℕ → Option (List A)
things_by thing zero [] = Some []
things_by thing (suc more) [] = Some []
things_by thing zero (b ∷ bs) = None
things_by thing (suc more) (b ∷ bs) = things_at thing (things_by thing more) (field_at (b ∷ bs))

-- a text is UTF-8
abbrev pub sound_entry : Entry → Option Entry
sound_entry (int64 number n) = Some (int64 number n)
sound_entry (text number body) = if is_utf8 body then Some (text number body) else None
sound_entry (bytes number body) = Some (bytes number body)
sound_entry skipped = Some skipped

abbrev pub entry_for : Payload → Field → Option Entry
entry_for payload field = sound_entry (entry_in payload field)

abbrev pub member_with : Payload → Option (List Entry) → Option Part
member_with payload None = None
member_with payload (Some entries) = Some (member payload entries)

abbrev pub part_by : Option (Payload × List ℕ) → Field → Option Part
part_by None field = Some (plain_part field.number field.content)
part_by (Some (payload, body)) field = member_with payload (things_by (entry_for payload) (length body) body)

abbrev pub part_for : Field → Option Part
part_for field = part_by (payload_in field) field

abbrev pub packet_with : Option (List Part) → Option Packet
packet_with None = None
packet_with (Some parts) = Some (packet_of parts)

-- the packet that the bytes read as, or none
unfoldable pub packet_in : List ℕ → Option Packet
packet_in message = packet_with (things_by part_for (length message) message)

-- ---- the first packet of a text

-- the gRPC status that a call ends with where a message is bad
abbrev pub status_of : MessageReason → ℕ
status_of Compressed = 12
status_of Flag = 13
status_of TooLong = 8

abbrev pub whole_or_bad : Option Packet → List ℕ → First Packet ℕ
whole_or_bad None rest = Bad 13
whole_or_bad (Some packet) rest = Whole packet rest

abbrev pub first_packet : First (List ℕ) MessageReason → First Packet ℕ
first_packet Less = Less
first_packet (Whole message rest) = whole_or_bad (packet_in message) rest
first_packet (Bad reason) = Bad (status_of reason)

-- less than a message; a packet, and the bytes behind it; or bad, with the status
unfoldable pub first_of : List ℕ → First Packet ℕ
first_of stream = first_packet (first_message stream)
