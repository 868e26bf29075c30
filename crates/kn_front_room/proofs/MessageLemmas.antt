-- What a message carries is no longer than the message.
use Rattle.std.proofs.Common.{◌≡◌, ℕ, ◌+◌, ◌≤◌, Bool, true, false, cond, eqb, List, [], ◌∷◌, ◌++◌, length, take, drop, Option, Some, None, unwrap_or, refl, sym, ap, ◌∙◌, subst, arith}
use Rattle.std.specs.List.{list_any}
use Rattle.std.specs.Prelude.{slice_index}
use Rattle.std.proofs.lemmas.List.{length-append, length-take}
use Rattle.std.proofs.lemmas.Bool.{ltb-false}
use Rattle.std.specs.Bool.{nat_lt}
use Rattle.kn_packet.specs.declared.packet.Packet.{Packet}
use Rattle.kn_packet.specs.declared.payload.Payload.{Payload}
use Rattle.kn_packet.specs.declared.payload.Payload.TheVariants as payloads
use Rattle.kn_packet.specs.declared.payload.FieldKind.{FieldKind}
use Rattle.kn_packet.specs.declared.payload.FieldKind.TheVariants.{Int64, Text, Bytes, Unknown}
use Rattle.kn_packet.specs.Fields.{Content, varint, fixed64, delimited, fixed32, IsField}
use Rattle.kn_packet.specs.Payloads.{is_payload, payload_of_number, payload_of_type, kind_of}
use Rattle.kn_packet.specs.Reading.{Joins, last_of, Entry, int64, text, bytes, skipped, entry_of, IsEntry, bytes_at, packet_with, Part, packet_type, member, unknown, payload_if_known, payload_of_content, plain_part, IsPart, of_plain, of_payload, entries_in, is_other, entries_of, type_of, packet_for}
use Rattle.kn_grpc.specs.declared.fault.MessageReason.{MessageReason}
use Rattle.kn_grpc.specs.declared.fault.MessageReason.TheVariants.{Compressed, Flag, TooLong}
use Rattle.kn_grpc.specs.Messages.{length_of}
use Rattle.kn_grpc.specs.Readers.{Less, Whole, reason_in, first_by, first_message}
use Rattle.kn_grpc.specs.Packets.{packet_in, whole_or_bad, first_packet, first_of}
use Rattle.kn_grpc.proofs.PacketReadings.{packet_reads}
use Rattle.kn_front_room.specs.Rooms.{IsShortPacket}

-- ---- what fits

abbrev ContentFits : ℕ → Content → Type 0
ContentFits n (varint v) = Unit {0}
ContentFits n fixed64 = Unit {0}
ContentFits n (delimited body) = length body ≤ n
ContentFits n fixed32 = Unit {0}

abbrev EntryFits : ℕ → Entry → Type 0
EntryFits n (int64 number v) = Unit {0}
EntryFits n (text number body) = Unit {0}
EntryFits n (bytes number body) = length body ≤ n
EntryFits n skipped = Unit {0}

abbrev AllFit : ℕ → List Entry → Type 0
AllFit n [] = Unit {0}
AllFit n (e ∷ es) = EntryFits n e × AllFit n es

abbrev PartFits : ℕ → Part → Type 0
PartFits n (packet_type v) = Unit {0}
PartFits n (member payload entries) = AllFit n entries
PartFits n unknown = Unit {0}

abbrev PartsFit : ℕ → List Part → Type 0
PartsFit n [] = Unit {0}
PartsFit n (p ∷ ps) = PartFits n p × PartsFit n ps

-- ---- fields

content_fits : (n : ℕ) (spelled : List ℕ) (number : ℕ) (content : Content) → length spelled ≤ n → IsField spelled (record { number = number; content = content }) → ContentFits n content
content_fits n spelled number (varint v) le f = tt
content_fits n spelled number fixed64 le f = tt
content_fits n spelled number fixed32 le f = tt
content_fits n spelled number (delimited body) le f =
    let whole : length spelled ≡ length f.tagged.tag + length f.rest = ap length f.tagged.joined ∙ length-append f.tagged.tag f.rest in
    let inner : length f.rest ≡ length f.content.0 + length body = ap length f.content.2 ∙ length-append f.content.0 body in
    omega (arith, whole, inner, le)

entry_fits : (n : ℕ) (kind : FieldKind) (number : ℕ) (content : Content) → ContentFits n content → EntryFits n (entry_of kind number content)
entry_fits n Int64 number (varint v) h = tt
entry_fits n Int64 number fixed64 h = tt
entry_fits n Int64 number (delimited body) h = tt
entry_fits n Int64 number fixed32 h = tt
entry_fits n Text number (varint v) h = tt
entry_fits n Text number fixed64 h = tt
entry_fits n Text number (delimited body) h = tt
entry_fits n Text number fixed32 h = tt
entry_fits n Bytes number (varint v) h = tt
entry_fits n Bytes number fixed64 h = tt
entry_fits n Bytes number (delimited body) h = h
entry_fits n Bytes number fixed32 h = tt
entry_fits n Unknown number content h = tt

entries_fit : (n : ℕ) (payload : Payload) (body : List ℕ) (entries : List Entry) → length body ≤ n → Joins (IsEntry payload) body entries → AllFit n entries
entries_fit n payload body [] le j = tt
entries_fit n payload body (e ∷ es) le j =
    let parts : length body ≡ length j.0 + length j.1 = ap length j.3 ∙ length-append j.0 j.1 in
    let i = j.2 in (
      subst (EntryFits n) (sym i.entry-is) (entry_fits n (kind_of payload i.field.number) i.field.number i.field.content (content_fits n j.0 i.field.number i.field.content (omega (arith, parts, le)) i.is_field)),
      entries_fit n payload j.1 es (omega (arith, parts, le)) j.4,
    )

-- ---- parts

plain_fits : (n number : ℕ) (content : Content) → PartFits n (plain_part number content)
plain_fits n number (varint v) = plain_here (eqb number 1)
  where
    plain_here : (b : Bool) → PartFits n (cond b (packet_type v) unknown)
    plain_here true = tt
    plain_here false = tt
plain_fits n number fixed64 = tt
plain_fits n number (delimited body) = tt
plain_fits n number fixed32 = tt

abbrev body_in : Option (Payload × List ℕ) → List ℕ
body_in None = []
body_in (Some x) = x.1

known_body : (o : Option Payload) (b : List ℕ) (payload : Payload) (body : List ℕ) → payload_if_known o b ≡ Some (payload, body) → b ≡ body
known_body None b payload body h = absurd cc
known_body (Some p) b payload body h = ap body_in h

payload_fits : (n number : ℕ) (content : Content) (payload : Payload) (body : List ℕ) → ContentFits n content → payload_of_content number content ≡ Some (payload, body) → length body ≤ n
payload_fits n number (varint v) payload body f h = absurd cc
payload_fits n number fixed64 payload body f h = absurd cc
payload_fits n number fixed32 payload body f h = absurd cc
payload_fits n number (delimited b) payload body f h = let same = known_body (payload_of_number number) b payload body h in subst (λ x. length x ≤ n) same f

part_fits : (n : ℕ) (spelled : List ℕ) (part : Part) → length spelled ≤ n → IsPart spelled part → PartFits n part
part_fits n spelled part le (of_plain field is none same) = subst (PartFits n) (sym same) (plain_fits n field.number field.content)
part_fits n spelled part le (of_payload field is payload body found entries joined same) =
    subst (PartFits n) (sym same) (entries_fit n payload body entries (payload_fits n field.number field.content payload body (content_fits n spelled field.number field.content le is) found) joined)

parts_fit : (n : ℕ) (spelled : List ℕ) (parts : List Part) → length spelled ≤ n → Joins IsPart spelled parts → PartsFit n parts
parts_fit n spelled [] le j = tt
parts_fit n spelled (p ∷ ps) le j =
    let sides : length spelled ≡ length j.0 + length j.1 = ap length j.3 ∙ length-append j.0 j.1 in
    (part_fits n j.0 p (omega (arith, sides, le)) j.2, parts_fit n j.1 ps (omega (arith, sides, le)) j.4)

-- ---- the packet

fit_append : (n : ℕ) (es fs : List Entry) → AllFit n es → AllFit n fs → AllFit n (es ++ fs)
fit_append n [] fs h k = k
fit_append n (e ∷ es) fs h k = (h.0, fit_append n es fs h.1 k)

in_fits : (n : ℕ) (wanted : Payload) (part : Part) → PartFits n part → AllFit n (entries_in wanted part)
in_fits n wanted (packet_type v) h = tt
in_fits n wanted unknown h = tt
in_fits n wanted (member payload entries) h = in_here (is_payload payload wanted)
  where
    in_here : (b : Bool) → AllFit n (cond b entries [])
    in_here true = h
    in_here false = tt

of_fits : (n : ℕ) (wanted : Payload) (parts : List Part) → PartsFit n parts → AllFit n (entries_of wanted parts)
of_fits n wanted [] h = tt
of_fits n wanted (part ∷ parts) h = fit_append n (cond (list_any (is_other wanted) parts) [] (entries_in wanted part)) (entries_of wanted parts) (of_here (list_any (is_other wanted) parts)) (of_fits n wanted parts h.1)
  where
    of_here : (b : Bool) → AllFit n (cond b [] (entries_in wanted part))
    of_here true = tt
    of_here false = in_fits n wanted part h.0

pick_fits : (n wanted : ℕ) (e : Entry) (default : List ℕ) → EntryFits n e → length default ≤ n → length (unwrap_or (bytes_at wanted e) default) ≤ n
pick_fits n wanted (int64 number v) default h le = le
pick_fits n wanted (text number body) default h le = le
pick_fits n wanted skipped default h le = le
pick_fits n wanted (bytes number body) default h le = pick_here (eqb number wanted)
  where
    pick_here : (b : Bool) → length (unwrap_or (cond b (Some body) None) default) ≤ n
    pick_here true = h
    pick_here false = le

last_fits : (n wanted : ℕ) (default : List ℕ) (es : List Entry) → AllFit n es → length default ≤ n → length (last_of (bytes_at wanted) default es) ≤ n
last_fits n wanted default [] h le = le
last_fits n wanted default (e ∷ es) h le = last_fits n wanted (unwrap_or (bytes_at wanted e) default) es h.1 (pick_fits n wanted e default h.0 le)

with_fits : (payload : Payload) (es : List Entry) → AllFit 4194304 es → IsShortPacket (packet_with payload es)
with_fits payloads.DialRequest es h = tt
with_fits payloads.DialResponse es h = tt
with_fits payloads.Data es h = last_fits 4194304 3 [] es h (omega arith)
with_fits payloads.CloseRequest es h = tt
with_fits payloads.CloseResponse es h = tt
with_fits payloads.CloseDial es h = tt
with_fits payloads.Drain es h = tt

for_fits : (o : Option Payload) (parts : List Part) → PartsFit 4194304 parts → IsShortPacket (packet_for o parts)
for_fits None parts h = tt
for_fits (Some payload) parts h = with_fits payload (entries_of payload parts) (of_fits 4194304 payload parts h)

read_short : (message : List ℕ) (p : Packet) → length message ≤ 4194304 → packet_in message ≡ Some p → IsShortPacket p
read_short message p le is =
    let r = packet_reads message p is in
    subst IsShortPacket (sym r.packet-is) (for_fits (payload_of_type (type_of r.parts)) r.parts (parts_fit 4194304 message r.parts le r.joined))

-- ---- messages

whole_short : (o : Option Packet) (message rest after : List ℕ) (p : Packet) → packet_in message ≡ o → length message ≤ 4194304 → whole_or_bad o rest ≡ Whole p after → IsShortPacket p
whole_short None message rest after p read le is = absurd cc
whole_short (Some q) message rest after p read le is = let same : q ≡ p = cc in subst IsShortPacket same (read_short message q le read)

first_short : (o : Option MessageReason) (stream after : List ℕ) (p : Packet) → (o ≡ None → length_of stream ≤ 4194304) → first_packet (first_by o stream) ≡ Whole p after → IsShortPacket p
first_short (Some reason) stream after p small is = absurd cc
first_short None stream after p small is = by_length (nat_lt (length stream) (5 + length_of stream)) is
  where
    message : List ℕ
    message = take (length_of stream) (drop 5 stream)

    by_length : (b : Bool) → first_packet (cond b Less (Whole message (drop (5 + length_of stream) stream))) ≡ Whole p after → IsShortPacket p
    by_length true is = absurd cc
    by_length false is = whole_short (packet_in message) message (drop (5 + length_of stream) stream) after p refl (omega (arith, length-take (length_of stream) (drop 5 stream), small refl)) is

reason_small : (stream : List ℕ) → reason_in stream ≡ None → length_of stream ≤ 4194304
reason_small stream none = by_flag (eqb (slice_index stream 0) 0) (ltb_length) refl none
  where
    ltb_length : Bool
    ltb_length = nat_lt 4194304 (length_of stream)

    by_flag : (a b : Bool) → ltb_length ≡ b → cond a (cond b (Some TooLong) None) (cond (eqb (slice_index stream 0) 1) (Some Compressed) (Some Flag)) ≡ None → length_of stream ≤ 4194304
    by_flag true true e h = absurd cc
    by_flag true false e h = ltb-false 4194304 (length_of stream) e
    by_flag false b e h = by_compressed (eqb (slice_index stream 0) 1) h
      where
        by_compressed : (c : Bool) → cond c (Some Compressed) (Some Flag) ≡ None → length_of stream ≤ 4194304
        by_compressed true k = absurd cc
        by_compressed false k = absurd cc

pub messages_short : (stream after : List ℕ) (p : Packet) → first_of stream ≡ Whole p after → IsShortPacket p
unfolding first_of first_message
messages_short stream after p is = first_short (reason_in stream) stream after p (reason_small stream) is
