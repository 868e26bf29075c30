-- What one field of a packet that was read says of the bytes.
use Rattle.std.proofs.Common.{◌≡◌, ℕ, ◌<◌, ◌≤◌, ◌+◌, List, [], ◌++◌, length, Option, Some, None, refl, sym, ap, subst, ◌∙◌, append_assoc, arith}
use Rattle.std.proofs.lemmas.List.{length-append}
use Rattle.kn_packet.specs.declared.fault.PacketReason.{PacketReason}
use Rattle.kn_packet.specs.declared.payload.Payload.{Payload}
use Rattle.kn_packet.specs.declared.entry.Stop.{Stop}
use Rattle.kn_packet.specs.Fields.{delimited, Field, IsField}
use Rattle.kn_packet.specs.Payloads.{payload_of_number}
use Rattle.kn_packet.specs.Scanning.{found, refused, field_at}
use Rattle.kn_packet.specs.Reading.{Joins, Entry, IsEntry, Part, plain_part, member, payload_in, payload_if_known, IsPart, of_plain, of_payload}
use Rattle.kn_packet.specs.Faults.{FirstFault, EntryFault, PartFault, bad_part, in_payload}
use Rattle.kn_packet.specs.Stops.{Begins, StopsAt}
use Rattle.kn_packet.proofs.Entries.{field_begins, field_is_faulty}

pub plain_begins : (bytes rest : List ℕ) (field : Field) (part : Part) → 0 < length bytes → field_at bytes ≡ found field rest → payload_in field ≡ None → part ≡ plain_part field.number field.content → Begins IsPart bytes part rest
plain_begins bytes rest field part some e none part-is =
    let b = field_begins bytes rest field some e in
    record { spelled = b.spelled; is_thing = of_plain field b.is_thing none part-is; bytes-is = b.bytes-is }

-- the field of a payload, with its bytes
abbrev member_field : ℕ → List ℕ → Field
member_field number body = record { number = number; content = delimited body }

member_is : (number : ℕ) (payload : Payload) (body : List ℕ) → payload_of_number number ≡ Some payload → payload_in (member_field number body) ≡ Some (payload, body)
member_is number payload body e = ap (λ (p : Option Payload). payload_if_known p body) e

pub member_begins : (bytes rest body : List ℕ) (number : ℕ) (payload : Payload) (entries : List Entry) → 0 < length bytes → field_at bytes ≡ found (member_field number body) rest
    → payload_of_number number ≡ Some payload → Joins (IsEntry payload) body entries → Begins IsPart bytes (member payload entries) rest
member_begins bytes rest body number payload entries some e known joined =
    let b = field_begins bytes rest (member_field number body) some e in
    record { spelled = b.spelled; is_thing = of_payload (member_field number body) b.is_thing payload body (member_is number payload body known) entries joined refl; bytes-is = b.bytes-is }

body_ends : (spelled body : List ℕ) (number : ℕ) → IsField spelled (member_field number body) → (head : List ℕ) × (spelled ≡ head ++ body)
body_ends spelled body number h =
    let tag : List ℕ = h.tagged.tag in
    (tag ++ h.content.0, h.tagged.joined ∙ ap (λ (b : List ℕ). tag ++ b) h.content.2 ∙ sym (append_assoc tag h.content.0 body))

pub part_is_faulty : (bytes : List ℕ) (reason : PacketReason) → 0 < length bytes → field_at bytes ≡ refused reason → StopsAt PartFault bytes (record { left = length bytes; reason = reason })
part_is_faulty bytes reason some e = record { before = []; faulty = bad_part (field_is_faulty bytes reason some e) refl; left-is = omega arith }

pub body_fits : (bytes rest body : List ℕ) (number : ℕ) → 0 < length bytes → field_at bytes ≡ found (member_field number body) rest → length body + length rest ≤ length bytes
body_fits bytes rest body number some e =
    let b = field_begins bytes rest (member_field number body) some e in
    let ends = body_ends b.spelled body number b.is_thing in
    let whole = ap length b.bytes-is in
    let field = ap length ends.1 in
    omega (arith, whole, field, length-append b.spelled rest, length-append ends.0 body)

pub member_is_faulty : (bytes rest body : List ℕ) (number : ℕ) (payload : Payload) (stop : Stop) → 0 < length bytes → field_at bytes ≡ found (member_field number body) rest
    → payload_of_number number ≡ Some payload → StopsAt (FirstFault (IsEntry payload) (EntryFault payload)) body stop → StopsAt PartFault bytes (record { left = stop.left + length rest; reason = stop.reason })
member_is_faulty bytes rest body number payload stop some e known stops =
    let b = field_begins bytes rest (member_field number body) some e in
    let ends = body_ends b.spelled body number b.is_thing in
    let is_field : IsField (ends.0 ++ body) (member_field number body) = subst (λ (s : List ℕ). IsField s (member_field number body)) ends.1 b.is_thing in
    let bytes-is : bytes ≡ (ends.0 ++ body) ++ rest = b.bytes-is ∙ ap (λ (s : List ℕ). s ++ rest) ends.1 in
    let whole = ap length bytes-is in
    let left = stops.left-is in
    record {
      before = ends.0 ++ stops.before;
      faulty = in_payload ends.0 body rest stops.before (member_field number body) payload bytes-is is_field (member_is number payload body known) stops.faulty refl;
      left-is = omega (arith, whole, left, length-append (ends.0 ++ body) rest, length-append ends.0 body, length-append ends.0 stops.before);
    }
