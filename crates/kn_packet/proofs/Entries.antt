-- What one field of a payload that was read says of the bytes.
use Rattle.std.proofs.Common.{◌≡◌, ℕ, ◌<◌, List, [], length, refl, ap, subst, ◌∙◌}
use Rattle.kn_packet.specs.declared.fault.PacketReason.{PacketReason}
use Rattle.kn_packet.specs.declared.fault.PacketReason.TheVariants.{NotUtf8}
use Rattle.kn_packet.specs.declared.payload.Payload.{Payload}
use Rattle.kn_packet.specs.declared.payload.FieldKind.{FieldKind}
use Rattle.kn_packet.specs.Fields.{Field, IsField, FieldFault}
use Rattle.kn_packet.specs.Payloads.{kind_of}
use Rattle.kn_packet.specs.Scanning.{found, refused, field_at}
use Rattle.kn_packet.specs.Reading.{Entry, entry_of, entry_in, IsSound, IsEntry}
use Rattle.kn_packet.specs.Faults.{EntryFault, bad_entry, not_utf8, reason_in_payload}
use Rattle.kn_packet.specs.Stops.{Begins}
use Rattle.kn_packet.proofs.FieldLaws.{FieldExplains, field_explains}

pub field_begins : (bytes rest : List ℕ) (field : Field) → 0 < length bytes → field_at bytes ≡ found field rest → Begins IsField bytes field rest
field_begins bytes rest field some e =
    let h : FieldExplains bytes (found field rest) = subst (FieldExplains bytes) e (field_explains bytes some) in
    record { spelled = h.0; is_thing = h.1; bytes-is = h.2 }

pub field_is_faulty : (bytes : List ℕ) (reason : PacketReason) → 0 < length bytes → field_at bytes ≡ refused reason → FieldFault bytes reason
field_is_faulty bytes reason some e = subst (FieldExplains bytes) e (field_explains bytes some)

pub entry_begins : (payload : Payload) (bytes rest : List ℕ) (field : Field) (kind : FieldKind) (entry : Entry) → 0 < length bytes → field_at bytes ≡ found field rest
    → kind ≡ kind_of payload field.number → entry ≡ entry_of kind field.number field.content → IsSound entry → Begins (IsEntry payload) bytes entry rest
entry_begins payload bytes rest field kind entry some e kind-is entry-is sound =
    let b = field_begins bytes rest field some e in
    let said : entry ≡ entry_in payload field = entry-is ∙ ap (λ (k : FieldKind). entry_of k field.number field.content) kind-is in
    record { spelled = b.spelled; is_thing = record { field = field; is_field = b.is_thing; entry-is = said; sound = sound }; bytes-is = b.bytes-is }

pub text_is_faulty : (payload : Payload) (bytes rest : List ℕ) (field : Field) (kind : FieldKind) → 0 < length bytes → field_at bytes ≡ found field rest
    → kind ≡ kind_of payload field.number → ¬ IsSound (entry_of kind field.number field.content) → EntryFault payload bytes [] NotUtf8
text_is_faulty payload bytes rest field kind some e kind-is unsound =
    let b = field_begins bytes rest field some e in
    not_utf8 b.spelled rest field b.bytes-is b.is_thing (subst (λ (k : FieldKind). ¬ IsSound (entry_of k field.number field.content)) kind-is unsound) refl refl

pub entry_is_faulty : (payload : Payload) (bytes : List ℕ) (reason said : PacketReason) → 0 < length bytes → field_at bytes ≡ refused reason → said ≡ reason_in_payload reason → EntryFault payload bytes [] said
entry_is_faulty payload bytes reason said some e said-is = bad_entry reason (field_is_faulty bytes reason some e) said-is refl
