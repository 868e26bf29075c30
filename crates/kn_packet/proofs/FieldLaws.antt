-- Reading a field from the front answers by the grammar, and the grammar by reading.
use Rattle.std.proofs.Common.{◌≡◌, ℕ, ◌<◌, ◌+◌, ◌*◌, ◌/◌, ◌%◌, Bool, true, false, cond, eqb, List, ◌++◌, length, refl, sym, ap, ◌∙◌, append_assoc, arith}
use Rattle.std.proofs.lemmas.Bool.{eqb-true, eqb-false, ne_eqb}
use Rattle.kn_packet.specs.declared.fault.PacketReason.{PacketReason}
use Rattle.kn_packet.specs.declared.fault.PacketReason.TheVariants.{Cut, Varint, Wire, FieldZero, Length, NotUtf8}
use Rattle.kn_packet.specs.Fields.{Content, Field, wire_type, BeginsWithTag, IsField, IsLongBehind, IsBadWire, FieldFault, long_tag, long_varint, bad_wire, field_zero, cut_tag, cut_content}
use Rattle.kn_packet.specs.Scanning.{Scan, whole, unfinished, too_long, scanned, Found, found, refused, content_at, field_of_zero, field_of_number, field_behind, field_of_scan, field_at}
use Rattle.kn_packet.proofs.Scans.{varint_scans, unfinished_scans, too_long_scans, Explains, scan_explains}
use Rattle.kn_packet.proofs.Contents.{content_scans, long_scans, bad_wire_scans, cut_scans, ContentExplains, content_explains}

tag_onto : (spelled rest after : List ℕ) (number wire : ℕ) → BeginsWithTag spelled number wire rest → BeginsWithTag (spelled ++ after) number wire (rest ++ after)
tag_onto spelled rest after number wire h = record {
  tag = h.tag;
  joined = ap (λ (bs : List ℕ). bs ++ after) h.joined ∙ append_assoc h.tag rest after;
  is_varint = h.is_varint;
  in_range = h.in_range;
}

tag_field : (spelled rest : List ℕ) (number wire : ℕ) → BeginsWithTag spelled number wire rest → field_at spelled ≡ field_behind number (content_at wire rest)
unfolding field_at
tag_field spelled rest number wire h =
    let in_range = h.in_range in
    let scan : scanned 9 spelled ≡ whole (number * 8 + wire) rest = rw h.joined (varint_scans 9 h.tag rest (number * 8 + wire) h.is_varint) in
    let number-is : (number * 8 + wire) / 8 ≡ number = omega arith in
    let wire-is : (number * 8 + wire) % 8 ≡ wire = omega arith in
    rw (scan, number-is, wire-is) refl

some_number : (number : ℕ) (content : Found Content) → 0 < number → field_behind number content ≡ field_of_number number content
some_number number content some =
    let other : eqb number 0 ≡ false = ne_eqb number 0 (omega arith) in
    rw other refl

pub field_scans : (spelled rest : List ℕ) (field : Field) → IsField spelled field → field_at (spelled ++ rest) ≡ found field rest
field_scans spelled rest field h =
    tag_field (spelled ++ rest) (h.rest ++ rest) field.number (wire_type field.content) (tag_onto spelled h.rest rest _ _ h.tagged)
    ∙ ap (field_behind field.number) (content_scans h.rest rest field.content h.content)
    ∙ some_number field.number (found field.content rest) h.numbered

either_way : (b : Bool) (content : Found Field) → cond b content content ≡ content
either_way true content = refl
either_way false content = refl

long_field : (number : ℕ) → field_behind number (refused Varint) ≡ refused Varint
long_field number = either_way (eqb number 0) (refused Varint)

wire_field : (number : ℕ) → field_behind number (refused Wire) ≡ refused Wire
wire_field number = either_way (eqb number 0) (refused Wire)

zero_field : (wire : ℕ) (rest : List ℕ) (content : Found Content) → ContentExplains wire rest content → ¬ IsLongBehind wire rest → ¬ IsBadWire wire → field_of_zero content ≡ refused FieldZero
zero_field wire rest (found content after) h not_long not_bad = refl
zero_field wire rest (refused Varint) h not_long not_bad = absurd (not_long h)
zero_field wire rest (refused Wire) h not_long not_bad = absurd (not_bad h)
zero_field wire rest (refused Cut) h not_long not_bad = refl
zero_field wire rest (refused FieldZero) h not_long not_bad = absurd h
zero_field wire rest (refused Length) h not_long not_bad = absurd h
zero_field wire rest (refused NotUtf8) h not_long not_bad = absurd h

pub fault_scans : (bytes : List ℕ) (reason : PacketReason) → FieldFault bytes reason → field_at bytes ≡ refused reason
unfolding field_at
fault_scans bytes reason (long_tag long) = rw (too_long_scans 9 bytes long) refl
fault_scans bytes reason (long_varint number wire rest tagged long) =
    tag_field bytes rest number wire tagged ∙ ap (field_behind number) (long_scans wire rest long) ∙ long_field number
fault_scans bytes reason (bad_wire number wire rest tagged bad) =
    tag_field bytes rest number wire tagged ∙ ap (field_behind number) (bad_wire_scans wire rest bad) ∙ wire_field number
fault_scans bytes reason (field_zero wire rest tagged not_long not_bad) =
    tag_field bytes rest 0 wire tagged ∙ zero_field wire rest (content_at wire rest) (content_explains wire rest tagged.in_range) not_long not_bad
fault_scans bytes reason (cut_tag some cut) = rw (unfinished_scans 9 bytes cut) refl
fault_scans bytes reason (cut_content number wire rest tagged some inside) =
    tag_field bytes rest number wire tagged ∙ ap (field_behind number) (cut_scans wire rest inside) ∙ some_number number (refused Cut) some

-- what the grammar says of an answer
abbrev pub FieldExplains : List ℕ → Found Field → Type 0
FieldExplains bytes (found field rest) = (spelled : List ℕ) × IsField spelled field × (bytes ≡ spelled ++ rest)
FieldExplains bytes (refused reason) = FieldFault bytes reason

zero_explains : (bytes rest : List ℕ) (wire : ℕ) → BeginsWithTag bytes 0 wire rest → (content : Found Content) → content_at wire rest ≡ content → ContentExplains wire rest content → FieldExplains bytes (field_of_zero content)
zero_explains bytes rest wire tagged (found content after) e h =
    field_zero wire rest tagged (λ long. absurd (let k = long_scans wire rest long in cc)) (λ bad. absurd (let k = bad_wire_scans wire rest bad in cc))
zero_explains bytes rest wire tagged (refused Varint) e h = long_varint 0 wire rest tagged h
zero_explains bytes rest wire tagged (refused Wire) e h = bad_wire 0 wire rest tagged h
zero_explains bytes rest wire tagged (refused Cut) e h =
    field_zero wire rest tagged (λ long. absurd (let k = long_scans wire rest long in cc)) (λ bad. absurd (let k = bad_wire_scans wire rest bad in cc))
zero_explains bytes rest wire tagged (refused FieldZero) e h = absurd h
zero_explains bytes rest wire tagged (refused Length) e h = absurd h
zero_explains bytes rest wire tagged (refused NotUtf8) e h = absurd h

number_explains : (bytes rest : List ℕ) (number wire : ℕ) → BeginsWithTag bytes number wire rest → 0 < number → (content : Found Content) → ContentExplains wire rest content → FieldExplains bytes (field_of_number number content)
number_explains bytes rest number wire tagged some (found content after) h =
    let tag : List ℕ = tagged.tag in
    let joined : bytes ≡ (tag ++ h.0) ++ after = tagged.joined ∙ ap (λ (bs : List ℕ). tag ++ bs) h.3 ∙ sym (append_assoc tag h.0 after) in
    let is_tag : BeginsWithTag (tag ++ h.0) number (wire_type content) h.0 = record { tag = tag; joined = refl; is_varint = rw h.2 at tagged.is_varint; in_range = rw h.2 at tagged.in_range } in
    (tag ++ h.0, record { rest = h.0; tagged = is_tag; numbered = some; content = h.1 }, joined)
number_explains bytes rest number wire tagged some (refused Varint) h = long_varint number wire rest tagged h
number_explains bytes rest number wire tagged some (refused Wire) h = bad_wire number wire rest tagged h
number_explains bytes rest number wire tagged some (refused Cut) h = cut_content number wire rest tagged some h
number_explains bytes rest number wire tagged some (refused FieldZero) h = absurd h
number_explains bytes rest number wire tagged some (refused Length) h = absurd h
number_explains bytes rest number wire tagged some (refused NotUtf8) h = absurd h

behind_explains : (bytes rest : List ℕ) (number wire : ℕ) → BeginsWithTag bytes number wire rest → (b : Bool) → eqb number 0 ≡ b → FieldExplains bytes (cond b (field_of_zero (content_at wire rest)) (field_of_number number (content_at wire rest)))
behind_explains bytes rest number wire tagged true e =
    let zero-is : number ≡ 0 = eqb-true number 0 e in
    zero_explains bytes rest wire (rw zero-is at tagged) (content_at wire rest) refl (content_explains wire rest tagged.in_range)
behind_explains bytes rest number wire tagged false e =
    let other : number ≡ 0 → ⊥ = eqb-false number 0 e in
    number_explains bytes rest number wire tagged (omega arith) (content_at wire rest) (content_explains wire rest tagged.in_range)

scan_field_explains : (bytes : List ℕ) → 0 < length bytes → (s : Scan) → Explains 9 bytes s → FieldExplains bytes (field_of_scan s)
scan_field_explains bytes some (whole tag rest) h =
    let parts : tag ≡ (tag / 8) * 8 + tag % 8 = omega arith in
    let tagged : BeginsWithTag bytes (tag / 8) (tag % 8) rest = record { tag = h.0; joined = h.2; is_varint = rw parts at h.1; in_range = omega arith } in
    behind_explains bytes rest (tag / 8) (tag % 8) tagged (eqb (tag / 8) 0) refl
scan_field_explains bytes some unfinished h = cut_tag some h
scan_field_explains bytes some too_long h = long_tag h

pub field_explains : (bytes : List ℕ) → 0 < length bytes → FieldExplains bytes (field_at bytes)
unfolding field_at
field_explains bytes some = scan_field_explains bytes some (scanned 9 bytes) (scan_explains 9 bytes)
