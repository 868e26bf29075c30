-- One field of a payload, and one of a packet, at the front of some bytes is the only one, and has no
-- fault; and a fault is the only one.
use Rattle.std.proofs.Common.{◌≡◌, ℕ, ◌<◌, ◌+◌, ◌*◌, List, [], ◌∷◌, ◌++◌, length, Option, Some, None, sym, ap, subst, ◌∙◌, arith}
use Rattle.std.proofs.lemmas.List.{length-append, append_cancel_right}
use Rattle.kn_packet.specs.declared.fault.PacketReason.{PacketReason}
use Rattle.kn_packet.specs.declared.payload.Payload.{Payload}
use Rattle.kn_packet.specs.Varints.{IsVarintWithin, IsTooLongWithin}
use Rattle.kn_packet.specs.Fields.{Field, BeginsWithTag, IsField, FieldFault, long_tag, long_varint, bad_wire, field_zero, cut_tag, cut_content}
use Rattle.kn_packet.specs.Scanning.{Found, found, refused, field_at}
use Rattle.kn_packet.specs.Reading.{Joins, Entry, entry_in, IsSound, IsEntry, Part, plain_part, member, payload_in, IsPart, of_plain, of_payload}
use Rattle.kn_packet.specs.Faults.{FirstFault, EntryFault, bad_entry, not_utf8, PartFault, bad_part, in_payload, reason_in_payload}
use Rattle.kn_packet.proofs.FieldLaws.{field_scans, fault_scans}
use Rattle.kn_packet.proofs.Decided.{Decided, joins_same, joins_apart, faults_same}

varint_some : (more n : ℕ) (s : List ℕ) → IsVarintWithin more s n → 0 < length s
unfolding IsVarintWithin
varint_some more n [] h = absurd h
varint_some more n (b ∷ s) h = omega arith

long_some : (more : ℕ) (s : List ℕ) → IsTooLongWithin more s → 0 < length s
unfolding IsTooLongWithin
long_some more [] h = absurd h
long_some more (b ∷ s) h = omega arith

tag_some : (s rest : List ℕ) (number wire : ℕ) → BeginsWithTag s number wire rest → 0 < length s
tag_some s rest number wire h =
    let some = varint_some 9 (number * 8 + wire) h.tag h.is_varint in
    let len = ap length h.joined in
    omega (arith, len, some, length-append h.tag rest)

field_some : (s : List ℕ) (field : Field) → IsField s field → 0 < length s
field_some s field h = tag_some s h.rest _ _ h.tagged

fault_some : (s : List ℕ) (r : PacketReason) → FieldFault s r → 0 < length s
fault_some s r (long_tag long) = long_some 9 s long
fault_some s r (long_varint number wire rest tagged long) = tag_some s rest number wire tagged
fault_some s r (bad_wire number wire rest tagged bad) = tag_some s rest number wire tagged
fault_some s r (field_zero wire rest tagged not_long not_bad) = tag_some s rest 0 wire tagged
fault_some s r (cut_tag some cut) = some
fault_some s r (cut_content number wire rest tagged numbered inside) = tag_some s rest number wire tagged

-- ---- one field

abbrev found_field : Field → List ℕ → Found Field
found_field field rest = found field rest

abbrev refused_field : PacketReason → Found Field
refused_field reason = refused reason

founds_same : (f g : Field) (u v : List ℕ) → found_field f u ≡ found_field g v → (f ≡ g) × (u ≡ v)
founds_same f g u v e = (cc, cc)

fields_same : (s t u v : List ℕ) (f g : Field) → IsField s f → IsField t g → s ++ u ≡ t ++ v → (f ≡ g) × (u ≡ v)
fields_same s t u v f g p q e = founds_same f g u v (sym (field_scans s u f p) ∙ ap field_at e ∙ field_scans t v g q)

field_apart : (s u : List ℕ) (f : Field) (r : PacketReason) → IsField s f → FieldFault (s ++ u) r → ⊥
field_apart s u f r p q = let e : found_field f u ≡ refused_field r = sym (field_scans s u f p) ∙ fault_scans (s ++ u) r q in cc

field_faults_same : (s : List ℕ) (r q : PacketReason) → FieldFault s r → FieldFault s q → r ≡ q
field_faults_same s r q f g = let e : refused_field r ≡ refused_field q = sym (fault_scans s r f) ∙ fault_scans s q g in cc

-- ---- a field of a payload

module _ (payload : Payload) where
  entry_some : (s : List ℕ) (x : Entry) → IsEntry payload s x → 0 < length s
  entry_some s x h = field_some s h.field h.is_field

  entry_fault_some : (s before : List ℕ) (r : PacketReason) → EntryFault payload s before r → 0 < length s
  entry_fault_some s before r (bad_entry cause fault reason-is before-is) = fault_some s cause fault
  entry_fault_some s before r (not_utf8 spelled rest field s-is is_field unsound reason-is before-is) =
      let some = field_some spelled field is_field in
      let len = ap length s-is in
      omega (arith, len, some, length-append spelled rest)

  entries_same : (s t u v : List ℕ) (x y : Entry) → IsEntry payload s x → IsEntry payload t y → s ++ u ≡ t ++ v → (x ≡ y) × (u ≡ v)
  entries_same s t u v x y p q e =
      let both = fields_same s t u v p.field q.field p.is_field q.is_field e in
      (p.entry-is ∙ ap (entry_in payload) both.0 ∙ sym q.entry-is, both.1)

  entry_apart : (s u before : List ℕ) (x : Entry) (r : PacketReason) → IsEntry payload s x → EntryFault payload (s ++ u) before r → ⊥
  entry_apart s u before x r p (bad_entry cause fault reason-is before-is) = field_apart s u p.field cause p.is_field fault
  entry_apart s u before x r p (not_utf8 spelled rest field s-is is_field unsound reason-is before-is) =
      let both = fields_same s spelled u rest p.field field p.is_field is_field s-is in
      unsound (subst IsSound (p.entry-is ∙ ap (entry_in payload) both.0) p.sound)

  entry_faults_same : (s before after : List ℕ) (r q : PacketReason) → EntryFault payload s before r → EntryFault payload s after q → (before ≡ after) × (r ≡ q)
  entry_faults_same s before after r q (bad_entry cause fault reason-is before-is) (bad_entry other fault' reason-is' before-is') =
      (before-is ∙ sym before-is', reason-is ∙ ap reason_in_payload (field_faults_same s cause other fault fault') ∙ sym reason-is')
  entry_faults_same s before after r q (bad_entry cause fault reason-is before-is) (not_utf8 spelled rest field s-is is_field unsound reason-is' before-is') =
      absurd (field_apart spelled rest field cause is_field (subst (λ (b : List ℕ). FieldFault b cause) s-is fault))
  entry_faults_same s before after r q (not_utf8 spelled rest field s-is is_field unsound reason-is before-is) (bad_entry other fault' reason-is' before-is') =
      absurd (field_apart spelled rest field other is_field (subst (λ (b : List ℕ). FieldFault b other) s-is fault'))
  entry_faults_same s before after r q (not_utf8 spelled rest field s-is is_field unsound reason-is before-is) (not_utf8 spelled' rest' field' s-is' is_field' unsound' reason-is' before-is') =
      (before-is ∙ sym before-is', reason-is ∙ sym reason-is')

  pub decided_entry : Decided (IsEntry payload) (EntryFault payload)
  decided_entry = record { some = entry_some; some_fault = entry_fault_some; same = entries_same; apart = entry_apart; same_fault = entry_faults_same }

-- ---- a field of a packet

part_field : (s : List ℕ) (x : Part) → IsPart s x → (field : Field) × IsField s field
part_field s x (of_plain field is_field no_payload part-is) = (field, is_field)
part_field s x (of_payload field is_field payload body payload-is entries joined part-is) = (field, is_field)

part_some : (s : List ℕ) (x : Part) → IsPart s x → 0 < length s
part_some s x h = let f = part_field s x h in field_some s f.0 f.1

part_fault_some : (s before : List ℕ) (r : PacketReason) → PartFault s before r → 0 < length s
part_fault_some s before r (bad_part fault before-is) = fault_some s r fault
part_fault_some s before r (in_payload head body rest inner field payload s-is is_field payload-is first before-is) =
    let some = field_some (head ++ body) field is_field in
    let len = ap length s-is in
    omega (arith, len, some, length-append (head ++ body) rest)

abbrev some_payload : Payload × List ℕ → Option (Payload × List ℕ)
some_payload p = Some p

somes_same : (p q : Payload × List ℕ) → some_payload p ≡ some_payload q → p ≡ q
somes_same p q e = cc

payloads_same : (f g : Field) (p q : Payload) (b c : List ℕ) → f ≡ g → payload_in f ≡ Some (p, b) → payload_in g ≡ Some (q, c) → (p ≡ q) × (b ≡ c)
payloads_same f g p q b c e h k =
    let pairs = somes_same (p, b) (q, c) (sym h ∙ ap payload_in e ∙ k) in
    (ap (λ (x : Payload × List ℕ). x.0) pairs, ap (λ (x : Payload × List ℕ). x.1) pairs)

payload_apart : (f g : Field) (p : Payload) (b : List ℕ) → f ≡ g → payload_in f ≡ None → payload_in g ≡ Some (p, b) → ⊥
payload_apart f g p b e h k = let none : None ≡ some_payload (p, b) = sym h ∙ ap payload_in e ∙ k in cc

member_same : (p q : Payload) (es fs : List Entry) (b c : List ℕ) → p ≡ q → b ≡ c → Joins (IsEntry p) b es → Joins (IsEntry q) c fs → member p es ≡ member q fs
member_same p q es fs b c e d h k =
    let moved : Joins (IsEntry p) b fs = rw (e, d) k in
    let entries = joins_same (decided_entry p) b es fs h moved in
    cc (e, entries)

parts_same : (s t u v : List ℕ) (x y : Part) → IsPart s x → IsPart t y → s ++ u ≡ t ++ v → (x ≡ y) × (u ≡ v)
parts_same s t u v x y (of_plain f p none x-is) (of_plain g q none' y-is) e =
    let both = fields_same s t u v f g p q e in
    (x-is ∙ ap (λ (h : Field). plain_part h.number h.content) both.0 ∙ sym y-is, both.1)
parts_same s t u v x y (of_plain f p none x-is) (of_payload g q payload body payload-is entries joined y-is) e =
    absurd (payload_apart f g payload body (fields_same s t u v f g p q e).0 none payload-is)
parts_same s t u v x y (of_payload f p payload body payload-is entries joined x-is) (of_plain g q none y-is) e =
    absurd (payload_apart g f payload body (sym (fields_same s t u v f g p q e).0) none payload-is)
parts_same s t u v x y (of_payload f p payload body payload-is entries joined x-is) (of_payload g q payload' body' payload-is' entries' joined' y-is) e =
    let both = fields_same s t u v f g p q e in
    let payloads = payloads_same f g payload payload' body body' both.0 payload-is payload-is' in
    (x-is ∙ member_same payload payload' entries entries' body body' payloads.0 payloads.1 joined joined' ∙ sym y-is, both.1)

part_apart : (s u before : List ℕ) (x : Part) (r : PacketReason) → IsPart s x → PartFault (s ++ u) before r → ⊥
part_apart s u before x r p (bad_part fault before-is) = let f = part_field s x p in field_apart s u f.0 r f.1 fault
part_apart s u before x r (of_plain f p none x-is) (in_payload head body rest inner field payload s-is is_field payload-is first before-is) =
    payload_apart f field payload body (fields_same s (head ++ body) u rest f field p is_field s-is).0 none payload-is
part_apart s u before x r (of_payload f p payload' body' payload-is' entries joined x-is) (in_payload head body rest inner field payload s-is is_field payload-is first before-is) =
    let both = fields_same s (head ++ body) u rest f field p is_field s-is in
    let payloads = payloads_same f field payload' payload body' body both.0 payload-is' payload-is in
    let moved : Joins (IsEntry payload) body entries = rw (← payloads.0, ← payloads.1) joined in
    joins_apart (decided_entry payload) body inner r entries moved first

inner_same : (p q : Payload) (b c before after : List ℕ) (r s : PacketReason) → p ≡ q → b ≡ c → FirstFault (IsEntry p) (EntryFault p) b before r → FirstFault (IsEntry q) (EntryFault q) c after s → (before ≡ after) × (r ≡ s)
inner_same p q b c before after r s e d f g =
    let moved : FirstFault (IsEntry p) (EntryFault p) b after s = rw (e, d) g in
    faults_same (decided_entry p) b before after r s f moved

part_faults_same : (s before after : List ℕ) (r q : PacketReason) → PartFault s before r → PartFault s after q → (before ≡ after) × (r ≡ q)
part_faults_same s before after r q (bad_part fault before-is) (bad_part fault' before-is') = (before-is ∙ sym before-is', field_faults_same s r q fault fault')
part_faults_same s before after r q (bad_part fault before-is) (in_payload head body rest inner field payload s-is is_field payload-is first before-is') =
    absurd (field_apart (head ++ body) rest field r is_field (subst (λ (b : List ℕ). FieldFault b r) s-is fault))
part_faults_same s before after r q (in_payload head body rest inner field payload s-is is_field payload-is first before-is) (bad_part fault before-is') =
    absurd (field_apart (head ++ body) rest field q is_field (subst (λ (b : List ℕ). FieldFault b q) s-is fault))
part_faults_same s before after r q (in_payload head body rest inner field payload s-is is_field payload-is first before-is) (in_payload head' body' rest' inner' field' payload' s-is' is_field' payload-is' first' before-is') =
    let e : (head ++ body) ++ rest ≡ (head' ++ body') ++ rest' = sym s-is ∙ s-is' in
    let both = fields_same (head ++ body) (head' ++ body') rest rest' field field' is_field is_field' e in
    let payloads = payloads_same field field' payload payload' body body' both.0 payload-is payload-is' in
    let wholes : head ++ body ≡ head' ++ body' = append_cancel_right (head ++ body) (head' ++ body') rest (e ∙ ap (λ (b : List ℕ). (head' ++ body') ++ b) (sym both.1)) in
    let heads : head ≡ head' = append_cancel_right head head' body (wholes ∙ ap (λ (b : List ℕ). head' ++ b) (sym payloads.1)) in
    let inners = inner_same payload payload' body body' inner inner' r q payloads.0 payloads.1 first first' in
    (before-is ∙ ap (λ (b : List ℕ). b ++ inner) heads ∙ ap (λ (b : List ℕ). head' ++ b) inners.0 ∙ sym before-is', inners.1)

pub decided_part : Decided IsPart PartFault
decided_part = record { some = part_some; some_fault = part_fault_some; same = parts_same; apart = part_apart; same_fault = part_faults_same }
