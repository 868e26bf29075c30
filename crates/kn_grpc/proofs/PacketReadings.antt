-- The function that reads a packet reads what the grammar says.
use Rattle.std.proofs.Common.{◌≡◌, ℕ, zero, suc, ◌<◌, ◌≤◌, Bool, true, false, List, [], ◌∷◌, length, Option, Some, None, cond, arith, refl, sym, ap, ◌∙◌, subst, length-append}
use Rattle.std.proofs.lemmas.Str.{IsUtf8-from_is_utf8, is_utf8-from_IsUtf8}
use Rattle.std.specs.Str.{is_utf8}
use Rattle.kn_packet.specs.declared.packet.Packet.{Packet}
use Rattle.kn_packet.specs.declared.payload.Payload.{Payload}
use Rattle.kn_packet.specs.declared.fault.PacketFault.{PacketFault}
use Rattle.kn_packet.specs.Fields.{Field, IsField}
use Rattle.kn_packet.specs.Scanning.{Found, found, refused, field_at}
use Rattle.kn_packet.specs.Reading.{Joins, Entry, int64, text, bytes, skipped, entry_in, IsSound, IsEntry, Part, payload_in, IsPart, of_plain, of_payload, Reads}
use Rattle.kn_packet.specs.Faults.{HasFault}
use Rattle.kn_packet.proofs.FieldLaws.{field_scans}
use Rattle.kn_packet.proofs.Entries.{field_begins}
use Rattle.kn_packet.proofs.Decisions.{decided_entry, decided_part}
use Rattle.kn_packet.proofs.Readings.{not_both}
use Rattle.kn_grpc.specs.Packets.{prepended, things_at, things_by, sound_entry, entry_for, member_with, part_by, part_for, packet_with, packet_in}

abbrev found_field : Field → List ℕ → Found Field
found_field field rest = found field rest

-- what was found first, and what is behind it
pub record Prepended {A : Type 0} (x : Option A) (xs : Option (List A)) (ys : List A) : Type 0 where
  pub first : A
  pub others : List A
  pub first-is : x ≡ Some first
  pub others-is : xs ≡ Some others
  pub all-is : first ∷ others ≡ ys

prepended_parts : {A : Type 0} (x : Option A) (xs : Option (List A)) (ys : List A) → prepended x xs ≡ Some ys → Prepended x xs ys
prepended_parts None xs ys e = absurd (cc)
prepended_parts (Some x) None ys e = absurd (cc)
prepended_parts (Some x) (Some xs) ys e = record { first = x; others = xs; first-is = refl; others-is = refl; all-is = cc }

nothing_by : {A : Type 0} (thing : Field → Option A) (fuel : ℕ) → things_by thing fuel [] ≡ Some []
nothing_by thing zero = refl
nothing_by thing (suc fuel) = refl

module _ {A : Type 0} (Spells : List ℕ → A → Type 0) (thing : Field → Option A)
    (some : (s : List ℕ) (x : A) → Spells s x → 0 < length s)
    (said : (s : List ℕ) (x : A) → Spells s x → (field : Field) × IsField s field × (thing field ≡ Some x))
    (says : (s : List ℕ) (field : Field) (x : A) → IsField s field → thing field ≡ Some x → Spells s x) where
  nothing_sound : (xs : List A) → Some [] ≡ Some xs → Joins Spells [] xs
  nothing_sound xs e = let z : [] ≡ xs = cc in subst (Joins Spells []) z refl

  sound_at : (fuel : ℕ) (bs : List ℕ) (f : Found Field) (xs : List A) → field_at bs ≡ f → 0 < length bs →
      ((cs : List ℕ) (ys : List A) → things_by thing fuel cs ≡ Some ys → Joins Spells cs ys) →
      things_at thing (things_by thing fuel) f ≡ Some xs → Joins Spells bs xs
  sound_at fuel bs (refused r) xs at n next e = absurd (cc)
  sound_at fuel bs (found field rest) xs at n next e =
      let p = prepended_parts (thing field) (things_by thing fuel rest) xs e in
      let b = field_begins bs rest field n at in
      subst (Joins Spells bs) p.all-is (b.spelled, rest, says b.spelled field p.first b.is_thing p.first-is, b.bytes-is, next rest p.others p.others-is)

  pub things_sound : (fuel : ℕ) (bs : List ℕ) (xs : List A) → things_by thing fuel bs ≡ Some xs → Joins Spells bs xs
  things_sound zero [] xs e = nothing_sound xs e
  things_sound (suc fuel) [] xs e = nothing_sound xs e
  things_sound zero (b ∷ bs) xs e = absurd (cc)
  things_sound (suc fuel) (b ∷ bs) xs e = sound_at fuel (b ∷ bs) (field_at (b ∷ bs)) xs refl (omega arith) (things_sound fuel) e

  pub things_complete : (fuel : ℕ) (bs : List ℕ) (xs : List A) → Joins Spells bs xs → length bs ≤ fuel → things_by thing fuel bs ≡ Some xs
  things_complete fuel bs [] j h = ap (things_by thing fuel) j ∙ nothing_by thing fuel
  things_complete zero bs (x ∷ xs) j h = absurd (omega (arith, some j.0 x j.2, ap length j.3, length-append j.0 j.1))
  things_complete (suc fuel) [] (x ∷ xs) j h = absurd (omega (arith, some j.0 x j.2, ap length j.3, length-append j.0 j.1))
  things_complete (suc fuel) (b ∷ bs) (x ∷ xs) j h =
      let f = said j.0 x j.2 in
      let at : field_at (b ∷ bs) ≡ found_field f.0 j.1 = ap field_at j.3 ∙ field_scans j.0 j.1 f.0 f.1 in
      let n = some j.0 x j.2 in
      let l = ap length j.3 ∙ length-append j.0 j.1 in
      let on = things_complete fuel j.1 xs j.4 (omega arith) in
      ap (things_at thing (things_by thing fuel)) at ∙ ap (λ o. prepended o (things_by thing fuel j.1)) f.2 ∙ ap (prepended (Some x)) on

-- ---- the fields of a payload

sound_some : (e : Entry) → IsSound e → sound_entry e ≡ Some e
sound_some (int64 number n) h = refl
sound_some (text number body) h = ap (λ b. cond b (Some (text number body)) None) (is_utf8-from_IsUtf8 body h)
sound_some (bytes number body) h = refl
sound_some skipped h = refl

sound_text : (b : Bool) (number : ℕ) (body : List ℕ) (x : Entry) → is_utf8 body ≡ b → cond b (Some (text number body)) None ≡ Some x → IsSound (text number body) × (x ≡ text number body)
sound_text true number body x e f = (IsUtf8-from_is_utf8 body e, cc)
sound_text false number body x e f = absurd (cc)

some_sound : (e x : Entry) → sound_entry e ≡ Some x → IsSound e × (x ≡ e)
some_sound (int64 number n) x f = (tt, cc)
some_sound (text number body) x f = sound_text (is_utf8 body) number body x refl f
some_sound (bytes number body) x f = (tt, cc)
some_sound skipped x f = (tt, cc)

entry_said : (payload : Payload) (s : List ℕ) (x : Entry) → IsEntry payload s x → (field : Field) × IsField s field × (entry_for payload field ≡ Some x)
entry_said payload s x h = (h.field, h.is_field, ap sound_entry (sym h.entry-is) ∙ sound_some x h.sound)

entry_says : (payload : Payload) (s : List ℕ) (field : Field) (x : Entry) → IsField s field → entry_for payload field ≡ Some x → IsEntry payload s x
entry_says payload s field x f e =
    let p = some_sound (entry_in payload field) x e in
    record { field = field; is_field = f; entry-is = p.1; sound = subst IsSound (sym p.1) p.0 }

entries_sound : (payload : Payload) (fuel : ℕ) (bs : List ℕ) (xs : List Entry) → things_by (entry_for payload) fuel bs ≡ Some xs → Joins (IsEntry payload) bs xs
entries_sound payload = things_sound (IsEntry payload) (entry_for payload) (decided_entry payload).some (entry_said payload) (entry_says payload)

entries_complete : (payload : Payload) (fuel : ℕ) (bs : List ℕ) (xs : List Entry) → Joins (IsEntry payload) bs xs → length bs ≤ fuel → things_by (entry_for payload) fuel bs ≡ Some xs
entries_complete payload = things_complete (IsEntry payload) (entry_for payload) (decided_entry payload).some (entry_said payload) (entry_says payload)

-- ---- the fields of a packet

part_said : (s : List ℕ) (x : Part) → IsPart s x → (field : Field) × IsField s field × (part_for field ≡ Some x)
part_said s x (of_plain field f none part-is) = (field, f, ap (λ (o : Option (Payload × List ℕ)). part_by o field) none ∙ ap Some (sym part-is))
part_said s x (of_payload field f payload body payload-is entries joined part-is) = (
  field,
  f,
  ap (λ (o : Option (Payload × List ℕ)). part_by o field) payload-is ∙ ap (member_with payload) (entries_complete payload (length body) body entries joined (omega arith)) ∙ ap Some (sym part-is),
)

member_says : (s : List ℕ) (field : Field) (x : Part) (payload : Payload) (body : List ℕ) (o : Option (List Entry)) → IsField s field → payload_in field ≡ Some (payload, body) →
    things_by (entry_for payload) (length body) body ≡ o → member_with payload o ≡ Some x → IsPart s x
member_says s field x payload body None f p e m = absurd (cc)
member_says s field x payload body (Some entries) f p e m = of_payload field f payload body p entries (entries_sound payload (length body) body entries e) (cc)

part_says_by : (s : List ℕ) (field : Field) (x : Part) (o : Option (Payload × List ℕ)) → IsField s field → payload_in field ≡ o → part_by o field ≡ Some x → IsPart s x
part_says_by s field x None f p e = of_plain field f p (cc)
part_says_by s field x (Some (payload, body)) f p e = member_says s field x payload body (things_by (entry_for payload) (length body) body) f p refl e

part_says : (s : List ℕ) (field : Field) (x : Part) → IsField s field → part_for field ≡ Some x → IsPart s x
part_says s field x f e = part_says_by s field x (payload_in field) f refl e

-- ---- the packet

reads_by : (bs : List ℕ) (p : Packet) (o : Option (List Part)) → things_by part_for (length bs) bs ≡ o → packet_with o ≡ Some p → Reads bs p
reads_by bs p None e m = absurd (cc)
reads_by bs p (Some parts) e m = record { parts = parts; joined = things_sound IsPart part_for decided_part.some part_said part_says (length bs) bs parts e; packet-is = cc }

pub packet_reads : (bs : List ℕ) (p : Packet) → packet_in bs ≡ Some p → Reads bs p
unfolding packet_in
packet_reads bs p e = reads_by bs p (things_by part_for (length bs) bs) refl e

pub reads_packet : (bs : List ℕ) (p : Packet) → Reads bs p → packet_in bs ≡ Some p
unfolding packet_in
reads_packet bs p r =
    ap packet_with (things_complete IsPart part_for decided_part.some part_said part_says (length bs) bs r.parts r.joined (omega arith)) ∙ ap Some (sym r.packet-is)

fault_by_none : (bs : List ℕ) (f : PacketFault) (o : Option Packet) → packet_in bs ≡ o → HasFault bs f → o ≡ None
fault_by_none bs f None e h = refl
fault_by_none bs f (Some p) e h = absurd (not_both bs p f (packet_reads bs p e) h)

-- bytes with a fault are no packet
pub fault_packet : (bs : List ℕ) (f : PacketFault) → HasFault bs f → packet_in bs ≡ None
fault_packet bs f h = fault_by_none bs f (packet_in bs) refl h
