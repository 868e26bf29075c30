-- The canonical spelling is in the grammar, field by field.
use Rattle.std.proofs.Common.{◌≡◌, ℕ, zero, suc, ◌<◌, ◌≤◌, ◌+◌, ◌*◌, ◌/◌, ◌%◌, ◌^◌, Bool, true, false, cond, ltb, eqb, List, [], ◌∷◌, ◌++◌, length, inl, inr, refl, sym, ap, ◌∙◌, append_assoc, arith}
use Rattle.std.proofs.Math.Nat.{pow-succ'}
use Rattle.std.proofs.lemmas.Bool.{ltb-true}
use Rattle.std.proofs.lemmas.List.{append-nil, length-append}
use Rattle.std.specs.Prelude.{IsUtf8}
use Rattle.kn_packet.specs.declared.payload.Payload.{Payload}
use Rattle.kn_packet.specs.declared.payload.FieldKind.{FieldKind}
use Rattle.kn_packet.specs.declared.payload.FieldKind.TheVariants.{Int64, Text, Bytes}
use Rattle.kn_packet.specs.Varints.{IsVarintWithin}
use Rattle.kn_packet.specs.Fields.{varint, delimited, Field, IsField}
use Rattle.kn_packet.specs.Payloads.{kind_of}
use Rattle.kn_packet.specs.Reading.{Joins, Entry, int64, text, bytes, entry_of, IsEntry}
use Rattle.kn_packet.specs.Spelling.{shortest, varint_of, tag, number_field, message_field, bytes_field}

-- ---- varints

varint_byte : (more n : ℕ) → IsVarintWithin more (shortest more (n / 128)) (n / 128) → (b : Bool) → ltb n 128 ≡ b → IsVarintWithin (suc more) (cond b (n ∷ []) ((n % 128 + 128) ∷ shortest more (n / 128))) n
unfolding IsVarintWithin
varint_byte more n behind true e = inl (ltb-true n 128 e, refl, refl)
varint_byte more n behind false e = inr (omega arith, n / 128, omega arith, behind)

pub shortest_is_varint : (more n : ℕ) → n < 2 * 128 ^ more → IsVarintWithin more (shortest more n) n
unfolding IsVarintWithin shortest
shortest_is_varint zero n small = (omega arith, refl, refl)
shortest_is_varint (suc more) n small =
    let power = pow-succ' 128 more in
    varint_byte more n (shortest_is_varint more (n / 128) (omega (arith, power))) (ltb n 128) refl

either_short : (b : Bool) (xs ys : List ℕ) (limit : ℕ) → length xs ≤ limit → length ys ≤ limit → length (cond b xs ys) ≤ limit
either_short true xs ys limit p q = p
either_short false xs ys limit p q = q

shortest_length : (more n : ℕ) → length (shortest more n) ≤ more + 1
unfolding shortest
shortest_length zero n = omega arith
shortest_length (suc more) n =
    let behind = shortest_length more (n / 128) in
    either_short (ltb n 128) (n ∷ []) ((n % 128 + 128) ∷ shortest more (n / 128)) (suc more + 1) (omega arith) (omega (arith, behind))

tag_bound : (number wire : ℕ) → length (tag number wire) ≤ 10
tag_bound number wire = shortest_length 9 (number * 8 + wire)

pub number_bound : (number n : ℕ) → length (number_field number n) ≤ 20
number_bound number n = either_short (eqb n 0) [] (tag number 0 ++ varint_of n) 20 (omega arith) (omega (arith, length-append (tag number 0) (varint_of n), tag_bound number 0, shortest_length 9 n))

pub bytes_bound : (number : ℕ) (body : List ℕ) → length (bytes_field number body) ≤ length body + 20
bytes_bound number body =
    either_short (eqb (length body) 0) [] (message_field number body) (length body + 20) (omega arith)
    (omega (arith, length-append (tag number 2 ++ varint_of (length body)) body, length-append (tag number 2) (varint_of (length body)), tag_bound number 2, shortest_length 9 (length body)))

-- ---- fields

abbrev pub number_said : ℕ → ℕ → Field
number_said number n = record { number = number; content = varint n }

abbrev pub bytes_said : ℕ → List ℕ → Field
bytes_said number body = record { number = number; content = delimited body }

pub number_spells : (number n : ℕ) → 0 < number → number < 16 → n < 2 ^ 64 → IsField (tag number 0 ++ varint_of n) (number_said number n)
number_spells number n some small fits = record {
  rest = varint_of n;
  tagged = record { tag = tag number 0; joined = refl; is_varint = shortest_is_varint 9 (number * 8 + 0) (omega arith); in_range = omega arith };
  numbered = some;
  content = shortest_is_varint 9 n fits;
}

pub message_spells : (number : ℕ) (body : List ℕ) → 0 < number → number < 16 → length body < 2 ^ 64 → IsField (message_field number body) (bytes_said number body)
message_spells number body some small fits = record {
  rest = varint_of (length body) ++ body;
  tagged = record { tag = tag number 2; joined = append_assoc (tag number 2) (varint_of (length body)) body; is_varint = shortest_is_varint 9 (number * 8 + 2) (omega arith); in_range = omega arith };
  numbered = some;
  content = (varint_of (length body), shortest_is_varint 9 (length body) fits, refl);
}

-- ---- lists

pub joins_one : {A : Type 0} (Spells : List ℕ → A → Type 0) (s : List ℕ) (x : A) → Spells s x → Joins Spells s (x ∷ [])
joins_one Spells s x h = (s, [], h, sym (append-nil s), refl)

pub joins_maybe : {A : Type 0} (Spells : List ℕ → A → Type 0) (s : List ℕ) (x : A) (b : Bool) → Spells s x → Joins Spells (cond b [] s) (cond b [] (x ∷ []))
joins_maybe Spells s x true h = refl
joins_maybe Spells s x false h = joins_one Spells s x h

pub joins_append : {A : Type 0} (Spells : List ℕ → A → Type 0) (a b : List ℕ) (xs ys : List A) → Joins Spells a xs → Joins Spells b ys → Joins Spells (a ++ b) (xs ++ ys)
joins_append Spells a b [] ys p q = (let gone : b ≡ a ++ b = sym (ap (λ (t : List ℕ). t ++ b) p) in rw (← gone) q)
joins_append Spells a b (x ∷ xs) ys p q =
    (p.0, p.1 ++ b, p.2, ap (λ (t : List ℕ). t ++ b) p.3 ∙ append_assoc p.0 p.1 b, joins_append Spells p.1 b xs ys p.4 q)

-- ---- the fields of a payload

abbrev pub int64_entries : ℕ → ℕ → List Entry
int64_entries number n = cond (eqb n 0) [] (int64 number n ∷ [])

abbrev pub text_entries : ℕ → List ℕ → List Entry
text_entries number body = cond (eqb (length body) 0) [] (text number body ∷ [])

abbrev pub bytes_entries : ℕ → List ℕ → List Entry
bytes_entries number body = cond (eqb (length body) 0) [] (bytes number body ∷ [])

pub int64_joins : (payload : Payload) (number n : ℕ) → kind_of payload number ≡ Int64 → 0 < number → number < 16 → n < 2 ^ 64 → Joins (IsEntry payload) (number_field number n) (int64_entries number n)
int64_joins payload number n kind some small fits =
    joins_maybe (IsEntry payload) (tag number 0 ++ varint_of n) (int64 number n) (eqb n 0)
    (record { field = number_said number n; is_field = number_spells number n some small fits; entry-is = sym (ap (λ (k : FieldKind). entry_of k number (varint n)) kind); sound = tt })

pub text_joins : (payload : Payload) (number : ℕ) (body : List ℕ) → kind_of payload number ≡ Text → 0 < number → number < 16 → length body < 2 ^ 64 → IsUtf8 body → Joins (IsEntry payload) (bytes_field number body) (text_entries number body)
text_joins payload number body kind some small fits utf8 =
    joins_maybe (IsEntry payload) (message_field number body) (text number body) (eqb (length body) 0)
    (record { field = bytes_said number body; is_field = message_spells number body some small fits; entry-is = sym (ap (λ (k : FieldKind). entry_of k number (delimited body)) kind); sound = utf8 })

pub bytes_joins : (payload : Payload) (number : ℕ) (body : List ℕ) → kind_of payload number ≡ Bytes → 0 < number → number < 16 → length body < 2 ^ 64 → Joins (IsEntry payload) (bytes_field number body) (bytes_entries number body)
bytes_joins payload number body kind some small fits =
    joins_maybe (IsEntry payload) (message_field number body) (bytes number body) (eqb (length body) 0)
    (record { field = bytes_said number body; is_field = message_spells number body some small fits; entry-is = sym (ap (λ (k : FieldKind). entry_of k number (delimited body)) kind); sound = tt })
