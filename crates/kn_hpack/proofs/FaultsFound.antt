-- The fault that is told is there.
use Rattle.std.proofs.Common.{◌≡◌, refl, sym, ◌∙◌, ap, ℕ, zero, suc, ◌+◌, ◌*◌, ◌-◌, ◌/◌, ◌%◌, ◌<◌, ◌≤◌, ◌==◌, ◌⊎◌, inl, inr, Bool, true, false, not, ◌||◌, nat_eq, nat_lt, List, [], ◌∷◌, ◌++◌, length, take, drop, Option, Some, None, Result, Ok, Err, if◌then◌else◌, arith}
use Rattle.std.proofs.lemmas.Bool.{ltb-true, ltb-false, eqb-true, eqb-false, cases_lt}
use Rattle.std.proofs.lemmas.List.{append_assoc, length-append, take-append-drop}
use Rattle.kn_hpack.specs.Faults.{◌>>=◌}
use Rattle.kn_hpack.specs.Integers.{IsInteger, tail_at, integer_at}
use Rattle.kn_hpack.specs.Codes.{bits_of}
use Rattle.kn_hpack.specs.Walks.{text_of}
use Rattle.kn_hpack.specs.Strings.{IsBytes, string_at, text_at}
use Rattle.kn_hpack.specs.Fields.{Field, Table, pair, total, added as with_one, resized}
use Rattle.kn_hpack.specs.Indexes.{field_at}
use Rattle.kn_hpack.specs.Blocks.{kind_of, found, indexed_at, name_at, literal_at, Progress, progress, is_none, limit_at, one_more, taken, step_of, step_at, placed, read_from, read_block}
use Rattle.kn_hpack.specs.Representations.{Stands, AllStand}
use Rattle.kn_hpack.specs.FirstFaults.{GoOn, IntegerFault, StringFault, NameFault, LiteralFault, KindFault, FaultIsThere, absent, unended, too_long, too_high, no_length, too_short, padding, ended, no_index, unknown, no_text, no_name, no_value, no_number, no_field, added, never, plain, no_limit, over_limit, too_large}
use Rattle.kn_hpack.specs.declared.fault.HpackReason.{HpackReason}
use Rattle.kn_hpack.specs.declared.fault.HpackReason.TheVariants.{Index, Integer, Padding, Eos, TableSize, Cut, TooLarge}
use Rattle.kn_hpack.specs.declared.fault.HpackFault.{HpackFault}
use Rattle.kn_hpack.specs.declared.representation.Kind.{Kind}
use Rattle.kn_hpack.specs.declared.representation.Kind.TheVariants.{Indexed, Added, Resized, Never, Plain}
use Rattle.kn_hpack.proofs.Reading.{a_value}
use Rattle.kn_hpack.proofs.IntegerFacts.{NumberRead, number, no_number as number_fault, tail_takes, integer_takes, TakesInteger, long_on}
use Rattle.kn_hpack.proofs.StringFacts.{string, a_text, text_on, bytes_bits, bytes_as, bytes_right, length_taken}
use Rattle.kn_hpack.proofs.HuffmanFacts.{text_faults, eos_is_there, padding_is_bad}
use Rattle.kn_hpack.proofs.StepFacts.{a_field, StepRead, a_step, ListRead, BlockRead, whole, starts_long, kind_indexed, kind_added, kind_resized, kind_never, kind_plain}
use Rattle.kn_hpack.proofs.TakeFacts.{indexed_takes, name_takes, literal_takes, step_takes, found_name, spelled_as}
use Rattle.kn_hpack.proofs.FaultsTold.{string_fault, text_fault, field_fault, step_fault, block_fault}

abbrev a_fault : {A : Type 0} → HpackReason → Result A HpackReason
a_fault r = Err r

-- a fault of what was read on behind something is of that, or of what was read behind it
bind_err : {A B : Type 0} (r : Result A HpackReason) (f : A → Result B HpackReason) (e : HpackReason) → (r >>= f) ≡ a_fault e → (r ≡ a_fault e) ⊎ ((x : A) × (r ≡ a_value x) × (f x ≡ a_fault e))
bind_err (Ok x) f e q = inr (x, refl, q)
bind_err (Err r) f e q = let z : r ≡ e = cc in inl (ap a_fault z)

-- integers

abbrev tail_on : ℕ → NumberRead → NumberRead
tail_on b r = r >>= λ x. Ok (b - 128 + 128 * x.0, x.1)

abbrev TailFault : ℕ → List ℕ → HpackReason → Type 0
TailFault left bs r = ((r ≡ Cut) × (length bs ≤ left) × GoOn bs)
    ⊎ ((r ≡ Integer) × (front : List ℕ) × (rest : List ℕ) × (bs ≡ front ++ rest) × (length front ≡ left) × GoOn front × (0 < length rest))

number_reason : (a b : HpackReason) → number_fault a ≡ number_fault b → b ≡ a
number_reason a b e = cc

no_number_fault : (n : ℕ) (rest : List ℕ) (r : HpackReason) → number n rest ≡ number_fault r → ⊥
no_number_fault n rest r e = absurd cc

tail_longer : (left b : ℕ) (bs : List ℕ) (r : HpackReason) → 128 ≤ b → TailFault left bs r → TailFault (suc left) (b ∷ bs) r
tail_longer left b bs r h (inl x) = inl (x.0, omega (arith, x.1), (h, x.2))
tail_longer left b bs r h (inr y) = inr (y.0, b ∷ y.1, y.2, ap (λ (xs : List ℕ). b ∷ xs) y.3, ap suc y.4, (h, y.5), y.6)

tail_by : (t : Bool) (left b : ℕ) (bs : List ℕ) (r : HpackReason) → nat_lt b 128 ≡ t → (if t then number b bs else tail_on b (tail_at left bs)) ≡ number_fault r
    → ((s : HpackReason) → tail_at left bs ≡ number_fault s → TailFault left bs s) → TailFault (suc left) (b ∷ bs) r
tail_by true left b bs r t e f = absurd (no_number_fault b bs r e)
tail_by false left b bs r t e f =
    elim (bind_err (tail_at left bs) (λ x. Ok (b - 128 + 128 * x.0, x.1)) r e) [
      | inl q ↦ tail_longer left b bs r (ltb-false b 128 t) (f r q)
      | inr x ↦ absurd (no_number_fault (b - 128 + 128 * x.0.0) x.0.1 r x.2)
    ]

tail_found : (left : ℕ) (bs : List ℕ) (r : HpackReason) → tail_at left bs ≡ number_fault r → TailFault left bs r
unfolding tail_at
tail_found left [] r e = inl (number_reason Cut r e, omega arith, tt)
tail_found zero (b ∷ bs) r e = inr (number_reason Integer r e, [], b ∷ bs, refl, refl, tt, omega arith)
tail_found (suc left) (b ∷ bs) r e = tail_by (nat_lt b 128) left b bs r refl e (λ s q. tail_found left bs s q)

integer_as : (top : ℕ) (bytes : List ℕ) (r s : HpackReason) → s ≡ r → IntegerFault top bytes s → IntegerFault top bytes r
integer_as top bytes r s e i = rw e at i

tail_fault : (top b : ℕ) (bs : List ℕ) (r : HpackReason) → top ≤ b % suc top → TailFault 5 bs r → IntegerFault top (b ∷ bs) r
tail_fault top b bs r h (inl x) = integer_as top (b ∷ bs) r Cut (sym x.0) (unended top b bs h x.1 x.2)
tail_fault top b bs r h (inr y) = integer_as top (b ∷ bs) r Integer (sym y.0) (too_long top b bs y.1 y.2 h y.3 y.4 y.5 y.6)

high_by : (t : Bool) (top b : ℕ) (bs : List ℕ) (r : HpackReason) (x : ℕ × List ℕ) → top ≤ b % suc top → IsBytes bs → tail_at 5 bs ≡ a_value x → nat_lt 2147483647 (top + x.0) ≡ t
    → (if t then number_fault Integer else number (top + x.0) x.1) ≡ number_fault r → IntegerFault top (b ∷ bs) r
high_by true top b bs r x h i q t e =
    let k = tail_takes 5 bs x.0 x.1 i q in
    integer_as top (b ∷ bs) r Integer (sym (number_reason Integer r e)) (too_high top b x.0 bs k.text x.1 h k.joined k.short k.spelled (ltb-true 2147483647 (top + x.0) t))
high_by false top b bs r x h i q t e = absurd (no_number_fault (top + x.0) x.1 r e)

integer_by : (t : Bool) (top b : ℕ) (bs : List ℕ) (r : HpackReason) → IsBytes bs → nat_lt (b % suc top) top ≡ t → (if t then number (b % suc top) bs else long_on top (tail_at 5 bs)) ≡ number_fault r
    → IntegerFault top (b ∷ bs) r
integer_by true top b bs r i t e = absurd (no_number_fault (b % suc top) bs r e)
integer_by false top b bs r i t e =
    let h : top ≤ b % suc top = ltb-false (b % suc top) top t in
    elim (bind_err (tail_at 5 bs) (λ x. if nat_lt 2147483647 (top + x.0) then Err Integer else Ok (top + x.0, x.1)) r e) [
      | inl q ↦ tail_fault top b bs r h (tail_found 5 bs r q)
      | inr x ↦ high_by (nat_lt 2147483647 (top + x.0.0)) top b bs r x.0 h i x.1 refl x.2
    ]

pub integer_found : (top : ℕ) (bytes : List ℕ) (r : HpackReason) → IsBytes bytes → integer_at top bytes ≡ number_fault r → IntegerFault top bytes r
unfolding integer_at
integer_found top [] r i e = integer_as top [] r Cut (sym (number_reason Cut r e)) (absent top)
integer_found top (b ∷ bs) r i e = integer_by (nat_lt (b % suc top) top) top b bs r i.1 refl e

-- strings

string_reason : (a b : HpackReason) → string_fault a ≡ string_fault b → b ≡ a
string_reason a b e = cc

no_string_fault : (text rest : List ℕ) (r : HpackReason) → string text rest ≡ string_fault r → ⊥
no_string_fault text rest r e = absurd cc

no_text_fault : (text : List ℕ) (r : HpackReason) → a_text text ≡ text_fault r → ⊥
no_text_fault text r e = absurd cc

string_as : (bytes : List ℕ) (r s : HpackReason) → s ≡ r → StringFault bytes s → StringFault bytes r
string_as bytes r s e i = rw e at i

coded_as : (b n : ℕ) (text body : List ℕ) → b < 256 → 128 ≤ b → length body ≡ n → IsInteger (b / 128) 127 text n → IsInteger 1 127 text (length body)
coded_as b n text body l h e i = let one : b / 128 ≡ 1 = omega arith in rw e (spelled_as 1 127 b n text one i)

coded_by : (t : Bool) (b n : ℕ) (bytes text body rest : List ℕ) (r : HpackReason) → b < 256 → nat_lt b 128 ≡ t → bytes ≡ text ++ (body ++ rest) → length body ≡ n → IsInteger (b / 128) 127 text n
    → (if t then a_text body else text_of (bits_of body)) ≡ text_fault r → StringFault bytes r
coded_by true b n bytes text body rest r l t j len i e = absurd (no_text_fault body r e)
coded_by false b n bytes text body rest r l t j len i e =
    let spelled : IsInteger 1 127 text (length body) = coded_as b n text body l (ltb-false b 128 t) len i in
    elim (text_faults (bits_of body) r (bytes_bits body) e) [
      | inl eos ↦ string_as bytes r Eos (sym eos) (ended bytes text body rest j spelled (eos_is_there (bits_of body) (bytes_bits body) (e ∙ ap text_fault eos)))
      | inr pad ↦ string_as bytes r Padding (sym pad) (padding bytes text body rest j spelled (padding_is_bad (bits_of body) (bytes_bits body) (e ∙ ap text_fault pad)))
    ]

text_found : (b n : ℕ) (bytes text body rest : List ℕ) (r : HpackReason) → b < 256 → bytes ≡ text ++ (body ++ rest) → length body ≡ n → IsInteger (b / 128) 127 text n → text_at b body ≡ text_fault r → StringFault bytes r
unfolding text_at
text_found b n bytes text body rest r l j len i e = coded_by (nat_lt b 128) b n bytes text body rest r l refl j len i e

cut_by : (t : Bool) (b n : ℕ) (bytes text after : List ℕ) (r : HpackReason) → b < 256 → nat_lt (length after) n ≡ t → bytes ≡ text ++ after → IsInteger (b / 128) 127 text n
    → (if t then string_fault Cut else text_on (drop n after) (text_at b (take n after))) ≡ string_fault r → StringFault bytes r
cut_by true b n bytes text after r l t j i e = string_as bytes r Cut (sym (string_reason Cut r e)) (too_short (b / 128) n bytes text after j i (ltb-true (length after) n t))
cut_by false b n bytes text after r l t j i e =
    elim (bind_err (text_at b (take n after)) (λ x. Ok (x, drop n after)) r e) [
      | inl q ↦ text_found b n bytes text (take n after) (drop n after) r l (j ∙ ap (λ (xs : List ℕ). text ++ xs) (sym (take-append-drop n after))) (length_taken n after (ltb-false (length after) n t)) i q
      | inr x ↦ absurd (no_string_fault x.0 (drop n after) r x.2)
    ]

pub string_found : (bytes : List ℕ) (r : HpackReason) → IsBytes bytes → string_at bytes ≡ string_fault r → StringFault bytes r
unfolding string_at
string_found [] r i e = no_length [] r (integer_as 127 [] r Cut (sym (string_reason Cut r e)) (absent 127))
string_found (b ∷ bs) r i e =
    elim (bind_err (integer_at 127 (b ∷ bs)) (λ n. if nat_lt (length n.1) n.0 then Err Cut else (text_at b (take n.0 n.1) >>= λ t. Ok (t, drop n.0 n.1))) r e) [
      | inl q ↦ no_length (b ∷ bs) r (integer_found 127 (b ∷ bs) r i q)
      | inr x ↦ let k = integer_takes 127 b bs x.0.0 x.0.1 (omega arith) i.1 x.1 in
          cut_by (nat_lt (length x.0.1) x.0.0) b x.0.0 (b ∷ bs) k.text x.0.1 r i.0 refl k.joined k.spelled x.2
    ]

-- names and literals

name_as : (kind top : ℕ) (t : Table) (bytes : List ℕ) (r s : HpackReason) → s ≡ r → NameFault kind top t bytes s → NameFault kind top t bytes r
name_as kind top t bytes r s e i = rw e at i

none_found : (o : Option Field) (r : HpackReason) → found o ≡ a_fault r → (o ≡ None) × (r ≡ Index)
none_found None r e = (refl, cc)
none_found (Some f) r e = absurd cc

zero_as : (kind top n : ℕ) (text : List ℕ) → n ≡ 0 → IsInteger kind top text n → IsInteger kind top text 0
zero_as kind top n text e i = rw e at i

name_by : (z : Bool) (t : Table) (top first n : ℕ) (bytes after : List ℕ) (r : HpackReason) → IsBytes after → TakesInteger top first bytes n after → nat_eq n 0 ≡ z
    → (if z then string_at after else found_name t n after) ≡ string_fault r → NameFault (first / suc top) top t bytes r
name_by true t top first n bytes after r i k z e =
    no_text (first / suc top) top t bytes k.text after r k.joined (zero_as (first / suc top) top n k.text (eqb-true n 0 z) k.spelled) (string_found after r i e)
name_by false t top first n bytes after r i k z e =
    let some : n ≡ 0 → ⊥ = eqb-false n 0 z in
    elim (bind_err (found (field_at t n)) (λ f. Ok (f.name, after)) r e) [
      | inl q ↦ let o = none_found (field_at t n) r q in
          name_as (first / suc top) top t bytes r Index (sym o.1) (unknown (first / suc top) top n t bytes k.text after k.joined k.spelled (omega arith) o.0)
      | inr x ↦ absurd (no_string_fault x.0.name after r x.2)
    ]

name_found : (t : Table) (top b : ℕ) (bs : List ℕ) (r : HpackReason) → top ≤ 127 → IsBytes (b ∷ bs) → name_at t top (b ∷ bs) ≡ string_fault r → NameFault (b / suc top) top t (b ∷ bs) r
unfolding name_at
name_found t top b bs r small i e =
    elim (bind_err (integer_at top (b ∷ bs)) (λ n. if n.0 == 0 then string_at n.1 else (found (field_at t n.0) >>= λ f. Ok (f.name, n.1))) r e) [
      | inl q ↦ no_index (b / suc top) top t (b ∷ bs) r (integer_found top (b ∷ bs) r i q)
      | inr x ↦ let k = integer_takes top b bs x.0.0 x.0.1 small i.1 x.1 in
          name_by (nat_eq x.0.0 0) t top b x.0.0 (b ∷ bs) x.0.1 r (bytes_right k.text x.0.1 (bytes_as (b ∷ bs) (k.text ++ x.0.1) k.joined i)) k refl x.2
    ]

literal_as : (kind other top : ℕ) (t : Table) (bytes : List ℕ) (r : HpackReason) → other ≡ kind → LiteralFault other top t bytes r → LiteralFault kind top t bytes r
literal_as kind other top t bytes r e i = rw e at i

no_field_fault : (f : Field) (rest : List ℕ) (r : HpackReason) → a_field f rest ≡ field_fault r → ⊥
no_field_fault f rest r e = absurd cc

literal_found : (kind top : ℕ) (t : Table) (b : ℕ) (bs : List ℕ) (r : HpackReason) → top ≤ 127 → IsBytes (b ∷ bs) → b / suc top ≡ kind → literal_at t top (b ∷ bs) ≡ field_fault r → LiteralFault kind top t (b ∷ bs) r
unfolding literal_at
literal_found kind top t b bs r small i h e =
    literal_as kind (b / suc top) top t (b ∷ bs) r h
    (elim (bind_err (name_at t top (b ∷ bs)) (λ n. string_at n.1 >>= λ v. Ok (pair n.0 v.0, v.1)) r e) [
      | inl q ↦ no_name (b / suc top) top t (b ∷ bs) r (name_found t top b bs r small i q)
      | inr x ↦ let n = name_takes t top b bs x.0.0 x.0.1 small i x.1 in
          elim (bind_err (string_at x.0.1) (λ v. Ok (pair x.0.0 v.0, v.1)) r x.2) [
            | inl q ↦ no_value (b / suc top) top n.index t (b ∷ bs) n.head n.naming x.0.0 x.0.1 r n.joined n.spelled n.named
                (string_found x.0.1 r (bytes_right n.naming x.0.1 (bytes_right n.head (n.naming ++ x.0.1) (bytes_as (b ∷ bs) (n.head ++ (n.naming ++ x.0.1)) n.joined i))) q)
            | inr v ↦ absurd (no_field_fault (pair x.0.0 v.0.0) v.0.1 r v.2)
          ]
    ])

-- representations

kind_reason : (k : Kind) (p : Progress) (bytes : List ℕ) (r s : HpackReason) → s ≡ r → KindFault k p bytes s → KindFault k p bytes r
kind_reason k p bytes r s e i = rw e at i

abbrev list_fault : HpackReason → ListRead
list_fault r = Err r

abbrev a_list : List Field → ListRead
a_list fs = Ok fs

large_by : (z : Bool) (n : ℕ) (fs : List Field) (r : HpackReason) → nat_lt 16384 n ≡ z → (if z then list_fault TooLarge else a_list fs) ≡ list_fault r → (16384 < n) × (r ≡ TooLarge)
large_by true n fs r z e = (ltb-true 16384 n z, cc)
large_by false n fs r z e = absurd cc

large_found : (fs : List Field) (f : Field) (r : HpackReason) → one_more fs f ≡ list_fault r → (16384 < total (fs ++ f ∷ [])) × (r ≡ TooLarge)
unfolding one_more
large_found fs f r e = large_by (nat_lt 16384 (total (fs ++ f ∷ []))) (total (fs ++ f ∷ [])) (fs ++ f ∷ []) r refl e

no_step_fault : (q : Progress) (rest : List ℕ) (r : HpackReason) → a_step q rest ≡ step_fault r → ⊥
no_step_fault q rest r e = absurd cc

taken_found : (fs : List Field) (t : Table) (f : Field) (rest : List ℕ) (r : HpackReason) → taken fs t (f, rest) ≡ step_fault r → (16384 < total (fs ++ f ∷ [])) × (r ≡ TooLarge)
taken_found fs t f rest r e =
    elim (bind_err (one_more fs f) (λ gs. Ok (progress t gs, rest)) r e) [
      | inl q ↦ large_found fs f r q
      | inr x ↦ absurd (no_step_fault (progress t x.0) rest r x.2)
    ]

indexed_found : (p : Progress) (b : ℕ) (bs : List ℕ) (r : HpackReason) → IsBytes (b ∷ bs) → 128 ≤ b → indexed_at p.table (b ∷ bs) ≡ field_fault r → KindFault Indexed p (b ∷ bs) r
unfolding indexed_at
indexed_found p b bs r i h e =
    let small : b < 256 = i.0 in
    elim (bind_err (integer_at 127 (b ∷ bs)) (λ n. found (field_at p.table n.0) >>= λ f. Ok (f, n.1)) r e) [
      | inl q ↦ no_number p (b ∷ bs) r (integer_found 127 (b ∷ bs) r i q)
      | inr x ↦ let k = integer_takes 127 b bs x.0.0 x.0.1 (omega arith) i.1 x.1 in
          elim (bind_err (found (field_at p.table x.0.0)) (λ f. Ok (f, x.0.1)) r x.2) [
            | inl q ↦ let o = none_found (field_at p.table x.0.0) r q in
                kind_reason Indexed p (b ∷ bs) r Index (sym o.1) (no_field p x.0.0 (b ∷ bs) k.text x.0.1 k.joined (spelled_as 1 127 b x.0.0 k.text (omega arith) k.spelled) o.0)
            | inr y ↦ absurd (no_field_fault y.0 x.0.1 r y.2)
          ]
    ]

step_indexed : (p : Progress) (b : ℕ) (bs : List ℕ) (r : HpackReason) → IsBytes (b ∷ bs) → 128 ≤ b → step_of Indexed p (b ∷ bs) ≡ step_fault r → KindFault Indexed p (b ∷ bs) r
step_indexed p b bs r i h e =
    elim (bind_err (indexed_at p.table (b ∷ bs)) (λ x. taken p.fields p.table x) r e) [
      | inl q ↦ indexed_found p b bs r i h q
      | inr x ↦ let t = indexed_takes p.table b bs x.0.0 x.0.1 i h x.1 in
          let l = taken_found p.fields p.table x.0.0 x.0.1 r x.2 in
          kind_reason Indexed p (b ∷ bs) r TooLarge (sym l.1)
          (too_large Indexed p (progress p.table (p.fields ++ x.0.0 ∷ [])) (b ∷ bs) t.text x.0.1 t.joined (x.0.0, t.is, refl) l.0)
    ]

step_added : (p : Progress) (b : ℕ) (bs : List ℕ) (r : HpackReason) → IsBytes (b ∷ bs) → b / 64 ≡ 1 → step_of Added p (b ∷ bs) ≡ step_fault r → KindFault Added p (b ∷ bs) r
step_added p b bs r i h e =
    elim (bind_err (literal_at p.table 63 (b ∷ bs)) (λ x. taken p.fields (with_one p.table x.0) x) r e) [
      | inl q ↦ added p (b ∷ bs) r (literal_found 1 63 p.table b bs r (omega arith) i h q)
      | inr x ↦ let t = literal_takes 1 63 p.table b bs x.0.0 x.0.1 (omega arith) i h x.1 in
          let l = taken_found p.fields (with_one p.table x.0.0) x.0.0 x.0.1 r x.2 in
          kind_reason Added p (b ∷ bs) r TooLarge (sym l.1)
          (too_large Added p (progress (with_one p.table x.0.0) (p.fields ++ x.0.0 ∷ [])) (b ∷ bs) t.text x.0.1 t.joined (x.0.0, t.is, refl) l.0)
    ]

step_never : (p : Progress) (b : ℕ) (bs : List ℕ) (r : HpackReason) → IsBytes (b ∷ bs) → b / 16 ≡ 1 → step_of Never p (b ∷ bs) ≡ step_fault r → KindFault Never p (b ∷ bs) r
step_never p b bs r i h e =
    elim (bind_err (literal_at p.table 15 (b ∷ bs)) (λ x. taken p.fields p.table x) r e) [
      | inl q ↦ never p (b ∷ bs) r (literal_found 1 15 p.table b bs r (omega arith) i h q)
      | inr x ↦ let t = literal_takes 1 15 p.table b bs x.0.0 x.0.1 (omega arith) i h x.1 in
          let l = taken_found p.fields p.table x.0.0 x.0.1 r x.2 in
          kind_reason Never p (b ∷ bs) r TooLarge (sym l.1)
          (too_large Never p (progress p.table (p.fields ++ x.0.0 ∷ [])) (b ∷ bs) t.text x.0.1 t.joined (x.0.0, t.is, refl) l.0)
    ]

step_plain : (p : Progress) (b : ℕ) (bs : List ℕ) (r : HpackReason) → IsBytes (b ∷ bs) → b / 16 ≡ 0 → step_of Plain p (b ∷ bs) ≡ step_fault r → KindFault Plain p (b ∷ bs) r
step_plain p b bs r i h e =
    elim (bind_err (literal_at p.table 15 (b ∷ bs)) (λ x. taken p.fields p.table x) r e) [
      | inl q ↦ plain p (b ∷ bs) r (literal_found 0 15 p.table b bs r (omega arith) i h q)
      | inr x ↦ let t = literal_takes 0 15 p.table b bs x.0.0 x.0.1 (omega arith) i h x.1 in
          let l = taken_found p.fields p.table x.0.0 x.0.1 r x.2 in
          kind_reason Plain p (b ∷ bs) r TooLarge (sym l.1)
          (too_large Plain p (progress p.table (p.fields ++ x.0.0 ∷ [])) (b ∷ bs) t.text x.0.1 t.joined (x.0.0, t.is, refl) l.0)
    ]

limit_by : (x : Bool) (fields : List Field) (m : ℕ) (after : List ℕ) (r : HpackReason) → nat_lt 4096 m ≡ x → (if x || not (is_none fields) then number_fault TableSize else number m after) ≡ number_fault r
    → (r ≡ TableSize) × ((4096 < m) ⊎ (0 < length fields))
limit_by true fields m after r x e = (number_reason TableSize r e, inl (ltb-true 4096 m x))
limit_by false [] m after r x e = absurd (no_number_fault m after r e)
limit_by false (f ∷ fs) m after r x e = (number_reason TableSize r e, inr (omega arith))

limit_found : (p : Progress) (b : ℕ) (bs : List ℕ) (r : HpackReason) → IsBytes (b ∷ bs) → b / 32 ≡ 1 → limit_at p.fields (b ∷ bs) ≡ number_fault r → KindFault Resized p (b ∷ bs) r
unfolding limit_at
limit_found p b bs r i h e =
    elim (bind_err (integer_at 31 (b ∷ bs)) (λ n. if nat_lt 4096 n.0 || not (is_none p.fields) then Err TableSize else Ok n) r e) [
      | inl q ↦ no_limit p (b ∷ bs) r (integer_found 31 (b ∷ bs) r i q)
      | inr x ↦ let k = integer_takes 31 b bs x.0.0 x.0.1 (omega arith) i.1 x.1 in
          let l = limit_by (nat_lt 4096 x.0.0) p.fields x.0.0 x.0.1 r refl x.2 in
          kind_reason Resized p (b ∷ bs) r TableSize (sym l.0) (over_limit p x.0.0 (b ∷ bs) k.text x.0.1 k.joined (spelled_as 1 31 b x.0.0 k.text h k.spelled) l.1)
    ]

step_resized : (p : Progress) (b : ℕ) (bs : List ℕ) (r : HpackReason) → IsBytes (b ∷ bs) → b / 32 ≡ 1 → step_of Resized p (b ∷ bs) ≡ step_fault r → KindFault Resized p (b ∷ bs) r
step_resized p b bs r i h e =
    elim (bind_err (limit_at p.fields (b ∷ bs)) (λ n. Ok (progress (resized p.table n.0) p.fields, n.1)) r e) [
      | inl q ↦ limit_found p b bs r i h q
      | inr x ↦ absurd (no_step_fault (progress (resized p.table x.0.0) p.fields) x.0.1 r x.2)
    ]

step_same : (k : Kind) (p : Progress) (b : ℕ) (bs : List ℕ) (r : HpackReason) → kind_of b ≡ k → step_at p (b ∷ bs) ≡ step_fault r → step_of k p (b ∷ bs) ≡ step_fault r
unfolding step_at
step_same k p b bs r h e = sym (ap (λ (x : Kind). step_of x p (b ∷ bs)) h) ∙ e

of_kind : (k : Kind) (p : Progress) (b : ℕ) (bs : List ℕ) (r : HpackReason) → kind_of b ≡ k → KindFault k p (b ∷ bs) r → KindFault (kind_of b) p (b ∷ bs) r
of_kind k p b bs r h i = rw h i

pub step_found : (p : Progress) (b : ℕ) (bs : List ℕ) (r : HpackReason) → IsBytes (b ∷ bs) → step_at p (b ∷ bs) ≡ step_fault r → KindFault (kind_of b) p (b ∷ bs) r
step_found p b bs r i e =
    let small : b < 256 = i.0 in
    elim (cases_lt b 128) [
      | inr h ↦ of_kind Indexed p b bs r (kind_indexed b h) (step_indexed p b bs r i h (step_same Indexed p b bs r (kind_indexed b h) e))
      | inl l1 ↦ elim (cases_lt b 64) [
        | inr h ↦ let k : kind_of b ≡ Added = kind_added b h (omega arith) in of_kind Added p b bs r k (step_added p b bs r i (omega arith) (step_same Added p b bs r k e))
        | inl l2 ↦ elim (cases_lt b 32) [
          | inr h ↦ let k : kind_of b ≡ Resized = kind_resized b h (omega arith) in of_kind Resized p b bs r k (step_resized p b bs r i (omega arith) (step_same Resized p b bs r k e))
          | inl l3 ↦ elim (cases_lt b 16) [
            | inr h ↦ let k : kind_of b ≡ Never = kind_never b h (omega arith) in of_kind Never p b bs r k (step_never p b bs r i (omega arith) (step_same Never p b bs r k e))
            | inl l4 ↦ let k : kind_of b ≡ Plain = kind_plain b (omega arith) in of_kind Plain p b bs r k (step_plain p b bs r i (omega arith) (step_same Plain p b bs r k e))
          ]
        ]
      ]
    ]

-- blocks

record Found (len : ℕ) (p : Progress) (bytes : List ℕ) (f : HpackFault) : Type 0 where
  kinds : List Kind
  before : Progress
  front : List ℕ
  first : ℕ
  rest : List ℕ
  joined : bytes ≡ front ++ first ∷ rest
  stands : AllStand kinds p front before
  small : total before.fields ≤ 16384
  place : f.place ≡ len - suc (length rest)
  fault : KindFault (kind_of first) before (first ∷ rest) f.reason

abbrev here : ℕ → HpackReason → HpackFault
here place r = record { place = place; reason = r }

placed_err : (place : ℕ) (r : StepRead) (g : Progress × List ℕ → BlockRead) (f : HpackFault) → placed place r g ≡ block_fault f
    → ((s : HpackReason) × (r ≡ step_fault s) × (here place s ≡ f)) ⊎ ((x : Progress × List ℕ) × (r ≡ a_value x) × (g x ≡ block_fault f))
placed_err place (Ok x) g f e = inr (x, refl, e)
placed_err place (Err s) g f e = inl (s, refl, cc)

found_here : (len : ℕ) (p : Progress) (b : ℕ) (bs : List ℕ) (f : HpackFault) (s : HpackReason) → total p.fields ≤ 16384 → KindFault (kind_of b) p (b ∷ bs) s → here (len - suc (length bs)) s ≡ f → Found len p (b ∷ bs) f
found_here len p b bs f s small k e = record {
  kinds = [];
  before = p;
  front = [];
  first = b;
  rest = bs;
  joined = refl;
  stands = (refl, refl);
  small = small;
  place = sym (ap (λ (x : HpackFault). x.place) e);
  fault = kind_reason (kind_of b) p (b ∷ bs) f.reason s (ap (λ (x : HpackFault). x.reason) e) k;
}

found_later : (len : ℕ) (p q : Progress) (bytes text more : List ℕ) (k : Kind) (f : HpackFault) → bytes ≡ text ++ more → Stands k p text q → Found len q more f → Found len p bytes f
found_later len p q bytes text more k f j s r = record {
  kinds = k ∷ r.kinds;
  before = r.before;
  front = text ++ r.front;
  first = r.first;
  rest = r.rest;
  joined = j ∙ (ap (λ (xs : List ℕ). text ++ xs) r.joined ∙ sym (append_assoc text r.front (r.first ∷ r.rest)));
  stands = (text, r.front, q, refl, s, r.stands);
  small = r.small;
  place = r.place;
  fault = r.fault;
}

not_a_fault : (p : Progress) (f : HpackFault) → whole p ≡ block_fault f → ⊥
not_a_fault p f e = absurd cc

all_found : (steps len : ℕ) (p : Progress) (bytes : List ℕ) (f : HpackFault) → IsBytes bytes → length bytes ≤ steps → total p.fields ≤ 16384 → read_from len steps p bytes ≡ block_fault f → Found len p bytes f
unfolding read_from
all_found steps len p [] f i l h e = absurd (not_a_fault p f e)
all_found zero len p (b ∷ bs) f i l h e = absurd (omega arith)
all_found (suc k) len p (b ∷ bs) f i l h e =
    elim (placed_err (len - length (b ∷ bs)) (step_at p (b ∷ bs)) (λ x. read_from len k x.0 x.1) f e) [
      | inl x ↦ found_here len p b bs f x.0 h (step_found p b bs x.0 i x.1) x.2
      | inr x ↦ let s = step_takes p b bs x.0.0 x.0.1 i x.1 in
          let count : suc (length bs) ≡ length s.text + length x.0.1 = ap (λ (xs : List ℕ). length xs) s.joined ∙ length-append s.text x.0.1 in
          let long : 0 < length s.text = starts_long s.kind p s.text x.0.0 s.stands in
          found_later len p x.0.0 (b ∷ bs) s.text x.0.1 s.kind f s.joined s.stands
          (all_found k len x.0.0 x.0.1 f (bytes_right s.text x.0.1 (bytes_as (b ∷ bs) (s.text ++ x.0.1) s.joined i)) (omega arith) (s.small h) x.2)
    ]

pub fault_is_there : FaultIsThere
unfolding read_block
fault_is_there t bytes f i e =
    let r = all_found (length bytes) (length bytes) (progress t []) bytes f i (omega arith) (omega arith) e in
    let count : length bytes ≡ length r.front + suc (length r.rest) = ap (λ (xs : List ℕ). length xs) r.joined ∙ length-append r.front (r.first ∷ r.rest) in
    record {
      kinds = r.kinds;
      before = r.before;
      front = r.front;
      first = r.first;
      rest = r.rest;
      joined = r.joined;
      stands = r.stands;
      small = r.small;
      place = omega (arith, r.place);
      fault = r.fault;
    }
