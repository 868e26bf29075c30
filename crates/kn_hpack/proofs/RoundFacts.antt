-- What the encoder writes stands for the list.
use Rattle.std.proofs.Common.{◌≡◌, refl, sym, ◌∙◌, ap, ℕ, zero, suc, ◌+◌, ◌*◌, ◌-◌, ◌/◌, ◌%◌, ◌^◌, ◌<◌, ◌≤◌, inl, inr, Bool, true, false, ◌&&◌, List, [], ◌∷◌, ◌++◌, length, Option, Some, None, if◌then◌else◌, arith}
use Rattle.std.specs.List.{slice_get, flat_map, AllByRecursion}
use Rattle.std.specs.Cmp.Lexicographic.{same_text}
use Rattle.std.proofs.Math.Nat.{pow-suc}
use Rattle.std.proofs.lemmas.Nat.{div_below}
use Rattle.std.proofs.lemmas.Bool.{lt-ltb, le-ltb, cases_lt, and_parts}
use Rattle.std.proofs.lemmas.List.{append_assoc, append-nil}
use Rattle.std.proofs.lemmas.Option.{slice_get_within}
use Rattle.kn_hpack.specs.Integers.{IsTail, IsInteger}
use Rattle.kn_hpack.specs.Strings.{IsBytes, IsString}
use Rattle.kn_hpack.specs.Fields.{Field, Table, pair, size, total, resized}
use Rattle.kn_hpack.specs.StaticTable.{static_table, place_in, same}
use Rattle.kn_hpack.specs.Blocks.{progress}
use Rattle.kn_hpack.specs.Encoding.{tail_of, integer_of, plain, placed_or, field_text, block_of}
use Rattle.kn_hpack.specs.Representations.{Stands, AllStand}
use Rattle.kn_hpack.specs.RoundTrip.{table_after, EncodedIsBlock, DecoderGivesBack}
use Rattle.kn_hpack.specs.declared.representation.Kind.{Kind}
use Rattle.kn_hpack.specs.declared.representation.Kind.TheVariants.{Indexed, Resized, Plain}
use Rattle.kn_hpack.proofs.IndexFacts.{index_static, table_long}
use Rattle.kn_hpack.proofs.StepFacts.{block_is_read}

-- integers

spell : (b high n : ℕ) (text : List ℕ) → 128 ≤ b → b < 256 → n ≡ b - 128 + 128 * high → IsTail text high → IsTail (b ∷ text) n
spell b high n [] h l e i = absurd i
spell b high n (c ∷ cs) h l e i = (h, l, high, e, i)

record Spelled (k left n : ℕ) : Type 0 where
  tail : IsTail (tail_of left n) n
  short : length (tail_of left n) ≤ suc k

spelled_low : (k left n : ℕ) → n < 128 → Spelled k (suc left) n
unfolding tail_of
spelled_low k left n h = record { tail = (rw (lt-ltb n 128 h) (h, refl)); short = (rw (lt-ltb n 128 h) (omega arith)) }

spelled_high : (k left n : ℕ) → 128 ≤ n → Spelled k left (n / 128) → Spelled (suc k) (suc left) n
unfolding tail_of
spelled_high k left n h s = record {
  tail = (rw (le-ltb n 128 h) (spell (n % 128 + 128) (n / 128) n (tail_of left (n / 128)) (omega arith) (omega arith) (omega arith) s.tail));
  short = (rw (le-ltb n 128 h) (omega (arith, s.short)));
}

spelled : (k left n : ℕ) → n < 128 ^ suc k → k < left → Spelled k left n
spelled k zero n h l = absurd (omega arith)
spelled zero (suc left) n h l = let e : 128 ^ 1 ≡ 128 = refl in spelled_low zero left n (omega arith)
spelled (suc k) (suc left) n h l =
    elim (cases_lt n 128) [
      | inl low ↦ spelled_low (suc k) left n low
      | inr high ↦ spelled_high k left n high (spelled k left (n / 128) (div_below n 128 (128 ^ suc k) (omega arith) (omega (arith, pow-suc 128 (suc k)))) (omega arith))
    ]

pub integer_is : (kind top n : ℕ) → n ≤ 2147483647 → IsInteger kind top (integer_of kind top n) n
unfolding integer_of
integer_is kind top n h =
    elim (cases_lt n top) [
      | inl low ↦ (rw (lt-ltb n top low) (h, inl (low, refl, refl)))
      | inr high ↦ (let s = spelled 4 10 (n - top) (let p : 128 ^ 5 ≡ 34359738368 = refl in omega arith) (omega arith) in
          rw (le-ltb n top high) (h, inr (refl, s.short, n - top, omega arith, s.tail)))
    ]

-- strings

pub plain_is : (text : List ℕ) → IsBytes text → length text ≤ 2147483647 → IsString (plain text) text
unfolding plain
plain_is text i h = record {
  h = 0;
  head = integer_of 0 127 (length text);
  body = text;
  joined = refl;
  len = integer_is 0 127 (length text) h;
  means = inl (refl, refl);
  fits = i;
}

-- fields

record Found (xs : List Field) (from i : ℕ) (f : Field) : Type 0 where
  place : ℕ
  at : i ≡ from + place
  is : slice_get xs place ≡ Some f

abbrev number_some : ℕ → Option ℕ
number_some i = Some i

found_by : (t : Bool) (p : Field) (ps : List Field) (from i : ℕ) (f : Field) → (same p.name f.name && same p.value f.value) ≡ t
    → (if t then number_some from else place_in ps (from + 1) f) ≡ number_some i → (place_in ps (from + 1) f ≡ number_some i → Found ps (from + 1) i f) → Found (p ∷ ps) from i f
found_by true p ps from i f t e k =
    let s = and_parts (same p.name f.name) (same p.value f.value) t in
    let en : p.name ≡ f.name = same_text p.name f.name (sym s.0) in
    let ev : p.value ≡ f.value = same_text p.value f.value (sym s.1) in
    let ei : from ≡ i = cc in
    record { place = 0; at = omega arith; is = ap some_field (ap (λ (x : List ℕ). pair x p.value) en ∙ ap (λ (x : List ℕ). pair f.name x) ev) }
  where
    some_field : Field → Option Field
    some_field x = Some x
found_by false p ps from i f t e k = let r = k e in record { place = suc r.place; at = omega (arith, r.at); is = r.is }

found_in : (xs : List Field) (from i : ℕ) (f : Field) → place_in xs from f ≡ number_some i → Found xs from i f
unfolding place_in
found_in [] from i f e = absurd cc
found_in (p ∷ ps) from i f e = found_by (same p.name f.name && same p.value f.value) p ps from i f refl e (λ q. found_in ps (from + 1) i f q)

record Written (t : Table) (before : List Field) (f : Field) (text : List ℕ) : Type 0 where
  kind : Kind
  stands : Stands kind (progress t before) text (progress t (before ++ f ∷ []))

written_index : (t : Table) (before : List Field) (f : Field) (i : ℕ) → place_in static_table 0 f ≡ number_some i → Written t before f (integer_of 1 127 (i + 1))
written_index t before f i e =
    let r = found_in static_table 0 i f e in
    let at : i ≡ r.place = omega (arith, r.at) in
    let is : slice_get static_table i ≡ Some f = rw at r.is in
    let low : i < 61 = omega (arith, slice_get_within static_table i f is, table_long) in
    record {
      kind = Indexed;
      stands = (
        f,
        record {
          index = i + 1;
          spelled = integer_is 1 127 (i + 1) (omega arith);
          names = index_static t.fields (i + 1) i (omega arith) low ∙ is;
        },
        refl,
      );
    }

written_text : (t : Table) (before : List Field) (f : Field) → IsBytes f.name → IsBytes f.value → size f ≤ 16384 → Written t before f (0 ∷ (plain f.name ++ plain f.value))
written_text t before f n v h = record {
  kind = Plain;
  stands = (
    f,
    record {
      index = 0;
      head = 0 ∷ [];
      naming = plain f.name;
      valuing = plain f.value;
      joined = refl;
      spelled = (omega arith, inl (omega arith, refl, refl));
      named = inl (refl, plain_is f.name n (omega arith));
      valued = plain_is f.value v (omega arith);
    },
    refl,
  );
}

written_by : (o : Option ℕ) (t : Table) (before : List Field) (f : Field) → place_in static_table 0 f ≡ o → IsBytes f.name → IsBytes f.value → size f ≤ 16384 → Written t before f (placed_or o f)
written_by None t before f e n v h = written_text t before f n v h
written_by (Some i) t before f e n v h = written_index t before f i e

written : (t : Table) (before : List Field) (f : Field) → IsBytes f.name → IsBytes f.value → size f ≤ 16384 → Written t before f (field_text f)
unfolding field_text
written t before f n v h = written_by (place_in static_table 0 f) t before f refl n v h

record AllWritten (t : Table) (before fields : List Field) : Type 0 where
  kinds : List Kind
  stands : AllStand kinds (progress t before) (flat_map field_text fields) (progress t (before ++ fields))

all_written : (fields : List Field) (t : Table) (before : List Field) → AllByRecursion (λ f. IsBytes f.name × IsBytes f.value) fields → total fields ≤ 16384 → AllWritten t before fields
all_written [] t before i h = record { kinds = []; stands = (refl, ap (progress t) (append-nil before)) }
all_written (f ∷ fs) t before i h =
    let w = written t before f i.0.0 i.0.1 (omega arith) in
    let r = all_written fs t (before ++ f ∷ []) i.1 (omega arith) in
    record {
      kinds = w.kind ∷ r.kinds;
      stands = (
        field_text f,
        flat_map field_text fs,
        progress t (before ++ f ∷ []),
        refl,
        w.stands,
        (rw (append_assoc before (f ∷ []) fs) at r.stands),
      );
    }

pub encoded_is_block : EncodedIsBlock
unfolding block_of
encoded_is_block t true fields s = let r = all_written fields t [] s.bytes s.small in record { kinds = r.kinds; stands = r.stands; small = s.small }
encoded_is_block t false fields s =
    let r = all_written fields (resized t 0) [] s.bytes s.small in
    record {
      kinds = Resized ∷ r.kinds;
      stands = (32 ∷ [], flat_map field_text fields, progress (resized t 0) [], refl, (0, (omega arith, inl (omega arith, refl, refl)), omega arith, refl, refl), r.stands);
      small = s.small;
    }

pub decoder_gives_back : DecoderGivesBack
decoder_gives_back t wrote [] i = refl
decoder_gives_back t wrote (fields ∷ lists) i = (
  table_after wrote t,
  block_is_read t (table_after wrote t) (block_of wrote fields) fields (encoded_is_block t wrote fields i.0),
  decoder_gives_back (table_after wrote t) true lists i.1,
)
