-- What is read of a block is what it stands for.
use Rattle.std.proofs.Common.{◌≡◌, refl, sym, ◌∙◌, ap, ℕ, zero, suc, ◌+◌, ◌-◌, ◌/◌, ◌<◌, ◌≤◌, ◌==◌, inl, inr, Bool, true, false, not, ◌||◌, nat_eq, nat_lt, List, [], ◌∷◌, ◌++◌, length, Option, Some, None, Result, Ok, Err, if◌then◌else◌, arith}
use Rattle.std.proofs.lemmas.Bool.{ltb-false, eqb-true, eqb-false, cases_lt}
use Rattle.std.proofs.lemmas.List.{append_assoc, length-append}
use Rattle.kn_hpack.specs.Faults.{◌>>=◌}
use Rattle.kn_hpack.specs.Integers.{IsInteger, integer_at}
use Rattle.kn_hpack.specs.Strings.{IsBytes, IsString, string_at}
use Rattle.kn_hpack.specs.Fields.{Field, Table, pair, total, added, resized}
use Rattle.kn_hpack.specs.Indexes.{field_at}
use Rattle.kn_hpack.specs.Blocks.{kind_of, found, indexed_at, name_at, literal_at, Progress, progress, is_none, limit_at, one_more, taken, step_of, step_at, placed, read_from, read_block}
use Rattle.kn_hpack.specs.Representations.{IsIndexed, IsNamed, IsLiteral, Stands, AllStand, ReadIsBlock, FaultIsNoBlock, BlockIsOne}
use Rattle.kn_hpack.specs.declared.fault.HpackReason.{HpackReason}
use Rattle.kn_hpack.specs.declared.fault.HpackReason.TheVariants.{TableSize, TooLarge}
use Rattle.kn_hpack.specs.declared.fault.HpackFault.{HpackFault}
use Rattle.kn_hpack.specs.declared.representation.Kind.{Kind}
use Rattle.kn_hpack.specs.declared.representation.Kind.TheVariants.{Indexed, Added, Resized, Never, Plain}
use Rattle.kn_hpack.proofs.Reading.{a_value, bind_ok, first_is, second_is}
use Rattle.kn_hpack.proofs.IntegerFacts.{NumberRead, number, integer_takes, TakesInteger}
use Rattle.kn_hpack.proofs.StringFacts.{StringRead, string, string_takes, bytes_as, bytes_right}
use Rattle.kn_hpack.proofs.StepFacts.{a_field, StepRead, a_step, BlockRead, whole, starts_long, kind_indexed, kind_added, kind_resized, kind_never, kind_plain, block_is_read}

-- a name, a value or a field at the front

pub record TakesIndexed (t : Table) (bytes : List ℕ) (f : Field) (rest : List ℕ) : Type 0 where
  pub text : List ℕ
  pub joined : bytes ≡ text ++ rest
  pub is : IsIndexed t text f

found_some : (o : Option Field) (f : Field) → found o ≡ a_value f → o ≡ Some f
found_some None f e = absurd cc
found_some (Some x) f e = cc

pub spelled_as : (kind top first n : ℕ) (text : List ℕ) → first / suc top ≡ kind → IsInteger (first / suc top) top text n → IsInteger kind top text n
spelled_as kind top first n text e i = rw e at i

pub indexed_takes : (t : Table) (b : ℕ) (bs : List ℕ) (f : Field) (rest : List ℕ) → IsBytes (b ∷ bs) → 128 ≤ b → indexed_at t (b ∷ bs) ≡ a_field f rest → TakesIndexed t (b ∷ bs) f rest
unfolding indexed_at
indexed_takes t b bs f rest i h e =
    let g = bind_ok (integer_at 127 (b ∷ bs)) (λ n. found (field_at t n.0) >>= λ x. Ok (x, n.1)) (f, rest) e in
    let k = bind_ok (found (field_at t g.0.0)) (λ x. Ok (x, g.0.1)) (f, rest) g.2 in
    let ef : k.0 ≡ f = first_is k.0 f g.0.1 rest k.2 in
    let er : g.0.1 ≡ rest = second_is k.0 f g.0.1 rest k.2 in
    let n = integer_takes 127 b bs g.0.0 g.0.1 (omega arith) i.1 g.1 in
    let small : b < 256 = i.0 in
    record {
      text = n.text;
      joined = n.joined ∙ ap (λ (xs : List ℕ). n.text ++ xs) er;
      is = record {
        index = g.0.0;
        spelled = spelled_as 1 127 b g.0.0 n.text (omega arith) n.spelled;
        names = found_some (field_at t g.0.0) k.0 k.1 ∙ ap (λ (x : Field). some x) ef;
      };
    }
  where
    some : Field → Option Field
    some x = Some x

pub record TakesName (t : Table) (top first : ℕ) (bytes name rest : List ℕ) : Type 0 where
  pub index : ℕ
  pub head : List ℕ
  pub naming : List ℕ
  pub joined : bytes ≡ head ++ (naming ++ rest)
  pub spelled : IsInteger (first / suc top) top head index
  pub named : IsNamed t index naming name

abbrev pub found_name : Table → ℕ → List ℕ → StringRead
found_name t n rest = found (field_at t n) >>= λ f. Ok (f.name, rest)

name_by : (z : Bool) (t : Table) (top first n : ℕ) (bytes after name rest : List ℕ) → IsBytes after → TakesInteger top first bytes n after → nat_eq n 0 ≡ z
    → (if z then string_at after else found_name t n after) ≡ string name rest → TakesName t top first bytes name rest
name_by true t top first n bytes after name rest i k z e =
    let s = string_takes after name rest i e in
    record {
      index = n;
      head = k.text;
      naming = s.part;
      joined = k.joined ∙ ap (λ (xs : List ℕ). k.text ++ xs) s.joined;
      spelled = k.spelled;
      named = inl (eqb-true n 0 z, s.spelled);
    }
name_by false t top first n bytes after name rest i k z e =
    let g = bind_ok (found (field_at t n)) (λ f. Ok (f.name, after)) (name, rest) e in
    let en : g.0.name ≡ name = first_is g.0.name name after rest g.2 in
    let er : after ≡ rest = second_is g.0.name name after rest g.2 in
    let some : n ≡ 0 → ⊥ = eqb-false n 0 z in
    record {
      index = n;
      head = k.text;
      naming = [];
      joined = k.joined ∙ ap (λ (xs : List ℕ). k.text ++ xs) er;
      spelled = k.spelled;
      named = inr (omega arith, refl, g.0, found_some (field_at t n) g.0 g.1, en);
    }

pub name_takes : (t : Table) (top b : ℕ) (bs name rest : List ℕ) → top ≤ 127 → IsBytes (b ∷ bs) → name_at t top (b ∷ bs) ≡ string name rest → TakesName t top b (b ∷ bs) name rest
unfolding name_at
name_takes t top b bs name rest small i e =
    let g = bind_ok (integer_at top (b ∷ bs)) (λ n. if n.0 == 0 then string_at n.1 else (found (field_at t n.0) >>= λ f. Ok (f.name, n.1))) (name, rest) e in
    let k = integer_takes top b bs g.0.0 g.0.1 small i.1 g.1 in
    let all : IsBytes (k.text ++ g.0.1) = bytes_as (b ∷ bs) (k.text ++ g.0.1) k.joined i in
    name_by (nat_eq g.0.0 0) t top b g.0.0 (b ∷ bs) g.0.1 name rest (bytes_right k.text g.0.1 all) k refl g.2

pub record TakesLiteral (kind top : ℕ) (t : Table) (bytes : List ℕ) (f : Field) (rest : List ℕ) : Type 0 where
  pub text : List ℕ
  pub joined : bytes ≡ text ++ rest
  pub is : IsLiteral kind top t text f

named_as : (t : Table) (index : ℕ) (naming name other : List ℕ) → name ≡ other → IsNamed t index naming name → IsNamed t index naming other
named_as t index naming name other e i = rw e at i

string_as : (part text other : List ℕ) → text ≡ other → IsString part text → IsString part other
string_as part text other e i = rw e at i

pub literal_takes : (kind top : ℕ) (t : Table) (b : ℕ) (bs : List ℕ) (f : Field) (rest : List ℕ) → top ≤ 127 → IsBytes (b ∷ bs) → b / suc top ≡ kind → literal_at t top (b ∷ bs) ≡ a_field f rest → TakesLiteral kind top t (b ∷ bs) f rest
unfolding literal_at
literal_takes kind top t b bs f rest small i h e =
    let g = bind_ok (name_at t top (b ∷ bs)) (λ n. string_at n.1 >>= λ v. Ok (pair n.0 v.0, v.1)) (f, rest) e in
    let v = bind_ok (string_at g.0.1) (λ x. Ok (pair g.0.0 x.0, x.1)) (f, rest) g.2 in
    let ef : pair g.0.0 v.0.0 ≡ f = first_is (pair g.0.0 v.0.0) f v.0.1 rest v.2 in
    let er : v.0.1 ≡ rest = second_is (pair g.0.0 v.0.0) f v.0.1 rest v.2 in
    let n = name_takes t top b bs g.0.0 g.0.1 small i g.1 in
    let all : IsBytes (n.head ++ (n.naming ++ g.0.1)) = bytes_as (b ∷ bs) (n.head ++ (n.naming ++ g.0.1)) n.joined i in
    let s = string_takes g.0.1 v.0.0 v.0.1 (bytes_right n.naming g.0.1 (bytes_right n.head (n.naming ++ g.0.1) all)) v.1 in
    record {
      text = n.head ++ (n.naming ++ s.part);
      joined = n.joined ∙ (ap (λ (xs : List ℕ). n.head ++ (n.naming ++ xs)) (s.joined ∙ ap (λ (xs : List ℕ). s.part ++ xs) er)
          ∙ (ap (λ (xs : List ℕ). n.head ++ xs) (sym (append_assoc n.naming s.part rest)) ∙ sym (append_assoc n.head (n.naming ++ s.part) rest)));
      is = record {
        index = n.index;
        head = n.head;
        naming = n.naming;
        valuing = s.part;
        joined = refl;
        spelled = spelled_as kind top b n.index n.head h n.spelled;
        named = named_as t n.index n.naming g.0.0 f.name (ap (λ (x : Field). x.name) ef) n.named;
        valued = string_as s.part v.0.0 f.value (ap (λ (x : Field). x.value) ef) s.spelled;
      };
    }

-- one representation

pub record TakesStep (p : Progress) (bytes : List ℕ) (q : Progress) (rest : List ℕ) : Type 0 where
  pub kind : Kind
  pub text : List ℕ
  pub joined : bytes ≡ text ++ rest
  pub stands : Stands kind p text q
  pub small : total p.fields ≤ 16384 → total q.fields ≤ 16384

record Taken (fields : List Field) (t : Table) (f : Field) (after : List ℕ) (q : Progress) (rest : List ℕ) : Type 0 where
  is : q ≡ progress t (fields ++ f ∷ [])
  left : after ≡ rest
  small : total q.fields ≤ 16384

abbrev pub ListRead : Type 0
ListRead = Result (List Field) HpackReason

abbrev a_list : List Field → ListRead
a_list fs = Ok fs

abbrev no_list : HpackReason → ListRead
no_list r = Err r

one_more_by : (z : Bool) (n : ℕ) (fs gs : List Field) → nat_lt 16384 n ≡ z → (if z then no_list TooLarge else a_list fs) ≡ a_list gs → (fs ≡ gs) × (n ≤ 16384)
one_more_by true n fs gs z e = absurd cc
one_more_by false n fs gs z e = (cc, ltb-false 16384 n z)

one_more_ok : (fs : List Field) (f : Field) (gs : List Field) → one_more fs f ≡ a_list gs → (fs ++ f ∷ [] ≡ gs) × (total (fs ++ f ∷ []) ≤ 16384)
unfolding one_more
one_more_ok fs f gs e = one_more_by (nat_lt 16384 (total (fs ++ f ∷ []))) (total (fs ++ f ∷ [])) (fs ++ f ∷ []) gs refl e

taken_ok : (fields : List Field) (t : Table) (f : Field) (after : List ℕ) (q : Progress) (rest : List ℕ) → taken fields t (f, after) ≡ a_step q rest → Taken fields t f after q rest
taken_ok fields t f after q rest e =
    let g = bind_ok (one_more fields f) (λ fs. Ok (progress t fs, after)) (q, rest) e in
    let o = one_more_ok fields f g.0 g.1 in
    let eq : progress t g.0 ≡ q = first_is (progress t g.0) q after rest g.2 in
    let same : q ≡ progress t (fields ++ f ∷ []) = sym (ap (progress t) o.0 ∙ eq) in
    record { is = same; left = second_is (progress t g.0) q after rest g.2; small = omega (arith, o.1, ap (λ (r : Progress). total r.fields) same) }

left_as : (bytes text after rest : List ℕ) → after ≡ rest → bytes ≡ text ++ after → bytes ≡ text ++ rest
left_as bytes text after rest e j = rw e at j

step_indexed : (p : Progress) (b : ℕ) (bs : List ℕ) (q : Progress) (rest : List ℕ) → IsBytes (b ∷ bs) → 128 ≤ b → step_of Indexed p (b ∷ bs) ≡ a_step q rest → TakesStep p (b ∷ bs) q rest
step_indexed p b bs q rest i h e =
    let g = bind_ok (indexed_at p.table (b ∷ bs)) (λ x. taken p.fields p.table x) (q, rest) e in
    let t = indexed_takes p.table b bs g.0.0 g.0.1 i h g.1 in
    let k = taken_ok p.fields p.table g.0.0 g.0.1 q rest g.2 in
    record { kind = Indexed; text = t.text; joined = left_as (b ∷ bs) t.text g.0.1 rest k.left t.joined; stands = (g.0.0, t.is, k.is); small = λ _. k.small }

step_added : (p : Progress) (b : ℕ) (bs : List ℕ) (q : Progress) (rest : List ℕ) → IsBytes (b ∷ bs) → b / 64 ≡ 1 → step_of Added p (b ∷ bs) ≡ a_step q rest → TakesStep p (b ∷ bs) q rest
step_added p b bs q rest i h e =
    let g = bind_ok (literal_at p.table 63 (b ∷ bs)) (λ x. taken p.fields (added p.table x.0) x) (q, rest) e in
    let t = literal_takes 1 63 p.table b bs g.0.0 g.0.1 (omega arith) i h g.1 in
    let k = taken_ok p.fields (added p.table g.0.0) g.0.0 g.0.1 q rest g.2 in
    record { kind = Added; text = t.text; joined = left_as (b ∷ bs) t.text g.0.1 rest k.left t.joined; stands = (g.0.0, t.is, k.is); small = λ _. k.small }

step_never : (p : Progress) (b : ℕ) (bs : List ℕ) (q : Progress) (rest : List ℕ) → IsBytes (b ∷ bs) → b / 16 ≡ 1 → step_of Never p (b ∷ bs) ≡ a_step q rest → TakesStep p (b ∷ bs) q rest
step_never p b bs q rest i h e =
    let g = bind_ok (literal_at p.table 15 (b ∷ bs)) (λ x. taken p.fields p.table x) (q, rest) e in
    let t = literal_takes 1 15 p.table b bs g.0.0 g.0.1 (omega arith) i h g.1 in
    let k = taken_ok p.fields p.table g.0.0 g.0.1 q rest g.2 in
    record { kind = Never; text = t.text; joined = left_as (b ∷ bs) t.text g.0.1 rest k.left t.joined; stands = (g.0.0, t.is, k.is); small = λ _. k.small }

step_plain : (p : Progress) (b : ℕ) (bs : List ℕ) (q : Progress) (rest : List ℕ) → IsBytes (b ∷ bs) → b / 16 ≡ 0 → step_of Plain p (b ∷ bs) ≡ a_step q rest → TakesStep p (b ∷ bs) q rest
step_plain p b bs q rest i h e =
    let g = bind_ok (literal_at p.table 15 (b ∷ bs)) (λ x. taken p.fields p.table x) (q, rest) e in
    let t = literal_takes 0 15 p.table b bs g.0.0 g.0.1 (omega arith) i h g.1 in
    let k = taken_ok p.fields p.table g.0.0 g.0.1 q rest g.2 in
    record { kind = Plain; text = t.text; joined = left_as (b ∷ bs) t.text g.0.1 rest k.left t.joined; stands = (g.0.0, t.is, k.is); small = λ _. k.small }

abbrev no_number : HpackReason → NumberRead
no_number r = Err r

limit_by : (x : Bool) (fields : List Field) (m n : ℕ) (after rest : List ℕ) → nat_lt 4096 m ≡ x → (if x || not (is_none fields) then no_number TableSize else number m after) ≡ number n rest
    → (m ≤ 4096) × (fields ≡ []) × (m ≡ n) × (after ≡ rest)
limit_by true fields m n after rest x e = absurd cc
limit_by false (f ∷ fs) m n after rest x e = absurd cc
limit_by false [] m n after rest x e = (ltb-false 4096 m x, refl, first_is m n after rest e, second_is m n after rest e)

limit_ok : (fields : List Field) (b n : ℕ) (bs rest : List ℕ) → limit_at fields (b ∷ bs) ≡ number n rest → (integer_at 31 (b ∷ bs) ≡ number n rest) × (n ≤ 4096) × (fields ≡ [])
unfolding limit_at
limit_ok fields b n bs rest e =
    let g = bind_ok (integer_at 31 (b ∷ bs)) (λ x. if nat_lt 4096 x.0 || not (is_none fields) then Err TableSize else Ok x) (n, rest) e in
    let l = limit_by (nat_lt 4096 g.0.0) fields g.0.0 n g.0.1 rest refl g.2 in
    (g.1 ∙ (ap (λ (m : ℕ). number m g.0.1) l.2 ∙ ap (λ (xs : List ℕ). number n xs) l.3), omega (arith, l.0, l.2), l.1)

step_resized : (p : Progress) (b : ℕ) (bs : List ℕ) (q : Progress) (rest : List ℕ) → IsBytes (b ∷ bs) → b / 32 ≡ 1 → step_of Resized p (b ∷ bs) ≡ a_step q rest → TakesStep p (b ∷ bs) q rest
step_resized p b bs q rest i h e =
    let g = bind_ok (limit_at p.fields (b ∷ bs)) (λ n. Ok (progress (resized p.table n.0) p.fields, n.1)) (q, rest) e in
    let l = limit_ok p.fields b g.0.0 bs g.0.1 g.1 in
    let n = integer_takes 31 b bs g.0.0 g.0.1 (omega arith) i.1 l.0 in
    let eq : progress (resized p.table g.0.0) p.fields ≡ q = first_is (progress (resized p.table g.0.0) p.fields) q g.0.1 rest g.2 in
    let er : g.0.1 ≡ rest = second_is (progress (resized p.table g.0.0) p.fields) q g.0.1 rest g.2 in
    let same : q ≡ progress (resized p.table g.0.0) [] = sym eq ∙ ap (progress (resized p.table g.0.0)) l.2 in
    let small : b < 256 = i.0 in
    let none : total q.fields ≡ 0 = ap (λ (r : Progress). total r.fields) same in
    record {
      kind = Resized;
      text = n.text;
      joined = left_as (b ∷ bs) n.text g.0.1 rest er n.joined;
      stands = (g.0.0, spelled_as 1 31 b g.0.0 n.text h n.spelled, l.1, l.2, same);
      small = λ _. omega (arith, none);
    }

pub step_as : (k : Kind) (p : Progress) (b : ℕ) (bs : List ℕ) (q : Progress) (rest : List ℕ) → kind_of b ≡ k → step_at p (b ∷ bs) ≡ a_step q rest → step_of k p (b ∷ bs) ≡ a_step q rest
unfolding step_at
step_as k p b bs q rest h e = sym (ap (λ (x : Kind). step_of x p (b ∷ bs)) h) ∙ e

pub step_takes : (p : Progress) (b : ℕ) (bs : List ℕ) (q : Progress) (rest : List ℕ) → IsBytes (b ∷ bs) → step_at p (b ∷ bs) ≡ a_step q rest → TakesStep p (b ∷ bs) q rest
step_takes p b bs q rest i e =
    let small : b < 256 = i.0 in
    elim (cases_lt b 128) [
      | inr h ↦ step_indexed p b bs q rest i h (step_as Indexed p b bs q rest (kind_indexed b h) e)
      | inl l1 ↦ elim (cases_lt b 64) [
        | inr h ↦ step_added p b bs q rest i (omega arith) (step_as Added p b bs q rest (kind_added b h (omega arith)) e)
        | inl l2 ↦ elim (cases_lt b 32) [
          | inr h ↦ step_resized p b bs q rest i (omega arith) (step_as Resized p b bs q rest (kind_resized b h (omega arith)) e)
          | inl l3 ↦ elim (cases_lt b 16) [
            | inr h ↦ step_never p b bs q rest i (omega arith) (step_as Never p b bs q rest (kind_never b h (omega arith)) e)
            | inl l4 ↦ step_plain p b bs q rest i (omega arith) (step_as Plain p b bs q rest (kind_plain b (omega arith)) e)
          ]
        ]
      ]
    ]

-- blocks

pub record TakesAll (p : Progress) (bytes : List ℕ) (q : Progress) : Type 0 where
  pub kinds : List Kind
  pub stands : AllStand kinds p bytes q
  pub small : total q.fields ≤ 16384

placed_ok : (place : ℕ) (r : StepRead) (f : Progress × List ℕ → BlockRead) (q : Progress) → placed place r f ≡ whole q → (x : Progress × List ℕ) × (r ≡ a_value x) × (f x ≡ whole q)
placed_ok place (Ok x) f q e = (x, refl, e)
placed_ok place (Err r) f q e = absurd cc

none_left : (p : Progress) (q : Progress) → whole p ≡ whole q → total p.fields ≤ 16384 → TakesAll p [] q
none_left p q e h = let same : p ≡ q = cc in record { kinds = []; stands = (refl, sym same); small = omega (arith, ap (λ (r : Progress). total r.fields) same) }

all_takes : (steps len : ℕ) (p : Progress) (bytes : List ℕ) (q : Progress) → IsBytes bytes → length bytes ≤ steps → total p.fields ≤ 16384 → read_from len steps p bytes ≡ whole q → TakesAll p bytes q
unfolding read_from
all_takes steps len p [] q i l h e = none_left p q e h
all_takes zero len p (b ∷ bs) q i l h e = absurd (omega arith)
all_takes (suc k) len p (b ∷ bs) q i l h e =
    let g = placed_ok (len - length (b ∷ bs)) (step_at p (b ∷ bs)) (λ x. read_from len k x.0 x.1) q e in
    let s = step_takes p b bs g.0.0 g.0.1 i g.1 in
    let all : IsBytes (s.text ++ g.0.1) = bytes_as (b ∷ bs) (s.text ++ g.0.1) s.joined i in
    let count : suc (length bs) ≡ length s.text + length g.0.1 = ap (λ (xs : List ℕ). length xs) s.joined ∙ length-append s.text g.0.1 in
    let long : 0 < length s.text = starts_long s.kind p s.text g.0.0 s.stands in
    let r = all_takes k len g.0.0 g.0.1 q (bytes_right s.text g.0.1 all) (omega arith) (s.small h) g.2 in
    record { kinds = s.kind ∷ r.kinds; stands = (s.text, g.0.1, g.0.0, s.joined, s.stands, r.stands); small = r.small }

pub read_is_block : ReadIsBlock
unfolding read_block
read_is_block t u bytes fields i e =
    let r = all_takes (length bytes) (length bytes) (progress t []) bytes (progress u fields) i (omega arith) (omega arith) e in
    record { kinds = r.kinds; stands = r.stands; small = r.small }

-- one meaning

abbrev faulty : HpackFault → BlockRead
faulty f = Err f

no_fault : (f : HpackFault) (q : Progress) → faulty f ≡ whole q → ⊥
no_fault f q e = absurd cc

pub fault_is_no_block : FaultIsNoBlock
fault_is_no_block t u bytes fields f e b = no_fault f (progress u fields) (sym e ∙ block_is_read t u bytes fields b)

same_whole : (p q : Progress) → whole p ≡ whole q → p ≡ q
same_whole p q e = cc

pub block_is_one : BlockIsOne
block_is_one t u v bytes fields others b c =
    let e : progress u fields ≡ progress v others = same_whole (progress u fields) (progress v others) (sym (block_is_read t u bytes fields b) ∙ block_is_read t v bytes others c) in
    (ap (λ (r : Progress). r.fields) e, ap (λ (r : Progress). r.table) e)
