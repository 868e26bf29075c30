-- Entries in an ordered map by their numbers, and the ordered maps that find them by other keys.
use Rattle.std.proofs.Common.{◌≡◌, ℕ, ℤ, ◌+◌, ◌-◌, ◌<◌, ◌≤◌, Bool, true, false, cond, eqb, ltb, List, [], ◌∷◌, Option, Some, None, Ordering, sym, refl, ap, ◌∙◌, subst, arith, length}
use Rattle.std.specs.declared.cmp.Ordering.TheVariants.{Less, Equal, Greater}
use Rattle.std.specs.Ordering.{nat_cmp, int_cmp, is_eq, ordering_then, match_ordering}
use Rattle.std.specs.Cmp.{IsTotalOrder, Equal-is}
use Rattle.std.specs.List.{AllByRecursion}
use Rattle.std.specs.List.Sorted.{IsStrictlySortedBy}
use Rattle.std.specs.Map.{keys_of, values_of, remove_entry}
use Rattle.std.specs.BTreeMap.{is_at, insert_entry}
use Rattle.std.proofs.lemmas.Map.{lookup-none, NonePasses}
use Rattle.std.proofs.lemmas.Map.Entries.{lookup_head, lookup_tail, none_past_head, none_below_head}
use Rattle.std.proofs.lemmas.Map.Keys.{sorted_head, sorted_tail, IsDistinct-from_sorted}
use Rattle.std.proofs.lemmas.Map.Lookups.{CmpEqualImpliesEq, exact_unsigned, exact_signed, exact_pairs}
use Rattle.std.proofs.lemmas.Cmp.{tied_itself, eq_by_cmp_equiv, nat_cmp_total, int_cmp_total, ranked, on_total, then_total}
use Rattle.std.proofs.lemmas.Bool.Decides.{nat_tests}
use Rattle.std.specs.BTreeMap.{BTreeMap, get}
use Rattle.std.specs.BTreeMap.Range.{IsRangeOf}
use Rattle.std.specs.declared.ops.Bound.TheVariants.{Included, Unbounded}
use Rattle.std.proofs.lemmas.Map.Keys.{le_from_not_gt}
use Rattle.std.specs.Ordering.{is_gt}
use Rattle.std.specs.Map.{set_value}
use Rattle.std.proofs.Common.{map}
use Rattle.kn_tables.specs.Lists.{first_where, count_where, without, in_place, AreAbove, IsRising}
use Rattle.kn_tables.specs.Indexed.{at_number, at_key, hits, FirstSignedAt, entry_at, told, IsKeyed, Indexes, pair_cmp, signed_pair_cmp, FirstAt}

-- ---- keys
pub own_key : {K : Type 0} (cmp : K → K → Ordering) → IsTotalOrder cmp → (k : K) → is_at (cmp k) k ≡ true
own_key cmp total k = rw (tied_itself total k) refl

pub same_key : {K : Type 0} (cmp : K → K → Ordering) → CmpEqualImpliesEq cmp → (a b : K) → is_at (cmp a) b ≡ true → a ≡ b
same_key cmp exact a b h = exact a b ((Equal-is (cmp a b)).0 h)

pub own_number : (q : ℕ) → is_at (nat_cmp q) q ≡ true
own_number q = own_key nat_cmp nat_cmp_total q

pub same_number : (a b : ℕ) → is_at (nat_cmp a) b ≡ true → a ≡ b
same_number a b h = same_key nat_cmp exact_unsigned a b h

pub number_test : (q n k : ℕ) → n ≡ k → is_at (nat_cmp q) k ≡ eqb n q
number_test q n k e = grind (arith, nat_tests)

-- ---- the entries of a map by number, one by one
-- each entry is what a look-up finds
abbrev pub AreFound : {E : Type 0} → (ℕ → Option E) → List (ℕ × E) → Type 0
AreFound find [] = Unit {0}
AreFound find (x ∷ xs) = (find x.0 ≡ Some x.1) × AreFound find xs

pub past_head : {E : Type 0} (q : ℕ) (x : ℕ × E) (xs : List (ℕ × E)) (v : E) → IsStrictlySortedBy nat_cmp (keys_of (x ∷ xs)) → at_number xs q ≡ Some v → (b : Bool) → is_at (nat_cmp q) x.0 ≡ b → b ≡ false
past_head q x xs v s f true e = let n = lookup-none (is_at (nat_cmp q)) xs (none_past_head (eq_by_cmp_equiv nat_cmp_total) q x xs (IsDistinct-from_sorted nat_cmp (keys_of (x ∷ xs)) s) e) in cc
past_head q x xs v s f false e = refl

found_in : {E : Type 0} (find : ℕ → Option E) (es : List (ℕ × E)) → IsStrictlySortedBy nat_cmp (keys_of es) → ((q : ℕ) (v : E) → at_number es q ≡ Some v → find q ≡ Some v) → AreFound find es
found_in find [] s h = tt
found_in find (x ∷ xs) s h = (
  h x.0 x.1 (lookup_head (is_at (nat_cmp x.0)) x xs (own_number x.0)),
  found_in find xs (sorted_tail nat_cmp x.0 (keys_of xs) s) (λ q v f. h q v (lookup_tail (is_at (nat_cmp q)) x xs (past_head q x xs v s f (is_at (nat_cmp q) x.0) refl) ∙ f)),
)

pub all_found : {E : Type 0} (es : List (ℕ × E)) → IsStrictlySortedBy nat_cmp (keys_of es) → AreFound (at_number es) es
all_found es s = found_in (at_number es) es s (λ q v f. f)

pub first_none : {E : Type 0} (find : ℕ → Option E) (p : E → Bool) (es : List (ℕ × E)) → AreFound find es → ((q : ℕ) (v : E) → find q ≡ Some v → p v ≡ false) → first_where p (values_of es) ≡ None
first_none find p [] f h = refl
first_none find p (x ∷ xs) f h = rw (h x.0 x.1 f.0) (first_none find p xs f.1 h)

below_none : {E : Type 0} (q : ℕ) (x : ℕ × E) (xs : List (ℕ × E)) → IsStrictlySortedBy nat_cmp (keys_of (x ∷ xs)) → q < x.0 → at_number (x ∷ xs) q ≡ None
below_none q x xs s l = let less : nat_cmp q x.0 ≡ Less = grind (arith, nat_tests) in lookup-none (is_at (nat_cmp q)) (x ∷ xs) (none_below_head nat_cmp_total q x xs s less)

below_test : (q k : ℕ) → q ≤ k → is_at (nat_cmp q) k ≡ false → q < k
below_test q k l e = grind (arith, nat_tests)

first_here : {E : Type 0} (p : E → Bool) (q : ℕ) (v : E) (x : ℕ × E) (xs : List (ℕ × E)) → IsStrictlySortedBy nat_cmp (keys_of (x ∷ xs)) → p v ≡ true
    → (b : Bool) → is_at (nat_cmp q) x.0 ≡ b → cond b (Some x.1) (at_number xs q) ≡ Some v
    → (c : Bool) → p x.1 ≡ c → (c ≡ true → q ≤ x.0)
    → (at_number xs q ≡ Some v → first_where p (values_of xs) ≡ Some v)
    → cond c (Some x.1) (first_where p (values_of xs)) ≡ Some v
first_here p q v x xs s t true e h true pe least later = h
first_here p q v x xs s t true e h false pe least later = cc
first_here p q v x xs s t false e h true pe least later =
    let n : at_number (x ∷ xs) q ≡ None = below_none q x xs s (below_test q x.0 (least refl) e) in
    let m : at_number (x ∷ xs) q ≡ at_number xs q = lookup_tail (is_at (nat_cmp q)) x xs e in
    cc
first_here p q v x xs s t false e h false pe least later = later h

-- the first of the list that passes is the one with the least number
pub first_is : {E : Type 0} (find : ℕ → Option E) (p : E → Bool) (q : ℕ) (v : E) (es : List (ℕ × E)) → AreFound find es → IsStrictlySortedBy nat_cmp (keys_of es)
    → p v ≡ true → ((r : ℕ) (w : E) → find r ≡ Some w → p w ≡ true → q ≤ r) → at_number es q ≡ Some v → first_where p (values_of es) ≡ Some v
first_is find p q v [] f s t least h = cc
first_is find p q v (x ∷ xs) f s t least h =
    first_here p q v x xs s t (is_at (nat_cmp q) x.0) refl h (p x.1) refl (λ pe. least x.0 x.1 f.0 pe)
    (λ later. first_is find p q v xs f.1 (sorted_tail nat_cmp x.0 (keys_of xs) s) t least later)

-- ---- the list of the entries after a change of the map
more_here : {E : Type 0} (number : E → ℕ) (q : ℕ) (e : E) (x : ℕ × E) (xs : List (ℕ × E)) (b c : Bool)
    → cond (is_eq (cond b Less (cond c Equal Greater))) (Some x.1) (at_number xs q) ≡ None
    → (at_number xs q ≡ None → values_of (insert_entry nat_cmp xs q e) ≡ in_place number e (values_of xs))
    → values_of (match_ordering (cond b Less (cond c Equal Greater)) ((q, e) ∷ x ∷ xs) ((x.0, e) ∷ xs) (x ∷ insert_entry nat_cmp xs q e)) ≡ cond b (e ∷ x.1 ∷ values_of xs) (x.1 ∷ in_place number e (values_of xs))
more_here number q e x xs true c h later = refl
more_here number q e x xs false true h later = cc
more_here number q e x xs false false h later = ap (λ r. x.1 ∷ r) (later h)

pub values_more : {E : Type 0} (number : E → ℕ) (q : ℕ) (e : E) (es : List (ℕ × E)) → number e ≡ q → IsKeyed number es → at_number es q ≡ None → values_of (insert_entry nat_cmp es q e) ≡ in_place number e (values_of es)
values_more number q e [] n k h = refl
values_more number q e (x ∷ xs) n k h = rw (n, k.0) (more_here number q e x xs (ltb q x.0) (eqb q x.0) h (λ later. values_more number q e xs n k.1 later))

less_here : {E : Type 0} (x : ℕ × E) (xs ys : List (ℕ × E)) (zs : List E) (b c : Bool) → b ≡ c → values_of ys ≡ zs → values_of (cond b xs (x ∷ ys)) ≡ cond c (values_of xs) (x.1 ∷ zs)
less_here x xs ys zs true true e h = refl
less_here x xs ys zs true false e h = cc
less_here x xs ys zs false true e h = cc
less_here x xs ys zs false false e h = ap (λ r. x.1 ∷ r) h

pub values_less : {E : Type 0} (number : E → ℕ) (q : ℕ) (es : List (ℕ × E)) → IsKeyed number es → values_of (remove_entry (is_at (nat_cmp q)) es) ≡ without (λ e. eqb (number e) q) (values_of es)
values_less number q [] k = refl
values_less number q (x ∷ xs) k = less_here x xs (remove_entry (is_at (nat_cmp q)) xs) (without (λ e. eqb (number e) q) (values_of xs)) (is_at (nat_cmp q) x.0) (eqb (number x.1) q) (number_test q (number x.1) x.0 k.0) (values_less number q xs k.1)

found_here : {E : Type 0} (v : E) (m n : Option E) (b c : Bool) → b ≡ c → m ≡ n → cond b (Some v) m ≡ cond c (Some v) n
found_here v m n true true e h = refl
found_here v m n true false e h = cc
found_here v m n false true e h = cc
found_here v m n false false e h = h

pub values_found : {E : Type 0} (number : E → ℕ) (q : ℕ) (es : List (ℕ × E)) → IsKeyed number es → at_number es q ≡ first_where (λ e. eqb (number e) q) (values_of es)
values_found number q [] k = refl
values_found number q (x ∷ xs) k = found_here x.1 (at_number xs q) (first_where (λ e. eqb (number e) q) (values_of xs)) (is_at (nat_cmp q) x.0) (eqb (number x.1) q) (number_test q (number x.1) x.0 k.0) (values_found number q xs k.1)

-- ---- keyed
keyed_if : {E : Type 0} (number : E → ℕ) (q : ℕ) (e : E) (x : ℕ × E) (xs ys : List (ℕ × E)) (o : Ordering) → number e ≡ q → o ≡ nat_cmp q x.0 → IsKeyed number (x ∷ xs) → IsKeyed number ys → IsKeyed number (match_ordering o ((q, e) ∷ x ∷ xs) ((x.0, e) ∷ xs) (x ∷ ys))
keyed_if number q e x xs ys Less n o k l = (n, k)
keyed_if number q e x xs ys Equal n o k l = (n ∙ exact_unsigned q x.0 (sym o), k.1)
keyed_if number q e x xs ys Greater n o k l = (k.0, l)

pub keyed_more : {E : Type 0} (number : E → ℕ) (q : ℕ) (e : E) (es : List (ℕ × E)) → number e ≡ q → IsKeyed number es → IsKeyed number (insert_entry nat_cmp es q e)
keyed_more number q e [] n k = (n, tt)
keyed_more number q e (x ∷ xs) n k = keyed_if number q e x xs (insert_entry nat_cmp xs q e) (nat_cmp q x.0) n refl k (keyed_more number q e xs n k.1)

keyed_unless : {E : Type 0} (number : E → ℕ) (x : ℕ × E) (xs ys : List (ℕ × E)) (b : Bool) → IsKeyed number (x ∷ xs) → IsKeyed number ys → IsKeyed number (cond b xs (x ∷ ys))
keyed_unless number x xs ys true k l = k.1
keyed_unless number x xs ys false k l = (k.0, l)

pub keyed_less : {E : Type 0} (number : E → ℕ) (q : ℕ) (es : List (ℕ × E)) → IsKeyed number es → IsKeyed number (remove_entry (is_at (nat_cmp q)) es)
keyed_less number q [] k = tt
keyed_less number q (x ∷ xs) k = keyed_unless number x xs (remove_entry (is_at (nat_cmp q)) xs) (is_at (nat_cmp q) x.0) k (keyed_less number q xs k.1)

-- ---- the numbers of the list rise
above_values : {E : Type 0} (number : E → ℕ) (n : ℕ) (es : List (ℕ × E)) → IsKeyed number es → AllByRecursion (λ y. nat_cmp n y ≡ Less) (keys_of es) → AreAbove number n (values_of es)
above_values number n [] k s = tt
above_values number n (x ∷ xs) k s = (let l : n < x.0 = ranked n x.0 Less (sym s.0) in let e = k.0 in omega arith, above_values number n xs k.1 s.1)

above_from : {E : Type 0} (number : E → ℕ) (m n : ℕ) (xs : List E) → m ≡ n → AreAbove number n xs → AreAbove number m xs
above_from number m n xs e h = rw e h

pub values_rising : {E : Type 0} (number : E → ℕ) (es : List (ℕ × E)) → IsKeyed number es → IsStrictlySortedBy nat_cmp (keys_of es) → IsRising number (values_of es)
values_rising number [] k s = tt
values_rising number (x ∷ xs) k s = (above_from number (number x.1) x.0 (values_of xs) k.0 (above_values number x.0 xs k.1 (sorted_head nat_cmp x.0 (keys_of xs) s)), values_rising number xs k.1 (sorted_tail nat_cmp x.0 (keys_of xs) s))

-- ---- counts
count_here : {E : Type 0} (p : E → Bool) (e x : E) (xs ys : List E) (b c d : Bool) → p e ≡ c → p x ≡ d → count_where p ys ≡ cond c (count_where p xs + 1) (count_where p xs)
    → count_where p (cond b (e ∷ x ∷ xs) (x ∷ ys)) ≡ cond c (cond d (count_where p xs + 1) (count_where p xs) + 1) (cond d (count_where p xs + 1) (count_where p xs))
count_here p e x xs ys true c d pe px h = rw (pe, px) refl
count_here p e x xs ys false true true pe px h = rw (px, h) refl
count_here p e x xs ys false true false pe px h = rw (px, h) refl
count_here p e x xs ys false false true pe px h = rw (px, h) refl
count_here p e x xs ys false false false pe px h = rw (px, h) refl

pub count_more : {E : Type 0} (p : E → Bool) (number : E → ℕ) (e : E) (xs : List E) → count_where p (in_place number e xs) ≡ cond (p e) (count_where p xs + 1) (count_where p xs)
count_more p number e [] = refl
count_more p number e (x ∷ xs) = count_here p e x xs (in_place number e xs) (ltb (number e) (number x)) (p e) (p x) refl refl (count_more p number e xs)

-- an entry that passes is counted
some_counted : {E : Type 0} (p r : E → Bool) (e : E) (xs : List E) → first_where r xs ≡ Some e → p e ≡ true → 0 < count_where p xs
some_counted p r e [] h t = absurd cc
some_counted p r e (x ∷ xs) h t = some_here (r x) (p x) h refl (λ l. some_counted p r e xs l t)
  where
    some_here : (b c : Bool) → cond b (Some x) (first_where r xs) ≡ Some e → p x ≡ c → (first_where r xs ≡ Some e → 0 < count_where p xs) → 0 < cond c (count_where p xs + 1) (count_where p xs)
    some_here b true h px later = omega arith
    some_here true false h px later = let m : x ≡ e = cc in absurd cc
    some_here false false h px later = later h

less_count : {E : Type 0} (p r : E → Bool) (e x : E) (xs ys : List E) (b c d : Bool) → p e ≡ c → p x ≡ d → cond b (Some x) (first_where r xs) ≡ Some e
    → (first_where r xs ≡ Some e → count_where p ys ≡ cond c (count_where p xs - 1) (count_where p xs))
    → (first_where r xs ≡ Some e → c ≡ true → 0 < count_where p xs)
    → count_where p (cond b xs (x ∷ ys)) ≡ cond c (cond d (count_where p xs + 1) (count_where p xs) - 1) (cond d (count_where p xs + 1) (count_where p xs))
less_count p r e x xs ys true true true pe px h later some = omega arith
less_count p r e x xs ys true true false pe px h later some = let m : x ≡ e = cc in absurd cc
less_count p r e x xs ys true false true pe px h later some = let m : x ≡ e = cc in absurd cc
less_count p r e x xs ys true false false pe px h later some = refl
less_count p r e x xs ys false true true pe px h later some = rw (px, later h) (let l = some h refl in omega arith)
less_count p r e x xs ys false true false pe px h later some = rw (px, later h) refl
less_count p r e x xs ys false false true pe px h later some = rw (px, later h) refl
less_count p r e x xs ys false false false pe px h later some = rw (px, later h) refl

pub count_less : {E : Type 0} (p r : E → Bool) (e : E) (xs : List E) → first_where r xs ≡ Some e → count_where p (without r xs) ≡ cond (p e) (count_where p xs - 1) (count_where p xs)
count_less p r e [] h = absurd cc
count_less p r e (x ∷ xs) h = less_count p r e x xs (without r xs) (r x) (p e) (p x) refl refl h (λ l. count_less p r e xs l) (λ l t. some_counted p r e xs l t)

pub count_le_length : {E : Type 0} (p : E → Bool) (xs : List E) → count_where p xs ≤ length xs
count_le_length p [] = omega arith
count_le_length p (x ∷ xs) = count_le_here (p x) (count_le_length p xs)
  where
    count_le_here : (b : Bool) → count_where p xs ≤ length xs → cond b (count_where p xs + 1) (count_where p xs) ≤ length (x ∷ xs)
    count_le_here true l = omega arith
    count_le_here false l = omega arith

-- ---- an index and its entries
pub hit_key : {K : Type 0} (cmp : K → K → Ordering) → CmpEqualImpliesEq cmp → (t : Option K) (k : K) → hits cmp t k ≡ true → t ≡ Some k
hit_key cmp exact None k h = cc
hit_key cmp exact (Some t) k h = ap Some (same_key cmp exact t k h)

pub own_hit : {K : Type 0} (cmp : K → K → Ordering) → IsTotalOrder cmp → (t : Option K) (k : K) → t ≡ Some k → hits cmp t k ≡ true
own_hit cmp total t k h = rw h (own_key cmp total k)

module _ {K : Type 0} (cmp : K → K → Ordering) (total : IsTotalOrder cmp) (exact : CmpEqualImpliesEq cmp) where
  finds_more : (d q : ℕ) (k : K) (t o : Option K) (i j : Option ℕ) (b c : Bool) → is_at (nat_cmp d) q ≡ b → hits cmp t k ≡ c → cond b t o ≡ Some k → j ≡ cond c (Some d) i
      → (o ≡ Some k → i ≡ Some q) → (c ≡ true → i ≡ None) → j ≡ Some q
  finds_more d q k t o i j true true e f h u finds fresh = let n = same_number d q e in cc
  finds_more d q k t o i j true false e f h u finds fresh = let n = own_hit cmp total t k h in cc
  finds_more d q k t o i j false true e f h u finds fresh = let m = finds h in let n = fresh refl in cc
  finds_more d q k t o i j false false e f h u finds fresh = let m = finds h in cc

  holds_more : (d q : ℕ) (k : K) (t o n : Option K) (i j : Option ℕ) (b c : Bool) → is_at (nat_cmp d) q ≡ b → hits cmp t k ≡ c → n ≡ cond b t o → j ≡ cond c (Some d) i → j ≡ Some q
      → (i ≡ Some q → o ≡ Some k) → (d ≡ q → o ≡ None) → n ≡ Some k
  holds_more d q k t o n i j true true e f h u w holds fresh = let m = hit_key cmp exact t k f in cc
  holds_more d q k t o n i j true false e f h u w holds fresh = let l : i ≡ Some q = cc in let m = holds l in let z = fresh (same_number d q e) in cc
  holds_more d q k t o n i j false true e f h u w holds fresh = let l : d ≡ q = cc in let z : is_at (nat_cmp d) q ≡ true = subst (λ x. is_at (nat_cmp d) x ≡ true) l (own_number d) in cc
  holds_more d q k t o n i j false false e f h u w holds fresh = let l : i ≡ Some q = cc in let m = holds l in cc

  -- one more entry, whose number and key are new
  pub indexed_more : (told_at told_at' : ℕ → Option K) (index index' : K → Option ℕ) (d : ℕ) (t : Option K)
      → ((q : ℕ) → told_at' q ≡ cond (is_at (nat_cmp d) q) t (told_at q))
      → ((k : K) → index' k ≡ cond (hits cmp t k) (Some d) (index k))
      → told_at d ≡ None → ((k : K) → hits cmp t k ≡ true → index k ≡ None)
      → Indexes told_at index → Indexes told_at' index'
  indexed_more told_at told_at' index index' d t ts is lacks fresh old = record {
    finds = λ q k h. finds_more d q k t (told_at q) (index k) (index' k) (is_at (nat_cmp d) q) (hits cmp t k) refl refl (sym (ts q) ∙ h) (is k) (old.finds q k) (fresh k);
    holds = λ k q h. holds_more d q k t (told_at q) (told_at' q) (index k) (index' k) (is_at (nat_cmp d) q) (hits cmp t k) refl refl (ts q) (is k) h (old.holds k q) (λ e. subst (λ x. told_at x ≡ None) e lacks);
  }

  finds_less : (d q : ℕ) (k : K) (t o : Option K) (i j : Option ℕ) (b c : Bool) → is_at (nat_cmp d) q ≡ b → hits cmp t k ≡ c → cond b None o ≡ Some k → j ≡ cond c None i
      → (o ≡ Some k → i ≡ Some q) → (t ≡ Some k → i ≡ Some d) → j ≡ Some q
  finds_less d q k t o i j true c e f h u finds own = cc
  finds_less d q k t o i j false true e f h u finds own =
      let m = finds h in let n = own (hit_key cmp exact t k f) in let l : d ≡ q = cc in
      let z : is_at (nat_cmp d) q ≡ true = subst (λ x. is_at (nat_cmp d) x ≡ true) l (own_number d) in cc
  finds_less d q k t o i j false false e f h u finds own = let m = finds h in cc

  holds_less : (d q : ℕ) (k : K) (t o n : Option K) (i j : Option ℕ) (b c : Bool) → is_at (nat_cmp d) q ≡ b → hits cmp t k ≡ c → n ≡ cond b None o → j ≡ cond c None i → j ≡ Some q
      → (i ≡ Some q → o ≡ Some k) → (d ≡ q → o ≡ t) → n ≡ Some k
  holds_less d q k t o n i j b true e f h u w holds same = cc
  holds_less d q k t o n i j true false e f h u w holds same =
      let l : i ≡ Some q = cc in let m = holds l in let s = same (same_number d q e) in
      let tk : t ≡ Some k = cc in let z = own_hit cmp total t k tk in cc
  holds_less d q k t o n i j false false e f h u w holds same = let l : i ≡ Some q = cc in let m = holds l in cc

  -- an entry goes, or nothing tells it any more
  pub indexed_less : (told_at told_at' : ℕ → Option K) (index index' : K → Option ℕ) (d : ℕ) (t : Option K)
      → ((q : ℕ) → told_at' q ≡ cond (is_at (nat_cmp d) q) None (told_at q))
      → ((k : K) → index' k ≡ cond (hits cmp t k) None (index k))
      → told_at d ≡ t
      → Indexes told_at index → Indexes told_at' index'
  indexed_less told_at told_at' index index' d t ts is own old = record {
    finds = λ q k h. finds_less d q k t (told_at q) (index k) (index' k) (is_at (nat_cmp d) q) (hits cmp t k) refl refl (sym (ts q) ∙ h) (is k) (old.finds q k) (λ tk. old.finds d k (own ∙ tk));
    holds = λ k q h. holds_less d q k t (told_at q) (told_at' q) (index k) (index' k) (is_at (nat_cmp d) q) (hits cmp t k) refl refl (ts q) (is k) h (old.holds k q) (λ e. subst (λ x. told_at x ≡ t) e own);
  }

  back_here : (a b : Bool) (i j k : Option ℕ) (d : ℕ) → a ≡ b → (a ≡ true → i ≡ None) → j ≡ cond a (Some d) i → k ≡ cond a None j → k ≡ i
  back_here true b i j k d e fresh u w = let n = fresh refl in cc
  back_here false b i j k d e fresh u w = cc

  -- a key that was new, noted and taken out again leaves each look-up as it was
  pub taken_back : (index index' index'' : K → Option ℕ) (d : ℕ) (t : K)
      → index t ≡ None
      → ((k : K) → index' k ≡ cond (is_at (cmp t) k) (Some d) (index k))
      → ((k : K) → index'' k ≡ cond (is_at (cmp t) k) None (index' k))
      → (k : K) → index'' k ≡ index k
  taken_back index index' index'' d t new is back k =
      back_here (is_at (cmp t) k) (is_at (cmp t) k) (index k) (index' k) (index'' k) d refl
      (λ h. subst (λ x. index x ≡ None) (same_key cmp exact t k h) new) (is k) (back k)

pub indexed_same : {K : Type 0} (told_at told_at' : ℕ → Option K) (index index' : K → Option ℕ)
    → ((q : ℕ) → told_at' q ≡ told_at q) → ((k : K) → index' k ≡ index k) → Indexes told_at index → Indexes told_at' index'
indexed_same told_at told_at' index index' ts is old = record {
  finds = λ q k h. is k ∙ old.finds q k (sym (ts q) ∙ h);
  holds = λ k q h. ts q ∙ old.holds k q (sym (is k) ∙ h);
}

-- what tells an entry, through a change of the map
pub told_cond : {K E : Type 0} (tells : E → Option K) (b : Bool) (new old : Option E) → told tells (cond b new old) ≡ cond b (told tells new) (told tells old)
told_cond tells true new old = refl
told_cond tells false new old = refl

pub told_some : {K E : Type 0} (tells : E → Option K) (k : K) (o : Option E) → told tells o ≡ Some k → (v : E) × (o ≡ Some v) × (tells v ≡ Some k)
told_some tells k None h = absurd cc
told_some tells k (Some v) h = (v, refl, h)

pub pair_total : IsTotalOrder pair_cmp
pair_total = then_total (on_total (λ p. p.0) nat_cmp_total) (on_total (λ p. p.1) nat_cmp_total)

pub pair_exact : CmpEqualImpliesEq pair_cmp
pair_exact = exact_pairs nat_cmp nat_cmp exact_unsigned exact_unsigned

pub signed_pair_total : IsTotalOrder signed_pair_cmp
signed_pair_total = then_total (on_total (λ p. p.0) nat_cmp_total) (on_total (λ p. p.1) int_cmp_total)

pub signed_pair_exact : CmpEqualImpliesEq signed_pair_cmp
signed_pair_exact = exact_pairs nat_cmp int_cmp exact_unsigned exact_signed

-- ---- what an index finds is the first of the list
pub keyed_at : {E : Type 0} (number : E → ℕ) (q : ℕ) (v : E) (es : List (ℕ × E)) → IsKeyed number es → at_number es q ≡ Some v → number v ≡ q
keyed_at number q v [] k h = absurd cc
keyed_at number q v (x ∷ xs) k h = keyed_here (is_at (nat_cmp q) x.0) refl h (λ l. keyed_at number q v xs k.1 l)
  where
    keyed_here : (b : Bool) → is_at (nat_cmp q) x.0 ≡ b → cond b (Some x.1) (at_number xs q) ≡ Some v → (at_number xs q ≡ Some v → number v ≡ q) → number v ≡ q
    keyed_here true e h later = let m : x.1 ≡ v = cc in let n = same_number q x.0 e in ap number (sym m) ∙ k.0 ∙ sym n
    keyed_here false e h later = later h

false_unless : (b : Bool) → (b ≡ true → ⊥) → b ≡ false
false_unless true h = absurd (h refl)
false_unless false h = refl

module _ {K E : Type 0} (tells : E → Option K) (index : K → Option ℕ) (es : List (ℕ × E)) (p : E → Bool) (k : K) (s : IsStrictlySortedBy nat_cmp (keys_of es)) (right : Indexes (λ q. told tells (at_number es q)) index) (tests : (v : E) → p v ≡ true → tells v ≡ Some k) (passes : (v : E) → tells v ≡ Some k → p v ≡ true) where
  found_if : (i : Option ℕ) → index k ≡ i → entry_at es i ≡ first_where p (values_of es)
  found_if None h = sym (first_none (at_number es) p es (all_found es s) (λ q v f. false_unless (p v) (λ t. let e = right.finds q k (ap (told tells) f ∙ tests v t) in cc)))
  found_if (Some q) h =
      let m = told_some tells k (at_number es q) (right.holds k q h) in
      m.1 ∙ sym (first_is (at_number es) p q m.0 es (all_found es s) s (passes m.0 m.2) (λ r w f t. let e = right.finds r k (ap (told tells) f ∙ tests w t) in let l : q ≡ r = cc in omega arith) m.1)

  pub found_first : entry_at es (index k) ≡ first_where p (values_of es)
  found_first = found_if (index k) refl

pub none_found : {K E : Type 0} (tells : E → Option K) (index : K → Option ℕ) (es : List (ℕ × E)) (k : K) → Indexes (λ q. told tells (at_number es q)) index → entry_at es (index k) ≡ None → index k ≡ None
none_found tells index es k right h = none_if (index k) refl h
  where
    none_if : (i : Option ℕ) → index k ≡ i → entry_at es i ≡ None → i ≡ None
    none_if None e h = refl
    none_if (Some q) e h = let m = told_some tells k (at_number es q) (right.holds k q e) in let n = m.1 in absurd cc

-- a pair with a number that the map lacks is new
pub fresh_pair : {E : Type 0} (number : E → ℕ) (tells : E → Option (ℕ × ℕ)) (index : ℕ × ℕ → Option ℕ) (es : List (ℕ × E)) (a d : ℕ)
    → IsKeyed number es → Indexes (λ q. told tells (at_number es q)) index → ((v : E) (k : ℕ × ℕ) → tells v ≡ Some k → k.1 ≡ number v) → at_number es d ≡ None → index (a, d) ≡ None
fresh_pair number tells index es a d keyed right last lacks = fresh_if (index (a, d)) refl
  where
    fresh_if : (i : Option ℕ) → index (a, d) ≡ i → i ≡ None
    fresh_if None e = refl
    fresh_if (Some q) e =
        let m = told_some tells (a, d) (at_number es q) (right.holds (a, d) q e) in
        let l : d ≡ q = last m.0 (a, d) m.2 ∙ keyed_at number q m.0 es keyed m.1 in
        let n : at_number es d ≡ Some m.0 = subst (λ x. at_number es x ≡ Some m.0) (sym l) m.1 in
        absurd cc

pub hits_fresh : {K : Type 0} (cmp : K → K → Ordering) → CmpEqualImpliesEq cmp → (index : K → Option ℕ) (t : K) → index t ≡ None → (k : K) → hits cmp (Some t) k ≡ true → index k ≡ None
hits_fresh cmp exact index t new k h = subst (λ x. index x ≡ None) (same_key cmp exact t k h) new

module _ {E : Type 0} (number : E → ℕ) (tells : E → Option (ℕ × ℕ)) (index : List ((ℕ × ℕ) × ℕ)) (es : List (ℕ × E)) (p : E → Bool) (a : ℕ) (s : IsStrictlySortedBy nat_cmp (keys_of es)) (keyed : IsKeyed number es) (right : Indexes (λ q. told tells (at_number es q)) (at_key pair_cmp index)) (tests : (v : E) → p v ≡ true → tells v ≡ Some (a, number v)) (passes : (v : E) (b : ℕ) → tells v ≡ Some (a, b) → (p v ≡ true) × (number v ≡ b)) where
  -- the entry of the least pair that begins so is the first of the list
  pub first_found : (i : Option ℕ) → FirstAt index a i → entry_at es i ≡ first_where p (values_of es)
  first_found None h = sym (first_none (at_number es) p es (all_found es s) (λ q v f. false_unless (p v) (λ t. let e = right.finds q (a, number v) (ap (told tells) f ∙ tests v t) in let n = h (number v) in cc)))
  first_found (Some q) h =
      let m = told_some tells (a, h.0) (at_number es q) (right.holds (a, h.0) q h.1) in
      let n = passes m.0 h.0 m.2 in
      m.1 ∙ sym (first_is (at_number es) p q m.0 es (all_found es s) s n.0
      (λ r w f t.
      let e = right.finds r (a, number w) (ap (told tells) f ∙ tests w t) in
      let l : h.0 ≤ number w = h.2 (number w) (rw e refl) in
      let u = keyed_at number q m.0 es keyed m.1 in
      let v = keyed_at number r w es keyed f in
      let z = n.1 in
      omega arith)
      m.1)

-- ---- the part of an index that begins so
le_if : (x y : ℕ) (o p : Ordering) → o ≡ nat_cmp x y → is_gt (ordering_then o p) ≡ false → x ≤ y
le_if x y Less p e h = let l : x < y = ranked x y Less e in omega arith
le_if x y Equal p e h = let l : x ≡ y = ranked x y Equal e in omega arith
le_if x y Greater p e h = absurd cc

second_le : (a b c : ℕ) → is_gt (pair_cmp (a, b) (a, c)) ≡ false → b ≤ c
second_le a b c h = le_from_not_gt b c (rw (tied_itself nat_cmp_total a) at h)

from_start : (a c : ℕ) → is_gt (pair_cmp (a, 0) (a, c)) ≡ false
from_start a c = rw (tied_itself nat_cmp_total a) (grind (arith, nat_tests))

pub begins_none : (m : BTreeMap (ℕ × ℕ) ℕ) (a : ℕ) (r : List ((ℕ × ℕ) × ℕ)) → IsRangeOf pair_cmp (Included (a, 0)) Unbounded m r → r ≡ [] → FirstAt m.entries a None
begins_none m a r h e b = h.5 e (a, b) (from_start a b, tt)

pub begins_other : (m : BTreeMap (ℕ × ℕ) ℕ) (a : ℕ) (r : List ((ℕ × ℕ) × ℕ)) → IsRangeOf pair_cmp (Included (a, 0)) Unbounded m r → (p : ℕ × ℕ) (v : ℕ) (rest : List ((ℕ × ℕ) × ℕ)) → r ≡ (p, v) ∷ rest → (p.0 ≡ a → ⊥) → FirstAt m.entries a None
begins_other m a r h p v rest e other b = none_if (get pair_cmp m (a, b)) refl
  where
    none_if : (o : Option ℕ) → get pair_cmp m (a, b) ≡ o → o ≡ None
    none_if None f = refl
    none_if (Some w) f =
        let first = rw e at h.1 in
        let least = rw e at (h.2 (a, b) (from_start a b, tt) (rw f refl)) in
        let l : a ≤ p.0 = le_if a p.0 (nat_cmp a p.0) (nat_cmp 0 p.1) refl first.0.0 in
        let u : p.0 ≤ a = le_if p.0 a (nat_cmp p.0 a) (nat_cmp p.1 b) refl least in
        absurd (other (omega arith))

pub begins_some : (m : BTreeMap (ℕ × ℕ) ℕ) (a : ℕ) (r : List ((ℕ × ℕ) × ℕ)) → IsRangeOf pair_cmp (Included (a, 0)) Unbounded m r → (b v : ℕ) (rest : List ((ℕ × ℕ) × ℕ)) → r ≡ ((a, b), v) ∷ rest → FirstAt m.entries a (Some v)
begins_some m a r h b v rest e =
    let first = rw e at h.1 in
    (b, first.1, λ c some. second_le a b c (rw e at (h.2 (a, c) (from_start a c, tt) some)))

pub pair_first : (p : ℕ × ℕ) (a v : ℕ) (r rest : List ((ℕ × ℕ) × ℕ)) → r ≡ (p, v) ∷ rest → p.0 ≡ a → r ≡ ((a, p.1), v) ∷ rest
pair_first p a v r rest e h = e ∙ ap (λ z. ((z, p.1), v) ∷ rest) h

-- ---- the first of an index by signed numbers
pub signed_begins_none : (m : BTreeMap (ℕ × ℤ) ℕ) (a : ℕ) (low : ℤ) (r : List ((ℕ × ℤ) × ℕ)) → IsRangeOf signed_pair_cmp (Included (a, low)) Unbounded m r → r ≡ [] → FirstSignedAt low m.entries a None
signed_begins_none m a low r h e b l = h.5 e (a, b) (rw (tied_itself nat_cmp_total a) l, tt)

pub signed_begins_other : (m : BTreeMap (ℕ × ℤ) ℕ) (a : ℕ) (low : ℤ) (r : List ((ℕ × ℤ) × ℕ)) → IsRangeOf signed_pair_cmp (Included (a, low)) Unbounded m r → (p : ℕ × ℤ) (v : ℕ) (rest : List ((ℕ × ℤ) × ℕ)) → r ≡ (p, v) ∷ rest → (p.0 ≡ a → ⊥) → FirstSignedAt low m.entries a None
signed_begins_other m a low r h p v rest e other b l = none_if (get signed_pair_cmp m (a, b)) refl
  where
    none_if : (o : Option ℕ) → get signed_pair_cmp m (a, b) ≡ o → o ≡ None
    none_if None f = refl
    none_if (Some w) f =
        let first = rw e at h.1 in
        let start : is_gt (signed_pair_cmp (a, low) (a, b)) ≡ false = rw (tied_itself nat_cmp_total a) l in
        let least = rw e at (h.2 (a, b) (start, tt) (rw f refl)) in
        let x : a ≤ p.0 = le_if a p.0 (nat_cmp a p.0) (int_cmp low p.1) refl first.0.0 in
        let y : p.0 ≤ a = le_if p.0 a (nat_cmp p.0 a) (int_cmp p.1 b) refl least in
        absurd (other (omega arith))

pub signed_begins_some : (m : BTreeMap (ℕ × ℤ) ℕ) (a : ℕ) (low : ℤ) (r : List ((ℕ × ℤ) × ℕ)) → IsRangeOf signed_pair_cmp (Included (a, low)) Unbounded m r → (b : ℤ) (v : ℕ) (rest : List ((ℕ × ℤ) × ℕ)) → r ≡ ((a, b), v) ∷ rest → FirstSignedAt low m.entries a (Some v)
signed_begins_some m a low r h b v rest e =
    let first = rw e at h.1 in (
      b,
      first.1,
      λ c l some.
          let start : is_gt (signed_pair_cmp (a, low) (a, c)) ≡ false = rw (tied_itself nat_cmp_total a) l in
          let least = rw e at (h.2 (a, c) (start, tt) some) in
          rw (tied_itself nat_cmp_total a) at least,
    )

pub signed_pair_first : (p : ℕ × ℤ) (a v : ℕ) (r rest : List ((ℕ × ℤ) × ℕ)) → r ≡ (p, v) ∷ rest → p.0 ≡ a → r ≡ ((a, p.1), v) ∷ rest
signed_pair_first p a v r rest e h = e ∙ ap (λ z. ((z, p.1), v) ∷ rest) h

-- ---- one entry in the place of another
pub keyed_put : {E : Type 0} (number : E → ℕ) (d : ℕ) (w : E) (es : List (ℕ × E)) → number w ≡ d → IsKeyed number es → IsKeyed number (set_value (is_at (nat_cmp d)) es w)
keyed_put number d w [] n k = tt
keyed_put number d w (x ∷ xs) n k = put_here (is_at (nat_cmp d) x.0) refl (keyed_put number d w xs n k.1)
  where
    put_here : (b : Bool) → is_at (nat_cmp d) x.0 ≡ b → IsKeyed number (set_value (is_at (nat_cmp d)) xs w) → IsKeyed number (cond b ((x.0, w) ∷ xs) (x ∷ set_value (is_at (nat_cmp d)) xs w))
    put_here true e h = (n ∙ same_number d x.0 e, k.1)
    put_here false e h = (k.0, h)

map_none : {E : Type 0} (find : ℕ → Option E) (d : ℕ) (p : E → Bool) (g : E → E) (xs : List (ℕ × E)) → AreFound find xs → NonePasses (is_at (nat_cmp d)) xs
    → ((r : ℕ) (v : E) → find r ≡ Some v → p v ≡ is_at (nat_cmp d) r) → map (λ v. cond (p v) (g v) v) (values_of xs) ≡ values_of xs
map_none find d p g [] f n h = refl
map_none find d p g (x ∷ xs) f n h = rw (h x.0 x.1 f.0 ∙ n.0) (ap (λ l. x.1 ∷ l) (map_none find d p g xs f.1 n.1 h))

put_here : {E : Type 0} (find : ℕ → Option E) (d : ℕ) (p : E → Bool) (g : E → E) (e : E) (x : ℕ × E) (xs : List (ℕ × E)) (b c : Bool) → is_at (nat_cmp d) x.0 ≡ b → c ≡ b
    → cond b (Some x.1) (at_number xs d) ≡ Some e
    → (b ≡ true → map (λ v. cond (p v) (g v) v) (values_of xs) ≡ values_of xs)
    → (at_number xs d ≡ Some e → map (λ v. cond (p v) (g v) v) (values_of xs) ≡ values_of (set_value (is_at (nat_cmp d)) xs (g e)))
    → cond c (g x.1) x.1 ∷ map (λ v. cond (p v) (g v) v) (values_of xs) ≡ values_of (cond b ((x.0, g e) ∷ xs) (x ∷ set_value (is_at (nat_cmp d)) xs (g e)))
put_here find d p g e x xs true true i j h past later = let m : x.1 ≡ e = cc in rw (past refl) (ap (λ v. g v ∷ values_of xs) m)
put_here find d p g e x xs true false i j h past later = absurd cc
put_here find d p g e x xs false true i j h past later = absurd cc
put_here find d p g e x xs false false i j h past later = ap (λ l. x.1 ∷ l) (later h)

-- the entry that passes is changed
pub map_put : {E : Type 0} (find : ℕ → Option E) (d : ℕ) (p : E → Bool) (g : E → E) (e : E) (es : List (ℕ × E)) → AreFound find es → IsStrictlySortedBy nat_cmp (keys_of es)
    → ((r : ℕ) (v : E) → find r ≡ Some v → p v ≡ is_at (nat_cmp d) r) → at_number es d ≡ Some e
    → map (λ v. cond (p v) (g v) v) (values_of es) ≡ values_of (set_value (is_at (nat_cmp d)) es (g e))
map_put find d p g e [] f s h l = absurd cc
map_put find d p g e (x ∷ xs) f s h l =
    put_here find d p g e x xs (is_at (nat_cmp d) x.0) (p x.1) refl (h x.0 x.1 f.0) l
    (λ t. map_none find d p g xs f.1 (none_past_head (eq_by_cmp_equiv nat_cmp_total) d x xs (IsDistinct-from_sorted nat_cmp (keys_of (x ∷ xs)) s) t) h)
    (λ m. map_put find d p g e xs f.1 (sorted_tail nat_cmp x.0 (keys_of xs) s) h m)

pub count_put : {E : Type 0} (p : E → Bool) (d : ℕ) (e w : E) (es : List (ℕ × E)) → at_number es d ≡ Some e
    → count_where p (values_of (set_value (is_at (nat_cmp d)) es w)) + cond (p e) 1 0 ≡ count_where p (values_of es) + cond (p w) 1 0
count_put p d e w [] h = absurd cc
count_put p d e w (x ∷ xs) h = count_put_here (is_at (nat_cmp d) x.0) (p x.1) (p e) (p w) refl refl refl h (λ l. count_put p d e w xs l)
  where
    count_put_here : (b c i j : Bool) → p x.1 ≡ c → p e ≡ i → p w ≡ j → cond b (Some x.1) (at_number xs d) ≡ Some e
        → (at_number xs d ≡ Some e → count_where p (values_of (set_value (is_at (nat_cmp d)) xs w)) + cond (p e) 1 0 ≡ count_where p (values_of xs) + cond (p w) 1 0)
        → count_where p (values_of (cond b ((x.0, w) ∷ xs) (x ∷ set_value (is_at (nat_cmp d)) xs w))) + cond i 1 0 ≡ cond c (count_where p (values_of xs) + 1) (count_where p (values_of xs)) + cond j 1 0
    count_put_here true true true true px pe pw h later = rw pw (omega arith)
    count_put_here true true true false px pe pw h later = rw pw (omega arith)
    count_put_here true false false true px pe pw h later = rw pw (omega arith)
    count_put_here true false false false px pe pw h later = rw pw (omega arith)
    count_put_here true true false j px pe pw h later = let m : x.1 ≡ e = cc in absurd cc
    count_put_here true false true j px pe pw h later = let m : x.1 ≡ e = cc in absurd cc
    count_put_here false true true true px pe pw h later = let l = rw (pe, pw) at (later h) in rw px (omega arith)
    count_put_here false true true false px pe pw h later = let l = rw (pe, pw) at (later h) in rw px (omega arith)
    count_put_here false true false true px pe pw h later = let l = rw (pe, pw) at (later h) in rw px (omega arith)
    count_put_here false true false false px pe pw h later = let l = rw (pe, pw) at (later h) in rw px (omega arith)
    count_put_here false false true true px pe pw h later = let l = rw (pe, pw) at (later h) in rw px (omega arith)
    count_put_here false false true false px pe pw h later = let l = rw (pe, pw) at (later h) in rw px (omega arith)
    count_put_here false false false true px pe pw h later = let l = rw (pe, pw) at (later h) in rw px (omega arith)
    count_put_here false false false false px pe pw h later = let l = rw (pe, pw) at (later h) in rw px (omega arith)
