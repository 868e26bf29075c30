-- Counts through changes of a list.
use Rattle.std.proofs.Common.{◌≡◌, ℕ, ◌+◌, ◌≤◌, Bool, true, false, not, cond, List, [], ◌∷◌, map, filter, Some, refl, subst, arith}
use Rattle.std.specs.Bool.{nat_lt}
use Rattle.std.specs.Ordering.{int_cmp, is_lt}
use Rattle.kn_tables.specs.declared.held_entry.HeldEntry.{HeldEntry}
use Rattle.kn_tables.specs.Lists.{first_where, without, in_place, count_where}
use Rattle.kn_tables.specs.Holding.{in_order, by_connect_id}

abbrev pub counted : Bool → ℕ
counted true = 1
counted false = 0

pub count_more : {E : Type 0} (p : E → Bool) (x : E) (xs : List E) → count_where p (x ∷ xs) ≡ counted (p x) + count_where p xs
count_more p x xs = more_here (p x)
  where
    more_here : (b : Bool) → cond b (count_where p xs + 1) (count_where p xs) ≡ counted b + count_where p xs
    more_here true = omega arith
    more_here false = omega arith

-- the first of a kind is taken out
pub count_without : {E : Type 0} (p r : E → Bool) (e : E) (xs : List E) → first_where r xs ≡ Some e → count_where p xs ≡ counted (p e) + count_where p (without r xs)
count_without p r e [] f = absurd cc
count_without p r e (x ∷ xs) f = without_here (r x) f (λ l. count_without p r e xs l)
  where
    without_here : (b : Bool) → cond b (Some x) (first_where r xs) ≡ Some e → (first_where r xs ≡ Some e → count_where p xs ≡ counted (p e) + count_where p (without r xs)) → count_where p (x ∷ xs) ≡ counted (p e) + count_where p (cond b xs (x ∷ without r xs))
    without_here true f later = let m : x ≡ e = cc in subst (λ z. count_where p (x ∷ xs) ≡ counted (p z) + count_where p xs) m (count_more p x xs)
    without_here false f later = omega (arith, count_more p x xs, count_more p x (without r xs), later f)

pub count_put : {E : Type 0} (number : E → ℕ) (p : E → Bool) (e : E) (xs : List E) → count_where p (in_place number e xs) ≡ counted (p e) + count_where p xs
count_put number p e [] = count_more p e []
count_put number p e (x ∷ xs) = put_here (nat_lt (number e) (number x)) (count_put number p e xs)
  where
    put_here : (b : Bool) → count_where p (in_place number e xs) ≡ counted (p e) + count_where p xs → count_where p (cond b (e ∷ x ∷ xs) (x ∷ in_place number e xs)) ≡ counted (p e) + count_where p (x ∷ xs)
    put_here true later = count_more p e (x ∷ xs)
    put_here false later = omega (arith, count_more p x xs, count_more p x (in_place number e xs), later)

-- a list in two parts
pub count_parts : {E : Type 0} (p q : E → Bool) (xs : List E) → count_where p xs ≡ count_where p (filter q xs) + count_where p (filter (λ x. not (q x)) xs)
count_parts p q [] = refl
count_parts p q (x ∷ xs) = parts_here (q x) (count_parts p q xs)
  where
    parts_here : (b : Bool) → count_where p xs ≡ count_where p (filter q xs) + count_where p (filter (λ y. not (q y)) xs)
        → count_where p (x ∷ xs) ≡ count_where p (cond b (x ∷ filter q xs) (filter q xs)) + count_where p (cond (not b) (x ∷ filter (λ y. not (q y)) xs) (filter (λ y. not (q y)) xs))
    parts_here true later = omega (arith, count_more p x xs, count_more p x (filter q xs), later)
    parts_here false later = omega (arith, count_more p x xs, count_more p x (filter (λ y. not (q y)) xs), later)

pub counted_less : (b c : Bool) → (b ≡ true → c ≡ true) → counted b ≤ counted c
counted_less false c h = omega arith
counted_less true c h = let e : c ≡ true = h refl in rw e (omega arith)

-- what passes after a change passed before it
pub count_mapped : {E : Type 0} (p : E → Bool) (g : E → E) (xs : List E) → ((x : E) → p (g x) ≡ true → p x ≡ true) → count_where p (map g xs) ≤ count_where p xs
count_mapped p g [] h = omega arith
count_mapped p g (x ∷ xs) h = omega (arith, count_more p (g x) (map g xs), count_more p x xs, counted_less (p (g x)) (p x) (h x), count_mapped p g xs h)

count_ordered : (p : HeldEntry → Bool) (e : HeldEntry) (xs : List HeldEntry) → count_where p (in_order e xs) ≡ counted (p e) + count_where p xs
count_ordered p e [] = count_more p e []
count_ordered p e (x ∷ xs) = ordered_here (is_lt (int_cmp x.connect_id e.connect_id)) (count_ordered p e xs)
  where
    ordered_here : (b : Bool) → count_where p (in_order e xs) ≡ counted (p e) + count_where p xs → count_where p (cond b (x ∷ in_order e xs) (e ∷ x ∷ xs)) ≡ counted (p e) + count_where p (x ∷ xs)
    ordered_here true later = omega (arith, count_more p x xs, count_more p x (in_order e xs), later)
    ordered_here false later = count_more p e (x ∷ xs)

-- the order does not matter
pub count_sorted : (p : HeldEntry → Bool) (xs : List HeldEntry) → count_where p (by_connect_id xs) ≡ count_where p xs
count_sorted p [] = refl
count_sorted p (x ∷ xs) = omega (arith, count_ordered p x (by_connect_id xs), count_more p x xs, count_sorted p xs)

pub count_less : {E : Type 0} (p r : E → Bool) (xs : List E) → count_where p (without r xs) ≤ count_where p xs
count_less p r [] = omega arith
count_less p r (x ∷ xs) = less_here (r x) (count_less p r xs)
  where
    less_here : (b : Bool) → count_where p (without r xs) ≤ count_where p xs → count_where p (cond b xs (x ∷ without r xs)) ≤ count_where p (x ∷ xs)
    less_here true later = omega (arith, count_more p x xs)
    less_here false later = omega (arith, count_more p x xs, count_more p x (without r xs), later)
