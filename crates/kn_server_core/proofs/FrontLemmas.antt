-- The fronts as a set by rising number.
use Rattle.std.proofs.Common.{◌≡◌, ℕ, ◌<◌, Bool, true, false, cond, eqb, ltb, List, [], ◌∷◌, refl, ap, arith}
use Rattle.std.specs.declared.cmp.Ordering.TheVariants.{Less, Equal, Greater}
use Rattle.std.specs.Ordering.{nat_cmp, match_ordering}
use Rattle.std.specs.BTreeMap.{is_at}
use Rattle.std.specs.BTreeSet.{insert_key}
use Rattle.std.specs.Set.{remove_key}
use Rattle.std.specs.List.{list_any}
use Rattle.std.proofs.lemmas.Bool.Decides.{nat_tests}
use Rattle.kn_tables.specs.Lists.{in_place, without}
use Rattle.kn_server_core.specs.FrontLists.{AreWithin}

test_is : (f x : ℕ) → is_at (nat_cmp f) x ≡ eqb x f
test_is f x = grind (arith, nat_tests)

any_same : (f : ℕ) (b c d e : Bool) → b ≡ c → d ≡ e → cond b true d ≡ cond c true e
any_same f b c d e h i = rw (h, i) refl

pub found_same : (f : ℕ) (xs : List ℕ) → list_any (is_at (nat_cmp f)) xs ≡ list_any (λ x. eqb x f) xs
found_same f [] = refl
found_same f (x ∷ xs) = rw (test_is f x, found_same f xs) refl

cond_same : (b c : Bool) (xs ys zs : List ℕ) → b ≡ c → ys ≡ zs → cond b xs ys ≡ cond c xs zs
cond_same b c xs ys zs h i = rw (h, i) refl

pub removed_same : (f : ℕ) (xs : List ℕ) → remove_key (is_at (nat_cmp f)) xs ≡ without (λ x. eqb x f) xs
removed_same f [] = refl
removed_same f (x ∷ xs) = cond_same (is_at (nat_cmp f) x) (eqb x f) xs (x ∷ remove_key (is_at (nat_cmp f)) xs) (x ∷ without (λ y. eqb y f) xs) (test_is f x) (ap (λ l. x ∷ l) (removed_same f xs))

put_here : (f x : ℕ) (xs ys zs : List ℕ) (b c : Bool) → ltb f x ≡ b → eqb f x ≡ c → x < f → ys ≡ zs → match_ordering (cond b Less (cond c Equal Greater)) (f ∷ x ∷ xs) (x ∷ xs) (x ∷ ys) ≡ cond b (f ∷ x ∷ xs) (x ∷ zs)
put_here f x xs ys zs true c h i l e = refl
put_here f x xs ys zs false true h i l e = absurd (grind (arith, nat_tests))
put_here f x xs ys zs false false h i l e = ap (λ k. x ∷ k) e

pub put_same : (f top : ℕ) (xs : List ℕ) → top < f → AreWithin top xs → insert_key nat_cmp xs f ≡ in_place (λ x. x) f xs
put_same f top [] l w = refl
put_same f top (x ∷ xs) l w = let m : x < f = (let n = w.0 in omega arith) in put_here f x xs (insert_key nat_cmp xs f) (in_place (λ y. y) f xs) (ltb f x) (eqb f x) refl refl m (put_same f top xs l w.1)

raised : (f top : ℕ) (xs : List ℕ) → top < f → AreWithin top xs → AreWithin f xs
raised f top [] l w = tt
raised f top (x ∷ xs) l w = (let n = w.0 in omega arith, raised f top xs l w.1)

pub within_more : (f top : ℕ) (xs : List ℕ) → top < f → AreWithin top xs → AreWithin f (in_place (λ x. x) f xs)
within_more f top [] l w = (omega arith, tt)
within_more f top (x ∷ xs) l w = within_here (ltb f x) (within_more f top xs l w.1)
  where
    within_here : (b : Bool) → AreWithin f (in_place (λ y. y) f xs) → AreWithin f (cond b (f ∷ x ∷ xs) (x ∷ in_place (λ y. y) f xs))
    within_here true h = (omega arith, raised f top (x ∷ xs) l w)
    within_here false h = (let n = w.0 in omega arith, h)

pub within_less : (f top : ℕ) (xs : List ℕ) → AreWithin top xs → AreWithin top (without (λ x. eqb x f) xs)
within_less f top [] w = tt
within_less f top (x ∷ xs) w = less_here (eqb x f) (within_less f top xs w.1)
  where
    less_here : (b : Bool) → AreWithin top (without (λ y. eqb y f) xs) → AreWithin top (cond b xs (x ∷ without (λ y. eqb y f) xs))
    less_here true h = w.1
    less_here false h = (w.0, h)
