-- Lists of entries: what stays, and what is found in them.
use Rattle.std.proofs.Common.{◌≡◌, ℕ, ℤ, Bool, true, false, not, cond, eqb, ◌&&◌, ◌||◌, List, [], ◌∷◌, ◌++◌, map, filter, Some, inl, inr, ◌⊎◌, refl, sym, ap, subst}
use Rattle.std.specs.List.{list_any}
use Rattle.std.specs.Bool.{IsTrue, nat_lt}
use Rattle.std.specs.Ordering.{int_eq}
use Rattle.std.proofs.lemmas.Bool.Decides.{Decides-eqb, Decides-int_eq}
use Rattle.kn_tables.specs.Lists.{first_where, without, in_place}
use Rattle.kn_server_core.specs.declared.event.ServerOut.{ServerOut}
use Rattle.kn_server_core.specs.Isolation.{Each, DifferOnlyWhere}

-- ---- what stays of a list
pub others_put : {E : Type 0} (number : E → ℕ) (p : E → Bool) (e : E) (xs : List E) → p e ≡ true → filter (λ x. not (p x)) (in_place number e xs) ≡ filter (λ x. not (p x)) xs
others_put number p e [] h = rw h refl
others_put number p e (x ∷ xs) h = put_here (nat_lt (number e) (number x)) (p x) refl (others_put number p e xs h)
  where
    put_here : (b c : Bool) → p x ≡ c → filter (λ y. not (p y)) (in_place number e xs) ≡ filter (λ y. not (p y)) xs → filter (λ y. not (p y)) (cond b (e ∷ x ∷ xs) (x ∷ in_place number e xs)) ≡ filter (λ y. not (p y)) (x ∷ xs)
    put_here true c i later = rw h refl
    put_here false true i later = rw i later
    put_here false false i later = rw i (ap (λ l. x ∷ l) later)

-- the first of a kind is taken out
pub others_taken : {E : Type 0} (p r : E → Bool) (e : E) (xs : List E) → first_where r xs ≡ Some e → p e ≡ true → filter (λ x. not (p x)) (without r xs) ≡ filter (λ x. not (p x)) xs
others_taken p r e [] f h = refl
others_taken p r e (x ∷ xs) f h = taken_here (r x) (p x) refl f (λ l. others_taken p r e xs l h)
  where
    taken_here : (b c : Bool) → p x ≡ c → cond b (Some x) (first_where r xs) ≡ Some e → (first_where r xs ≡ Some e → filter (λ y. not (p y)) (without r xs) ≡ filter (λ y. not (p y)) xs) → filter (λ y. not (p y)) (cond b xs (x ∷ without r xs)) ≡ filter (λ y. not (p y)) (x ∷ xs)
    taken_here true true i f later = rw i refl
    taken_here true false i f later = let m : x ≡ e = cc in absurd (let u : p e ≡ false = subst (λ z. p z ≡ false) m i in cc)
    taken_here false true i f later = rw i (later f)
    taken_here false false i f later = rw i (ap (λ l. x ∷ l) (later f))

pub twice_filtered : {E : Type 0} (p : E → Bool) (xs : List E) → filter p (filter p xs) ≡ filter p xs
twice_filtered p [] = refl
twice_filtered p (x ∷ xs) = twice_here (p x) refl (twice_filtered p xs)
  where
    twice_here : (b : Bool) → p x ≡ b → filter p (filter p xs) ≡ filter p xs → filter p (cond b (x ∷ filter p xs) (filter p xs)) ≡ cond b (x ∷ filter p xs) (filter p xs)
    twice_here true i later = rw i (ap (λ l. x ∷ l) later)
    twice_here false i later = later

pub others_mapped : {E : Type 0} (p : E → Bool) (g : E → E) (xs : List E) → ((x : E) → p (g x) ≡ p x) → ((x : E) → p x ≡ false → g x ≡ x) → filter (λ x. not (p x)) (map g xs) ≡ filter (λ x. not (p x)) xs
others_mapped p g [] same kept = refl
others_mapped p g (x ∷ xs) same kept = mapped_here (p x) refl (others_mapped p g xs same kept)
  where
    mapped_here : (b : Bool) → p x ≡ b → filter (λ y. not (p y)) (map g xs) ≡ filter (λ y. not (p y)) xs → filter (λ y. not (p y)) (map g (x ∷ xs)) ≡ filter (λ y. not (p y)) (x ∷ xs)
    mapped_here true i later = rw (same x, i) later
    mapped_here false i later = let k = kept x i in rw (same x, i) (rw k (ap (λ l. x ∷ l) later))

pub others_added : {E : Type 0} (p : E → Bool) (e : E) (xs : List E) → p e ≡ true → filter (λ x. not (p x)) (xs ++ e ∷ []) ≡ filter (λ x. not (p x)) xs
others_added p e [] h = rw h refl
others_added p e (x ∷ xs) h = added_here (p x) (others_added p e xs h)
  where
    added_here : (b : Bool) → filter (λ y. not (p y)) (xs ++ e ∷ []) ≡ filter (λ y. not (p y)) xs → cond (not b) (x ∷ filter (λ y. not (p y)) (xs ++ e ∷ [])) (filter (λ y. not (p y)) (xs ++ e ∷ [])) ≡ cond (not b) (x ∷ filter (λ y. not (p y)) xs) (filter (λ y. not (p y)) xs)
    added_here true later = later
    added_here false later = ap (λ l. x ∷ l) later

-- ---- what differs
pub same_nowhere : {E : Type 0} (p : E → Bool) (xs : List E) → DifferOnlyWhere p xs xs
same_nowhere p [] = tt
same_nowhere p (x ∷ xs) = (inr refl, same_nowhere p xs)

pub mapped_where : {E : Type 0} (p : E → Bool) (g : E → E) (xs : List E) → ((x : E) → p x ≡ false → g x ≡ x) → DifferOnlyWhere p xs (map g xs)
mapped_where p g [] kept = tt
mapped_where p g (x ∷ xs) kept = (where_here (p x) refl, mapped_where p g xs kept)
  where
    where_here : (b : Bool) → p x ≡ b → IsTrue (p x) ⊎ (g x ≡ x)
    where_here true i = inl i
    where_here false i = inr (kept x i)

-- ---- what is found
-- an entry is in a list: any test that it passes is passed there
abbrev pub IsIn : {E : Type 0} → E → List E → Type 0
IsIn {E} e xs = (q : E → Bool) → q e ≡ true → list_any q xs ≡ true

or_later : (b c : Bool) → c ≡ true → (b || c) ≡ true
or_later true c h = refl
or_later false c h = h

or_first : (b c : Bool) → b ≡ true → (b || c) ≡ true
or_first true c h = refl
or_first false c h = absurd cc

pub found_in : {E : Type 0} (r : E → Bool) (e : E) (xs : List E) → first_where r xs ≡ Some e → IsIn e xs
found_in r e [] f = absurd cc
found_in r e (x ∷ xs) f = in_here (r x) f (λ l. found_in r e xs l)
  where
    in_here : (b : Bool) → cond b (Some x) (first_where r xs) ≡ Some e → (first_where r xs ≡ Some e → IsIn e xs) → IsIn e (x ∷ xs)
    in_here true f later = λ q h. let m : x ≡ e = cc in or_first (q x) (list_any q xs) (subst (λ z. q z ≡ true) (sym m) h)
    in_here false f later = λ q h. or_later (q x) (list_any q xs) (later f q h)

pub each_more : {E : Type 0} (P Q : E → Type 0) (xs : List E) → ((x : E) → P x → Q x) → Each P xs → Each Q xs
each_more P Q [] f h = tt
each_more P Q (x ∷ xs) f h = (f x h.0, each_more P Q xs f h.1)

each_in : {E : Type 0} (xs : List E) → Each (λ x. IsIn x xs) xs
each_in [] = tt
each_in (x ∷ xs) = (λ q h. or_first (q x) (list_any q xs) h, each_more (λ y. IsIn y xs) (λ y. IsIn y (x ∷ xs)) xs (λ y i q h. or_later (q x) (list_any q xs) (i q h)) (each_in xs))

pub each_kept : {E : Type 0} (P : E → Type 0) (p : E → Bool) (xs : List E) → Each P xs → Each (λ x. (p x ≡ true) × P x) (filter p xs)
each_kept P p [] h = tt
each_kept P p (x ∷ xs) h = kept_here (p x) refl (each_kept P p xs h.1)
  where
    kept_here : (b : Bool) → p x ≡ b → Each (λ y. (p y ≡ true) × P y) (filter p xs) → Each (λ y. (p y ≡ true) × P y) (cond b (x ∷ filter p xs) (filter p xs))
    kept_here true i later = ((i, h.0), later)
    kept_here false i later = later

-- what a list has that passes a test
pub each_of_kind : {E : Type 0} (p : E → Bool) (xs : List E) → Each (λ x. (p x ≡ true) × IsIn x xs) (filter p xs)
each_of_kind p xs = each_kept (λ x. IsIn x xs) p xs (each_in xs)

-- ---- outputs
pub each_append : (P : ServerOut → Type 0) (os us : List ServerOut) → Each P os → Each P us → Each P (os ++ us)
each_append P [] us h i = i
each_append P (o ∷ os) us h i = (h.0, each_append P os us h.1 i)

pub both_true : (b c : Bool) → b ≡ true → c ≡ true → (b && c) ≡ true
both_true true c h i = i
both_true false c h i = absurd cc

pub same_number : (n : ℕ) → eqb n n ≡ true
same_number n = (Decides-eqb n n).1 refl

pub same_signed : (n : ℤ) → int_eq n n ≡ true
same_signed n = (Decides-int_eq n n).1 refl
