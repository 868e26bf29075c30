-- Lists of entries that rise, whose connections are apart, and of which something holds: through the changes of the tables.
use Rattle.std.proofs.Common.{◌≡◌, ℕ, ℤ, ◌<◌, Bool, true, false, cond, eqb, ltb, ◌&&◌, ◌||◌, List, [], ◌∷◌, ◌++◌, map, filter, Some, None, refl, sym, ap, ◌∙◌, subst, arith}
use Rattle.std.specs.List.{list_any}
use Rattle.std.specs.Ordering.{int_eq}
use Rattle.std.proofs.lemmas.Bool.Decides.{Decides-eqb, nat_tests}
use Rattle.kn_tables.specs.declared.held_entry.HeldEntry.{HeldEntry}
use Rattle.kn_tables.specs.Lists.{first_where, without, in_place, IsRising, AreAbove}
use Rattle.kn_tables.specs.Holding.{is_held, AreApart}
use Rattle.kn_server_core.proofs.LossLemmas.{same_held}
use Rattle.kn_server_core.proofs.SoundLemmas.{none_without, first_in_place}
use Rattle.kn_server_core.specs.Isolation.{Each}

-- ---- rising
above_without : {E : Type 0} (number : E → ℕ) (n : ℕ) (r : E → Bool) (xs : List E) → AreAbove number n xs → AreAbove number n (without r xs)
above_without number n r [] h = tt
above_without number n r (x ∷ xs) h = without_here (r x) (above_without number n r xs h.1)
  where
    without_here : (b : Bool) → AreAbove number n (without r xs) → AreAbove number n (cond b xs (x ∷ without r xs))
    without_here true later = h.1
    without_here false later = (h.0, later)

pub rising_without : {E : Type 0} (number : E → ℕ) (r : E → Bool) (xs : List E) → IsRising number xs → IsRising number (without r xs)
rising_without number r [] h = tt
rising_without number r (x ∷ xs) h = without_here (r x) (rising_without number r xs h.1)
  where
    without_here : (b : Bool) → IsRising number (without r xs) → IsRising number (cond b xs (x ∷ without r xs))
    without_here true later = h.1
    without_here false later = (above_without number (number x) r xs h.0, later)

above_filter : {E : Type 0} (number : E → ℕ) (n : ℕ) (p : E → Bool) (xs : List E) → AreAbove number n xs → AreAbove number n (filter p xs)
above_filter number n p [] h = tt
above_filter number n p (x ∷ xs) h = filter_here (p x) (above_filter number n p xs h.1)
  where
    filter_here : (b : Bool) → AreAbove number n (filter p xs) → AreAbove number n (cond b (x ∷ filter p xs) (filter p xs))
    filter_here true later = (h.0, later)
    filter_here false later = later

pub rising_filter : {E : Type 0} (number : E → ℕ) (p : E → Bool) (xs : List E) → IsRising number xs → IsRising number (filter p xs)
rising_filter number p [] h = tt
rising_filter number p (x ∷ xs) h = filter_here (p x) (rising_filter number p xs h.1)
  where
    filter_here : (b : Bool) → IsRising number (filter p xs) → IsRising number (cond b (x ∷ filter p xs) (filter p xs))
    filter_here true later = (above_filter number (number x) p xs h.0, later)
    filter_here false later = later

above_mapped : {E : Type 0} (number : E → ℕ) (n : ℕ) (g : E → E) (xs : List E) → ((x : E) → number (g x) ≡ number x) → AreAbove number n xs → AreAbove number n (map g xs)
above_mapped number n g [] same h = tt
above_mapped number n g (x ∷ xs) same h = (let k = same x in let l = h.0 in omega arith, above_mapped number n g xs same h.1)

pub rising_mapped : {E : Type 0} (number : E → ℕ) (g : E → E) (xs : List E) → ((x : E) → number (g x) ≡ number x) → IsRising number xs → IsRising number (map g xs)
rising_mapped number g [] same h = tt
rising_mapped number g (x ∷ xs) same h = (subst (λ n. AreAbove number n (map g xs)) (sym (same x)) (above_mapped number (number x) g xs same h.0), rising_mapped number g xs same h.1)

above_put : {E : Type 0} (number : E → ℕ) (n : ℕ) (e : E) (xs : List E) → n < number e → AreAbove number n xs → AreAbove number n (in_place number e xs)
above_put number n e [] l h = (l, tt)
above_put number n e (x ∷ xs) l h = put_here (ltb (number e) (number x)) (above_put number n e xs l h.1)
  where
    put_here : (b : Bool) → AreAbove number n (in_place number e xs) → AreAbove number n (cond b (e ∷ x ∷ xs) (x ∷ in_place number e xs))
    put_here true later = (l, h)
    put_here false later = (h.0, later)

above_lower : {E : Type 0} (number : E → ℕ) (n m : ℕ) (xs : List E) → n < m → AreAbove number m xs → AreAbove number n xs
above_lower number n m [] l h = tt
above_lower number n m (x ∷ xs) l h = (let k = h.0 in omega arith, above_lower number n m xs l h.1)

below_if : (a b : ℕ) → ltb a b ≡ true → a < b
below_if a b h = grind (arith, nat_tests)

above_if : (a b : ℕ) → ltb a b ≡ false → eqb b a ≡ false → b < a
above_if a b h i = grind (arith, nat_tests)

pub rising_put : {E : Type 0} (number : E → ℕ) (e : E) (xs : List E) → IsRising number xs → first_where (λ x. eqb (number x) (number e)) xs ≡ None → IsRising number (in_place number e xs)
rising_put number e [] h n = (tt, tt)
rising_put number e (x ∷ xs) h n = put_here (ltb (number e) (number x)) (eqb (number x) (number e)) refl refl n (λ m. rising_put number e xs h.1 m)
  where
    put_here : (b c : Bool) → ltb (number e) (number x) ≡ b → eqb (number x) (number e) ≡ c → cond c (Some x) (first_where (λ y. eqb (number y) (number e)) xs) ≡ None
        → (first_where (λ y. eqb (number y) (number e)) xs ≡ None → IsRising number (in_place number e xs)) → IsRising number (cond b (e ∷ x ∷ xs) (x ∷ in_place number e xs))
    put_here b true i j n later = absurd cc
    put_here true false i j n later = ((below_if (number e) (number x) i, above_lower number (number e) (number x) xs (below_if (number e) (number x) i) h.0), h)
    put_here false false i j n later = (above_put number (number x) e xs (above_if (number e) (number x) i j) h.0, later n)

-- what is above a number is not of it
pub none_at : {E : Type 0} (number : E → ℕ) (n : ℕ) (xs : List E) → AreAbove number n xs → first_where (λ x. eqb (number x) n) xs ≡ None
none_at number n [] h = refl
none_at number n (x ∷ xs) h = none_here (eqb (number x) n) refl (none_at number n xs h.1)
  where
    none_here : (b : Bool) → eqb (number x) n ≡ b → first_where (λ y. eqb (number y) n) xs ≡ None → cond b (Some x) (first_where (λ y. eqb (number y) n) xs) ≡ None
    none_here true i later = let m : number x ≡ n = (Decides-eqb (number x) n).0 i in let l = h.0 in absurd (omega arith)
    none_here false i later = later

-- a number that was taken out is there no more
pub none_after : {E : Type 0} (number : E → ℕ) (n : ℕ) (xs : List E) → IsRising number xs → first_where (λ x. eqb (number x) n) (without (λ x. eqb (number x) n) xs) ≡ None
none_after number n [] h = refl
none_after number n (x ∷ xs) h = after_here (eqb (number x) n) refl (none_after number n xs h.1)
  where
    after_here : (b : Bool) → eqb (number x) n ≡ b → first_where (λ y. eqb (number y) n) (without (λ y. eqb (number y) n) xs) ≡ None → first_where (λ y. eqb (number y) n) (cond b xs (x ∷ without (λ y. eqb (number y) n) xs)) ≡ None
    after_here true i later = let m : number x ≡ n = (Decides-eqb (number x) n).0 i in subst (λ k. first_where (λ y. eqb (number y) k) xs ≡ None) m (none_at number (number x) xs h.0)
    after_here false i later = rw i later

-- ---- apart
pub none_filter : {E : Type 0} (q p : E → Bool) (xs : List E) → first_where q xs ≡ None → first_where q (filter p xs) ≡ None
none_filter q p [] h = refl
none_filter q p (x ∷ xs) h = none_here (q x) (p x) refl h (λ l. none_filter q p xs l)
  where
    none_here : (b c : Bool) → q x ≡ b → cond b (Some x) (first_where q xs) ≡ None → (first_where q xs ≡ None → first_where q (filter p xs) ≡ None) → first_where q (cond c (x ∷ filter p xs) (filter p xs)) ≡ None
    none_here true c i h later = absurd cc
    none_here false true i h later = rw i (later h)
    none_here false false i h later = later h

pub apart_without : (r : HeldEntry → Bool) (xs : List HeldEntry) → AreApart xs → AreApart (without r xs)
apart_without r [] h = tt
apart_without r (x ∷ xs) h = without_here (r x) (apart_without r xs h.1)
  where
    without_here : (b : Bool) → AreApart (without r xs) → AreApart (cond b xs (x ∷ without r xs))
    without_here true later = h.1
    without_here false later = (none_without (is_held x.link x.connect_id) r xs h.0, later)

pub apart_filter : (p : HeldEntry → Bool) (xs : List HeldEntry) → AreApart xs → AreApart (filter p xs)
apart_filter p [] h = tt
apart_filter p (x ∷ xs) h = filter_here (p x) (apart_filter p xs h.1)
  where
    filter_here : (b : Bool) → AreApart (filter p xs) → AreApart (cond b (x ∷ filter p xs) (filter p xs))
    filter_here true later = (none_filter (is_held x.link x.connect_id) p xs h.0, later)
    filter_here false later = later

-- changes that keep each entry's connection
abbrev pub KeepsConnections : (HeldEntry → HeldEntry) → Type 0
KeepsConnections g = (x : HeldEntry) → ((g x).link ≡ x.link) × ((g x).connect_id ≡ x.connect_id)

pub none_kept : (g : HeldEntry → HeldEntry) (link : ℕ) (connect_id : ℤ) (xs : List HeldEntry) → KeepsConnections g → first_where (is_held link connect_id) xs ≡ None → first_where (is_held link connect_id) (map g xs) ≡ None
none_kept g link connect_id [] k h = refl
none_kept g link connect_id (x ∷ xs) k h = kept_here (is_held link connect_id x) refl h (λ l. none_kept g link connect_id xs k l)
  where
    kept_here : (b : Bool) → is_held link connect_id x ≡ b → cond b (Some x) (first_where (is_held link connect_id) xs) ≡ None → (first_where (is_held link connect_id) xs ≡ None → first_where (is_held link connect_id) (map g xs) ≡ None) → first_where (is_held link connect_id) (g x ∷ map g xs) ≡ None
    kept_here true i h later = absurd cc
    kept_here false i h later =
        let n : is_held link connect_id (g x) ≡ false = ap (λ l. eqb l link && int_eq (g x).connect_id connect_id) (k x).0 ∙ ap (λ c. eqb x.link link && int_eq c connect_id) (k x).1 ∙ i in
        rw n (later h)

pub apart_mapped : (g : HeldEntry → HeldEntry) (xs : List HeldEntry) → KeepsConnections g → AreApart xs → AreApart (map g xs)
apart_mapped g [] k h = tt
apart_mapped g (x ∷ xs) k h = (
  subst (λ l. first_where (is_held l (g x).connect_id) (map g xs) ≡ None) (sym (k x).0)
      (subst (λ c. first_where (is_held x.link c) (map g xs) ≡ None) (sym (k x).1) (none_kept g x.link x.connect_id xs k h.0)),
  apart_mapped g xs k h.1,
)

pub apart_put : (e : HeldEntry) (xs : List HeldEntry) → AreApart xs → first_where (is_held e.link e.connect_id) xs ≡ None → AreApart (in_place (λ x. x.dial) e xs)
apart_put e [] h n = (refl, tt)
apart_put e (x ∷ xs) h n = put_here (ltb e.dial x.dial) (is_held e.link e.connect_id x) refl n (λ m. apart_put e xs h.1 m)
  where
    put_here : (b c : Bool) → is_held e.link e.connect_id x ≡ c → cond c (Some x) (first_where (is_held e.link e.connect_id) xs) ≡ None
        → (first_where (is_held e.link e.connect_id) xs ≡ None → AreApart (in_place (λ y. y.dial) e xs)) → AreApart (cond b (e ∷ x ∷ xs) (x ∷ in_place (λ y. y.dial) e xs))
    put_here b true i n later = absurd cc
    put_here true false i n later = (rw i n, h)
    put_here false false i n later =
        let k : is_held x.link x.connect_id e ≡ false = same_held e x i in
        (first_in_place (λ (y : HeldEntry). y.dial) (is_held x.link x.connect_id) e xs k ∙ h.0, later n)

-- ---- what holds of each entry
pub each_without : {E : Type 0} (P : E → Type 0) (r : E → Bool) (xs : List E) → Each P xs → Each P (without r xs)
each_without P r [] h = tt
each_without P r (x ∷ xs) h = without_here (r x) (each_without P r xs h.1)
  where
    without_here : (b : Bool) → Each P (without r xs) → Each P (cond b xs (x ∷ without r xs))
    without_here true later = h.1
    without_here false later = (h.0, later)

pub each_mapped : {E : Type 0} (P Q : E → Type 0) (g : E → E) (xs : List E) → ((x : E) → P x → Q (g x)) → Each P xs → Each Q (map g xs)
each_mapped P Q g [] f h = tt
each_mapped P Q g (x ∷ xs) f h = (f x h.0, each_mapped P Q g xs f h.1)

pub each_put : {E : Type 0} (number : E → ℕ) (P : E → Type 0) (e : E) (xs : List E) → P e → Each P xs → Each P (in_place number e xs)
each_put number P e [] p h = (p, tt)
each_put number P e (x ∷ xs) p h = put_here (ltb (number e) (number x)) (each_put number P e xs p h.1)
  where
    put_here : (b : Bool) → Each P (in_place number e xs) → Each P (cond b (e ∷ x ∷ xs) (x ∷ in_place number e xs))
    put_here true later = (p, h)
    put_here false later = (h.0, later)

pub each_found : {E : Type 0} (P : E → Type 0) (r : E → Bool) (e : E) (xs : List E) → Each P xs → first_where r xs ≡ Some e → P e
each_found P r e [] h f = absurd cc
each_found P r e (x ∷ xs) h f = found_here (r x) f (λ l. each_found P r e xs h.1 l)
  where
    found_here : (b : Bool) → cond b (Some x) (first_where r xs) ≡ Some e → (first_where r xs ≡ Some e → P e) → P e
    found_here true f later = let m : x ≡ e = cc in subst P m h.0
    found_here false f later = later f

-- ---- what is in a list
pub any_append : {E : Type 0} (p : E → Bool) (xs ys : List E) → list_any p xs ≡ true → list_any p (xs ++ ys) ≡ true
any_append p [] ys h = absurd cc
any_append p (x ∷ xs) ys h = append_here (p x) h (λ l. any_append p xs ys l)
  where
    append_here : (b : Bool) → (b || list_any p xs) ≡ true → (list_any p xs ≡ true → list_any p (xs ++ ys) ≡ true) → (b || list_any p (xs ++ ys)) ≡ true
    append_here true h later = refl
    append_here false h later = later h

or_right : (b c : Bool) → c ≡ true → (b || c) ≡ true
or_right true c h = refl
or_right false c h = h

pub any_put : {E : Type 0} (number : E → ℕ) (p : E → Bool) (e : E) (xs : List E) → list_any p xs ≡ true → list_any p (in_place number e xs) ≡ true
any_put number p e [] h = absurd cc
any_put number p e (x ∷ xs) h = put_here (ltb (number e) (number x)) (p x) refl h (λ l. any_put number p e xs l)
  where
    put_here : (b c : Bool) → p x ≡ c → (c || list_any p xs) ≡ true → (list_any p xs ≡ true → list_any p (in_place number e xs) ≡ true) → list_any p (cond b (e ∷ x ∷ xs) (x ∷ in_place number e xs)) ≡ true
    put_here true c i h later = or_right (p e) (p x || list_any p xs) (rw i h)
    put_here false true i h later = rw i refl
    put_here false false i h later = or_right (p x) (list_any p (in_place number e xs)) (later h)

pub any_filter : {E : Type 0} (p q : E → Bool) (xs : List E) → ((x : E) → p x ≡ true → q x ≡ true) → list_any p xs ≡ true → list_any p (filter q xs) ≡ true
any_filter p q [] f h = absurd cc
any_filter p q (x ∷ xs) f h = filter_here (q x) (p x) refl refl h (λ l. any_filter p q xs f l)
  where
    filter_here : (b c : Bool) → q x ≡ b → p x ≡ c → (c || list_any p xs) ≡ true → (list_any p xs ≡ true → list_any p (filter q xs) ≡ true) → list_any p (cond b (x ∷ filter q xs) (filter q xs)) ≡ true
    filter_here true true i j h later = rw j refl
    filter_here true false i j h later = or_right (p x) (list_any p (filter q xs)) (later h)
    filter_here false true i j h later = let z = f x j in absurd cc
    filter_here false false i j h later = later h

pub any_without : {E : Type 0} (p r : E → Bool) (xs : List E) → ((x : E) → p x ≡ true → r x ≡ false) → list_any p xs ≡ true → list_any p (without r xs) ≡ true
any_without p r [] f h = absurd cc
any_without p r (x ∷ xs) f h = without_here (r x) (p x) refl refl h (λ l. any_without p r xs f l)
  where
    without_here : (b c : Bool) → r x ≡ b → p x ≡ c → (c || list_any p xs) ≡ true → (list_any p xs ≡ true → list_any p (without r xs) ≡ true) → list_any p (cond b xs (x ∷ without r xs)) ≡ true
    without_here true true i j h later = let z = f x j in absurd cc
    without_here true false i j h later = h
    without_here false true i j h later = rw j refl
    without_here false false i j h later = or_right (p x) (list_any p (without r xs)) (later h)

pub any_mapped : {E : Type 0} (p : E → Bool) (g : E → E) (xs : List E) → ((x : E) → p (g x) ≡ p x) → list_any p (map g xs) ≡ list_any p xs
any_mapped p g [] same = refl
any_mapped p g (x ∷ xs) same = rw (same x, any_mapped p g xs same) refl
