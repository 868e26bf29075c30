-- Look-ups in a table of which one entry changes.
use Rattle.std.proofs.Common.{◌≡◌, ℕ, Bool, true, false, cond, eqb, List, [], ◌∷◌, filter, map, Some, None, refl, ap, ◌∙◌, subst}
use Rattle.std.proofs.lemmas.Bool.Decides.{Decides-eqb}
use Rattle.kn_tables.specs.Lists.{IsRising, first_where, without}
use Rattle.kn_tables.specs.Holding.{is_held_dial}
use Rattle.kn_tables.specs.declared.held_entry.HeldEntry.{HeldEntry}
use Rattle.kn_server_core.proofs.OrderLemmas.{none_at}
use Rattle.kn_server_core.proofs.SoundLemmas.{passes}

-- the entry that is taken out is not the one that is looked up
pub kept_without : {E : Type 0} (q r : E → Bool) (e : E) (xs : List E) → first_where r xs ≡ Some e → q e ≡ false → first_where q (without r xs) ≡ first_where q xs
kept_without q r e [] f h = absurd cc
kept_without q r e (y ∷ ys) f h = here (r y) refl f (λ l. kept_without q r e ys l h)
  where
    here : (b : Bool) → r y ≡ b → cond b (Some y) (first_where r ys) ≡ Some e → (first_where r ys ≡ Some e → first_where q (without r ys) ≡ first_where q ys) → first_where q (cond b ys (y ∷ without r ys)) ≡ first_where q (y ∷ ys)
    here true t f later = let m : y ≡ e = cc in let n : q y ≡ false = ap q m ∙ h in rw n refl
    here false t f later = rw (later f) refl

-- the entry of a number is taken out
pub gone_without : {E : Type 0} (number : E → ℕ) (r : E → Bool) (n : ℕ) (x : E) (xs : List E) → IsRising number xs → first_where (λ y. eqb (number y) n) xs ≡ Some x → first_where r xs ≡ Some x → first_where (λ y. eqb (number y) n) (without r xs) ≡ None
gone_without number r n x [] o f h = absurd cc
gone_without number r n x (y ∷ ys) o f h = gone_here (eqb (number y) n) (r y) refl refl f h (λ l k. gone_without number r n x ys o.1 l k)
  where
    gone_here : (b c : Bool) → eqb (number y) n ≡ b → r y ≡ c → cond b (Some y) (first_where (λ z. eqb (number z) n) ys) ≡ Some x → cond c (Some y) (first_where r ys) ≡ Some x
        → (first_where (λ z. eqb (number z) n) ys ≡ Some x → first_where r ys ≡ Some x → first_where (λ z. eqb (number z) n) (without r ys) ≡ None) → first_where (λ z. eqb (number z) n) (cond c ys (y ∷ without r ys)) ≡ None
    gone_here true true i j f h later = let m : number y ≡ n = (Decides-eqb (number y) n).0 i in subst (λ k. first_where (λ z. eqb (number z) k) ys ≡ None) m (none_at number (number y) ys o.0)
    gone_here true false i j f h later = let m : y ≡ x = cc in absurd (let u : r x ≡ true = passes r x ys h in let v : r x ≡ false = subst (λ z. r z ≡ false) m j in cc)
    gone_here false true i j f h later = let m : y ≡ x = cc in absurd (let u : eqb (number x) n ≡ true = passes (λ z. eqb (number z) n) x ys f in let v : eqb (number x) n ≡ false = subst (λ z. eqb (number z) n ≡ false) m i in cc)
    gone_here false false i j f h later = rw i (later f h)

-- the first of none is none
pub none_without : {E : Type 0} (q r : E → Bool) (xs : List E) → first_where q xs ≡ None → first_where q (without r xs) ≡ None
none_without q r [] h = refl
none_without q r (y ∷ ys) h = here (q y) (r y) refl h (λ l. none_without q r ys l)
  where
    here : (b c : Bool) → q y ≡ b → cond b (Some y) (first_where q ys) ≡ None → (first_where q ys ≡ None → first_where q (without r ys) ≡ None) → first_where q (cond c ys (y ∷ without r ys)) ≡ None
    here true c t h later = absurd cc
    here false true t h later = h
    here false false t h later = rw t (later h)

-- the entry of a dial, changed
pub mapped_found : (g : HeldEntry → HeldEntry) (d : ℕ) (x : HeldEntry) (xs : List HeldEntry) → ((y : HeldEntry) → (g y).dial ≡ y.dial) → first_where (is_held_dial d) xs ≡ Some x → first_where (is_held_dial d) (map g xs) ≡ Some (g x)
mapped_found g d x [] same f = absurd cc
mapped_found g d x (y ∷ ys) same f = here (eqb y.dial d) refl f (λ l. mapped_found g d x ys same l)
  where
    here : (b : Bool) → eqb y.dial d ≡ b → cond b (Some y) (first_where (is_held_dial d) ys) ≡ Some x → (first_where (is_held_dial d) ys ≡ Some x → first_where (is_held_dial d) (map g ys) ≡ Some (g x)) → first_where (is_held_dial d) (map g (y ∷ ys)) ≡ Some (g x)
    here true i f later = let m : y ≡ x = cc in let k : eqb (g y).dial d ≡ true = ap (λ w. eqb w d) (same y) ∙ i in let e : Some (g y) ≡ Some (g x) = ap (λ (z : HeldEntry). Some (g z)) m in rw k e
    here false i f later = let k : eqb (g y).dial d ≡ false = ap (λ w. eqb w d) (same y) ∙ i in rw k (later f)

-- the entries that pass a test go
pub kept_filter : {E : Type 0} (q p : E → Bool) (xs : List E) → ((x : E) → q x ≡ true → p x ≡ true) → first_where q (filter p xs) ≡ first_where q xs
kept_filter q p [] h = refl
kept_filter q p (y ∷ ys) h = here (p y) (q y) refl refl (kept_filter q p ys h)
  where
    here : (b c : Bool) → p y ≡ b → q y ≡ c → first_where q (filter p ys) ≡ first_where q ys → first_where q (cond b (y ∷ filter p ys) (filter p ys)) ≡ cond c (Some y) (first_where q ys)
    here true true i j later = rw j refl
    here true false i j later = rw j later
    here false true i j later = absurd (cc (h y j, i))
    here false false i j later = later
