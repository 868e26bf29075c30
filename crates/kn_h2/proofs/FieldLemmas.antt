-- Heads gone through field by field.
use Rattle.std.proofs.Common.{◌≡◌, ℕ, zero, suc, ◌+◌, ◌<◌, ◌≤◌, Bool, true, false, not, ◌&&◌, ◌||◌, cond, List, [], ◌∷◌, length, drop, slice_get, bytes_eq, Option, Some, None, IfSome, refl, sym, ap, ◌∙◌, arith, add-one}
use Rattle.std.specs.List.{list_any}
use Rattle.std.proofs.lemmas.List.{drop_all}
use Rattle.std.proofs.lemmas.List.Sums.{sum_by-cons}
use Rattle.kn_hpack.specs.Fields.{Field, pair}
use Rattle.kn_h2_state.specs.Heads.{is_pseudo, is_late, times}
use Rattle.kn_h2.specs.Blocks.{is_late_after}

-- a test of a name, at the field that has it
pub on_name : (q : List ℕ → Bool) (o : Option Field) (n : List ℕ) (b : Bool) → IfSome o (λ f. n ≡ f.name) → q n ≡ b → IfSome o (λ f. q f.name ≡ b)
on_name q None n b e t = tt
on_name q (Some f) n b e t = ap q (sym e) ∙ t

-- a test of a field, at the one of this name and value
pub on_field : (p : Field → Bool) (o : Option Field) (n v : List ℕ) (b : Bool) → IfSome o (λ f. n ≡ f.name) → IfSome o (λ f. v ≡ f.value) → p (pair n v) ≡ b → IfSome o (λ f. p f ≡ b)
on_field p None n v b e g t = tt
on_field p (Some f) n v b e g t = (ap (λ (x : List ℕ). p (pair x f.value)) (sym e) ∙ ap (λ (x : List ℕ). p (pair n x)) (sym g)) ∙ t

-- a field that fails the test
pub any_next : (p : Field → Bool) (fs : List Field) (i : ℕ) → i < length fs → IfSome (slice_get fs i) (λ f. p f ≡ false) → list_any p (drop i fs) ≡ list_any p (drop (i + 1) fs)
any_next p [] i h e = absurd (omega arith)
any_next p (f ∷ fs) zero h e = ap (λ b. b || list_any p fs) e
any_next p (f ∷ fs) (suc i) h e = rw (add-one (suc i)) (any_next p fs i (omega arith) e ∙ ap (λ k. list_any p (drop k fs)) (add-one i))

-- one that passes it
pub any_found : (p : Field → Bool) (fs : List Field) (i : ℕ) → i < length fs → IfSome (slice_get fs i) (λ f. p f ≡ true) → list_any p (drop i fs) ≡ true
any_found p [] i h e = absurd (omega arith)
any_found p (f ∷ fs) zero h e = ap (λ b. b || list_any p fs) e
any_found p (f ∷ fs) (suc i) h e = any_found p fs i (omega arith) e

-- one more name
pub times_next : (name : List ℕ) (fs : List Field) (i : ℕ) (n : List ℕ) → i < length fs → IfSome (slice_get fs i) (λ f. n ≡ f.name) → times name (drop i fs) ≡ cond (bytes_eq n name) 1 0 + times name (drop (i + 1) fs)
times_next name [] i n h e = absurd (omega arith)
times_next name (f ∷ fs) zero n h e =
    sum_by-cons (λ (g : Field). cond (bytes_eq g.name name) 1 0) f fs ∙ ap (λ (m : List ℕ). cond (bytes_eq m name) 1 0 + times name fs) (sym e)
times_next name (f ∷ fs) (suc i) n h e = rw (add-one (suc i)) (times_next name fs i n (omega arith) e ∙ ap (λ k. cond (bytes_eq n name) 1 0 + times name (drop k fs)) (add-one i))

late_step : (other pseudo any late : Bool) → (other && pseudo) ≡ false → ((other && (pseudo || any)) || ((not pseudo && any) || late)) ≡ (((other || not pseudo) && any) || late)
late_step true true any late h = absurd (cc)
late_step true false true late h = refl
late_step true false false late h = refl
late_step false true any late h = refl
late_step false false true late h = refl
late_step false false false late h = refl

-- a pseudo header after pseudo headers, or another header
pub late_next : (other : Bool) (fs : List Field) (i : ℕ) (pseudo : Bool) → i < length fs → IfSome (slice_get fs i) (λ f. is_pseudo f ≡ pseudo) → (other && pseudo) ≡ false
    → is_late_after other (drop i fs) ≡ is_late_after (other || not pseudo) (drop (i + 1) fs)
unfolding is_late
late_next other [] i pseudo h e t = absurd (omega arith)
late_next other (f ∷ fs) zero pseudo h e t =
    ap (λ p. (other && (p || list_any is_pseudo fs)) || ((not p && list_any is_pseudo fs) || is_late fs)) e ∙ late_step other pseudo (list_any is_pseudo fs) (is_late fs) t
late_next other (f ∷ fs) (suc i) pseudo h e t = rw (add-one (suc i)) (late_next other fs i pseudo (omega arith) e t ∙ ap (λ k. is_late_after (other || not pseudo) (drop k fs)) (add-one i))

-- a pseudo header after another header
pub late_found : (fs : List Field) (i : ℕ) → i < length fs → IfSome (slice_get fs i) (λ f. is_pseudo f ≡ true) → is_late_after true (drop i fs) ≡ true
unfolding is_late
late_found [] i h e = absurd (omega arith)
late_found (f ∷ fs) zero h e = ap (λ p. (p || list_any is_pseudo fs) || ((not p && list_any is_pseudo fs) || is_late fs)) e
late_found (f ∷ fs) (suc i) h e = late_found fs i (omega arith) e

-- no field is left
pub late_end : (other : Bool) (fs : List Field) (i : ℕ) → length fs ≤ i → is_late_after other (drop i fs) ≡ false
unfolding is_late
late_end other fs i h = rw (drop_all i fs h) (none_left other)
  where
    none_left : (o : Bool) → ((o && false) || false) ≡ false
    none_left true = refl
    none_left false = refl

pub and_false : (b : Bool) → (b && false) ≡ false
and_false true = refl
and_false false = refl
