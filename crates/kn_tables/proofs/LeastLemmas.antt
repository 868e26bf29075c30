-- The held entry of a link with the least connectID.
use Rattle.std.proofs.Common.{◌≡◌, ℕ, ℤ, Bool, true, false, cond, List, [], ◌∷◌, Option, Some, None, Ordering, refl, sym, ap, ◌∙◌, subst}
use Rattle.std.specs.declared.cmp.Ordering.TheVariants.{Less, Equal, Greater}
use Rattle.std.specs.Ordering.{nat_cmp, int_cmp, is_gt, is_lt, ordering_reverse}
use Rattle.std.specs.Map.{values_of}
use Rattle.std.specs.BTreeMap.{is_at}
use Rattle.std.specs.List.{filter}
use Rattle.std.proofs.lemmas.Cmp.{int_cmp_total}
use Rattle.std.proofs.lemmas.Map.Lookups.{exact_signed}
use Rattle.kn_tables.specs.declared.held_entry.HeldEntry.{HeldEntry}
use Rattle.kn_tables.specs.Holding.{by_connect_id, in_order, first_of}
use Rattle.kn_tables.specs.Indexed.{at_number}
use Rattle.kn_tables.proofs.IndexLemmas.{AreFound, own_number}

abbrev lesser : HeldEntry → Option HeldEntry → HeldEntry
lesser e None = e
lesser e (Some x) = cond (is_lt (int_cmp x.connect_id e.connect_id)) x e

first_in_order : (e : HeldEntry) (l : List HeldEntry) → first_of (in_order e l) ≡ Some (lesser e (first_of l))
first_in_order e [] = refl
first_in_order e (x ∷ xs) = first_if (is_lt (int_cmp x.connect_id e.connect_id))
  where
    first_if : (b : Bool) → first_of (cond b (x ∷ in_order e xs) (e ∷ x ∷ xs)) ≡ Some (cond b x e)
    first_if true = refl
    first_if false = refl

lt_reverse : (o : Ordering) → is_lt (ordering_reverse o) ≡ is_gt o
lt_reverse Less = refl
lt_reverse Equal = refl
lt_reverse Greater = refl

lt_flip : (a b : ℤ) → is_lt (int_cmp a b) ≡ is_gt (int_cmp b a)
lt_flip a b = rw (int_cmp_total.antisymm a b) (lt_reverse (int_cmp b a))

lt_unless : (a b : ℤ) (o : Ordering) → int_cmp a b ≡ o → is_gt o ≡ false → (a ≡ b → ⊥) → is_lt o ≡ true
lt_unless a b Less e g n = refl
lt_unless a b Equal e g n = absurd (n (exact_signed a b e))
lt_unless a b Greater e g n = absurd cc

-- the first by connectID, of a list with one more in front
first_more : (p : HeldEntry → Bool) (x : HeldEntry) (xs : List HeldEntry) → p x ≡ true → first_of (by_connect_id (filter p (x ∷ xs))) ≡ Some (lesser x (first_of (by_connect_id (filter p xs))))
first_more p x xs h = rw h (first_in_order x (by_connect_id (filter p xs)))

first_less : (p : HeldEntry → Bool) (x : HeldEntry) (xs : List HeldEntry) → p x ≡ false → first_of (by_connect_id (filter p (x ∷ xs))) ≡ first_of (by_connect_id (filter p xs))
first_less p x xs h = rw h refl

module _ (find : ℕ → Option HeldEntry) (p : HeldEntry → Bool) (v : HeldEntry) (least : (r : ℕ) (w : HeldEntry) → find r ≡ Some w → p w ≡ true → is_gt (int_cmp v.connect_id w.connect_id) ≡ false) where
  above_if : (x y : HeldEntry) (o : Option HeldEntry) → Some (lesser x o) ≡ Some y → is_gt (int_cmp v.connect_id x.connect_id) ≡ false → ((z : HeldEntry) → o ≡ Some z → is_gt (int_cmp v.connect_id z.connect_id) ≡ false) → is_gt (int_cmp v.connect_id y.connect_id) ≡ false
  above_if x y None h here later = let m : x ≡ y = cc in subst (λ z. is_gt (int_cmp v.connect_id z.connect_id) ≡ false) m here
  above_if x y (Some z) h here later = above_at (is_lt (int_cmp z.connect_id x.connect_id)) h
    where
      above_at : (b : Bool) → Some (cond b z x) ≡ Some y → is_gt (int_cmp v.connect_id y.connect_id) ≡ false
      above_at true h = let m : z ≡ y = cc in subst (λ u. is_gt (int_cmp v.connect_id u.connect_id) ≡ false) m (later z refl)
      above_at false h = let m : x ≡ y = cc in subst (λ u. is_gt (int_cmp v.connect_id u.connect_id) ≡ false) m here

  -- what comes first of some entries is not below the least
  first_above : (es : List (ℕ × HeldEntry)) → AreFound find es → (y : HeldEntry) → first_of (by_connect_id (filter p (values_of es))) ≡ Some y → is_gt (int_cmp v.connect_id y.connect_id) ≡ false
  first_above [] f y h = absurd cc
  first_above (x ∷ xs) f y h = above_more (p x.1) refl (λ z l. first_above xs f.1 z l)
    where
      above_more : (b : Bool) → p x.1 ≡ b → ((z : HeldEntry) → first_of (by_connect_id (filter p (values_of xs))) ≡ Some z → is_gt (int_cmp v.connect_id z.connect_id) ≡ false) → is_gt (int_cmp v.connect_id y.connect_id) ≡ false
      above_more true e later = above_if x.1 y (first_of (by_connect_id (filter p (values_of xs)))) (sym (first_more p x.1 (values_of xs) e) ∙ h) (least x.0 x.1 f.0 e) later
      above_more false e later = later y (sym (first_less p x.1 (values_of xs) e) ∙ h)

  least_kept : (o : Option HeldEntry) → ((z : HeldEntry) → o ≡ Some z → is_gt (int_cmp v.connect_id z.connect_id) ≡ false) → Some (lesser v o) ≡ Some v
  least_kept None h = refl
  least_kept (Some z) h = rw (lt_flip z.connect_id v.connect_id ∙ h z refl) refl

  least_taken : (x : HeldEntry) → is_lt (int_cmp v.connect_id x.connect_id) ≡ true → Some (lesser x (Some v)) ≡ Some v
  least_taken x h = rw h refl

  pub least_first : (q : ℕ) (es : List (ℕ × HeldEntry)) → AreFound find es → p v ≡ true → ((r : ℕ) (w : HeldEntry) → find r ≡ Some w → p w ≡ true → v.connect_id ≡ w.connect_id → q ≡ r) → at_number es q ≡ Some v
      → first_of (by_connect_id (filter p (values_of es))) ≡ Some v
  least_first q [] f t only h = absurd cc
  least_first q (x ∷ xs) f t only h = least_here (is_at (nat_cmp q) x.0) (p x.1) refl refl h (λ l. least_first q xs f.1 t only l)
    where
      least_here : (b c : Bool) → is_at (nat_cmp q) x.0 ≡ b → p x.1 ≡ c → cond b (Some x.1) (at_number xs q) ≡ Some v
          → (at_number xs q ≡ Some v → first_of (by_connect_id (filter p (values_of xs))) ≡ Some v)
          → first_of (by_connect_id (filter p (x.1 ∷ values_of xs))) ≡ Some v
      least_here true true e i h later =
          let m : x.1 ≡ v = cc in
          first_more p x.1 (values_of xs) i
          ∙ ap (λ u. Some (lesser u (first_of (by_connect_id (filter p (values_of xs)))))) m
          ∙ least_kept (first_of (by_connect_id (filter p (values_of xs)))) (λ z l. first_above xs f.1 z l)
      least_here true false e i h later = let m : x.1 ≡ v = cc in absurd cc
      least_here false false e i h later = first_less p x.1 (values_of xs) i ∙ later h
      least_here false true e i h later =
          first_more p x.1 (values_of xs) i
          ∙ ap (λ o. Some (lesser x.1 o)) (later h)
          ∙ least_taken x.1 (lt_unless v.connect_id x.1.connect_id (int_cmp v.connect_id x.1.connect_id) refl (least x.0 x.1 f.0 i)
          (λ same. let n = subst (λ r. is_at (nat_cmp q) r ≡ true) (only x.0 x.1 f.0 i same) (own_number q) in cc))

pub filter_none : (find : ℕ → Option HeldEntry) (p : HeldEntry → Bool) (es : List (ℕ × HeldEntry)) → AreFound find es → ((r : ℕ) (w : HeldEntry) → find r ≡ Some w → p w ≡ false) → first_of (by_connect_id (filter p (values_of es))) ≡ None
filter_none find p [] f h = refl
filter_none find p (x ∷ xs) f h = first_less p x.1 (values_of xs) (h x.0 x.1 f.0) ∙ filter_none find p xs f.1 h
