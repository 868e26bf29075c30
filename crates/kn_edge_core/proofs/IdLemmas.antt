-- What the maps by connectID and number find.
use Rattle.std.proofs.Common.{◌≡◌, ℕ, ℤ, ◌≤◌, Bool, true, false, List, [], ◌∷◌, Option, Some, None, Ordering, refl, sym, ap, ◌∙◌, subst, arith}
use Rattle.std.specs.declared.cmp.Ordering.TheVariants.{Less, Equal, Greater}
use Rattle.std.specs.Ordering.{nat_cmp, int_cmp, is_gt, ordering_then, ordering_reverse}
use Rattle.std.specs.Cmp.{IsTotalOrder}
use Rattle.std.specs.List.Sorted.{IsStrictlySortedBy}
use Rattle.std.specs.Map.{keys_of, values_of}
use Rattle.std.specs.BTreeMap.{BTreeMap, get}
use Rattle.std.specs.BTreeMap.Range.{IsRangeOf}
use Rattle.std.specs.declared.ops.Bound.TheVariants.{Included, Unbounded}
use Rattle.std.proofs.lemmas.Bool.Decides.{nat_tests}
use Rattle.std.proofs.lemmas.Cmp.{tied_itself, nat_cmp_total, int_cmp_total, on_total, then_total}
use Rattle.std.proofs.lemmas.Map.Keys.{le_from_not_gt}
use Rattle.std.proofs.lemmas.Map.Lookups.{CmpEqualImpliesEq, exact_unsigned, exact_signed, exact_pairs}
use Rattle.kn_tables.specs.Indexed.{at_number, at_key, entry_at, told, IsKeyed, Indexes}
use Rattle.kn_tables.specs.Lists.{first_where}
use Rattle.kn_tables.proofs.IndexLemmas.{all_found, first_none, first_is, told_some, keyed_at}
use Rattle.kn_edge_core.specs.Keeping.{id_cmp, FirstUnder}

pub id_total : IsTotalOrder id_cmp
id_total = then_total (on_total (λ p. p.0) int_cmp_total) (on_total (λ p. p.1) nat_cmp_total)

pub id_exact : CmpEqualImpliesEq id_cmp
id_exact = exact_pairs int_cmp nat_cmp exact_signed exact_unsigned

-- ---- the part of an index that has a connectID
reverse_less : (o p r : Ordering) → o ≡ Less → p ≡ ordering_reverse o → is_gt (ordering_then p r) ≡ true
reverse_less o p r e f = rw (f, e) refl

same_first : (x y : ℤ) (o p q r : Ordering) → o ≡ int_cmp x y → p ≡ int_cmp y x → is_gt (ordering_then o q) ≡ false → is_gt (ordering_then p r) ≡ false → x ≡ y
same_first x y Less p q r e f g h =
    let m : p ≡ ordering_reverse Less = f ∙ int_cmp_total.antisymm y x ∙ ap ordering_reverse (sym e) in
    let n = reverse_less Less p r refl m in
    absurd cc
same_first x y Equal p q r e f g h = exact_signed x y (sym e)
same_first x y Greater p q r e f g h = absurd cc

second_le : (a : ℤ) (b c : ℕ) → is_gt (id_cmp (a, b) (a, c)) ≡ false → b ≤ c
second_le a b c h = le_from_not_gt b c (rw (tied_itself int_cmp_total a) at h)

from_start : (a : ℤ) (c : ℕ) → is_gt (id_cmp (a, 0) (a, c)) ≡ false
from_start a c = rw (tied_itself int_cmp_total a) (grind (arith, nat_tests))

pub begins_none : (m : BTreeMap (ℤ × ℕ) ℕ) (a : ℤ) (r : List ((ℤ × ℕ) × ℕ)) → IsRangeOf id_cmp (Included (a, 0)) Unbounded m r → r ≡ [] → FirstUnder m.entries a None
begins_none m a r h e b = h.5 e (a, b) (from_start a b, tt)

pub begins_other : (m : BTreeMap (ℤ × ℕ) ℕ) (a : ℤ) (r : List ((ℤ × ℕ) × ℕ)) → IsRangeOf id_cmp (Included (a, 0)) Unbounded m r → (p : ℤ × ℕ) (v : ℕ) (rest : List ((ℤ × ℕ) × ℕ)) → r ≡ (p, v) ∷ rest → (p.0 ≡ a → ⊥) → FirstUnder m.entries a None
begins_other m a r h p v rest e other b = none_if (get id_cmp m (a, b)) refl
  where
    none_if : (o : Option ℕ) → get id_cmp m (a, b) ≡ o → o ≡ None
    none_if None f = refl
    none_if (Some w) f =
        let first = rw e at h.1 in
        let least = rw e at (h.2 (a, b) (from_start a b, tt) (rw f refl)) in
        absurd (other (sym (same_first a p.0 (int_cmp a p.0) (int_cmp p.0 a) (nat_cmp 0 p.1) (nat_cmp p.1 b) refl refl first.0.0 least)))

pub begins_some : (m : BTreeMap (ℤ × ℕ) ℕ) (a : ℤ) (r : List ((ℤ × ℕ) × ℕ)) → IsRangeOf id_cmp (Included (a, 0)) Unbounded m r → (b v : ℕ) (rest : List ((ℤ × ℕ) × ℕ)) → r ≡ ((a, b), v) ∷ rest → FirstUnder m.entries a (Some v)
begins_some m a r h b v rest e =
    let first = rw e at h.1 in
    (b, first.1, λ c some. second_le a b c (rw e at (h.2 (a, c) (from_start a c, tt) some)))

pub id_first : (p : ℤ × ℕ) (a : ℤ) (v : ℕ) (r rest : List ((ℤ × ℕ) × ℕ)) → r ≡ (p, v) ∷ rest → p.0 ≡ a → r ≡ ((a, p.1), v) ∷ rest
id_first p a v r rest e h = e ∙ ap (λ z. ((z, p.1), v) ∷ rest) h

-- ---- the entry of the least number under a connectID is the first of the list
false_unless : (b : Bool) → (b ≡ true → ⊥) → b ≡ false
false_unless true h = absurd (h refl)
false_unless false h = refl

module _ {E : Type 0} (number : E → ℕ) (tells : E → Option (ℤ × ℕ)) (index : List ((ℤ × ℕ) × ℕ)) (es : List (ℕ × E)) (p : E → Bool) (a : ℤ) (s : IsStrictlySortedBy nat_cmp (keys_of es)) (keyed : IsKeyed number es) (right : Indexes (λ q. told tells (at_number es q)) (at_key id_cmp index)) (tests : (v : E) → p v ≡ true → tells v ≡ Some (a, number v)) (passes : (v : E) (b : ℕ) → tells v ≡ Some (a, b) → (p v ≡ true) × (number v ≡ b)) where
  pub first_found : (i : Option ℕ) → FirstUnder index a i → entry_at es i ≡ first_where p (values_of es)
  first_found None h = sym (first_none (at_number es) p es (all_found es s) (λ q v f. false_unless (p v) (λ t. let e = right.finds q (a, number v) (ap (told tells) f ∙ tests v t) in let n = h (number v) in cc)))
  first_found (Some q) h =
      let m = told_some tells (a, h.0) (at_number es q) (right.holds (a, h.0) q h.1) in
      let n = passes m.0 h.0 m.2 in
      m.1 ∙ sym (first_is (at_number es) p q m.0 es (all_found es s) s n.0
      (λ r w f t.
      let e = right.finds r (a, number w) (ap (told tells) f ∙ tests w t) in
      let l : h.0 ≤ number w = h.2 (number w) (rw e refl) in
      let u = keyed_at number q m.0 es keyed m.1 in
      let v = keyed_at number r w es keyed f in
      let z = n.1 in
      omega arith)
      m.1)

-- a number under which the map tells no connectID is noted under none
pub fresh_id : {E : Type 0} (number : E → ℕ) (tells : E → Option (ℤ × ℕ)) (index : ℤ × ℕ → Option ℕ) (es : List (ℕ × E)) (a : ℤ) (d : ℕ)
    → IsKeyed number es → Indexes (λ q. told tells (at_number es q)) index → ((v : E) (k : ℤ × ℕ) → tells v ≡ Some k → k.1 ≡ number v) → told tells (at_number es d) ≡ None → index (a, d) ≡ None
fresh_id number tells index es a d keyed right last lacks = fresh_if (index (a, d)) refl
  where
    fresh_if : (i : Option ℕ) → index (a, d) ≡ i → i ≡ None
    fresh_if None e = refl
    fresh_if (Some q) e =
        let m = told_some tells (a, d) (at_number es q) (right.holds (a, d) q e) in
        let l : d ≡ q = last m.0 (a, d) m.2 ∙ keyed_at number q m.0 es keyed m.1 in
        let n : told tells (at_number es d) ≡ Some (a, d) = subst (λ x. told tells (at_number es x) ≡ Some (a, d)) (sym l) (ap (told tells) m.1 ∙ m.2) in
        absurd cc
