-- Members of other numbers stay, and one in its place is found there.
use Rattle.std.proofs.Common.{◌≡◌, ℕ, zero, suc, ◌≤◌, Bool, true, false, cond, List, [], ◌∷◌, length, set, refl, sym, ap, ◌∙◌, arith, Some, None, Option}
use Rattle.std.specs.Prelude.{eqb, ltb, nat_eq, ◌||◌, slice_get}
use Rattle.std.specs.List.{insert, remove, list_any}
use Rattle.std.proofs.lemmas.Bool.{eqb-true, eqb-false, eq-eqb}
use Rattle.std.proofs.lemmas.List.{set-set}
use Rattle.std.proofs.lemmas.List.Edits.{length-insert}
use Rattle.kn_rising.specs.Members.{Members, place_in, rank_in, at, with, change, changed, inserted, one_more, without}
use Rattle.kn_rising.proofs.PlaceLemmas.{place-here, place-skip, remove_past}

-- ---- lists by place

get_set : {T : Type 0} (xs : List T) (i : ℕ) (x w : T) → slice_get xs i ≡ Some x → slice_get (set xs i w) i ≡ Some w
get_set [] i x w found = absurd cc
get_set (y ∷ ys) zero x w found = refl
get_set (y ∷ ys) (suc i) x w found = get_set ys i x w found

set_got : {T : Type 0} (xs : List T) (i : ℕ) (x : T) → slice_get xs i ≡ Some x → set xs i x ≡ xs
set_got [] i x found = absurd cc
set_got (y ∷ ys) zero x found = ap (λ z. z ∷ ys) (sym cc)
set_got (y ∷ ys) (suc i) x found = ap (λ zs. y ∷ zs) (set_got ys i x found)

pub length_set : {T : Type 0} (xs : List T) (i : ℕ) (w : T) → length (set xs i w) ≡ length xs
length_set [] i w = refl
length_set (y ∷ ys) zero w = refl
length_set (y ∷ ys) (suc i) w = ap suc (length_set ys i w)

-- ---- the one in its place

pub at_with : {T : Type 0} (m : Members T) (n : ℕ) (x w : T) → at m n ≡ Some x → at (with m n w) n ≡ Some w
at_with m n x w found = get_set m.items (place_in m.numbers n) x w found

pub with_with : {T : Type 0} (m : Members T) (n : ℕ) (a b : T) → with (with m n a) n b ≡ with m n b
with_with m n a b = ap (λ items. record { numbers = m.numbers; items = items }) (set-set m.items (place_in m.numbers n) a b)

pub with_same : {T : Type 0} (m : Members T) (n : ℕ) (x : T) → at m n ≡ Some x → with m n x ≡ m
with_same m n x found = ap (λ items. record { numbers = m.numbers; items = items }) (set_got m.items (place_in m.numbers n) x found)

-- ---- the others stay

pub with_others : {T : Type 0} (ns : List ℕ) (is : List T) (n d : ℕ) (w : T) → length is ≡ length ns → eqb d n ≡ false → slice_get (set is (place_in ns n) w) (place_in ns d) ≡ slice_get is (place_in ns d)
with_others [] [] n d w l e = refl
with_others [] (i ∷ is) n d w l e = absurd (omega (arith, l))
with_others (x ∷ ns) [] n d w l e = absurd (omega (arith, l))
with_others (x ∷ ns) (i ∷ is) n d w l e = by_tests (eqb x n) refl (eqb x d) refl (with_others ns is n d w (omega (arith, l)) e)
  where
    by_tests : (b : Bool) → eqb x n ≡ b → (c : Bool) → eqb x d ≡ c → slice_get (set is (place_in ns n) w) (place_in ns d) ≡ slice_get is (place_in ns d)
        → slice_get (set (i ∷ is) (place_in (x ∷ ns) n) w) (place_in (x ∷ ns) d) ≡ slice_get (i ∷ is) (place_in (x ∷ ns) d)
    by_tests true p true q rest = absurd (apart (eqb-true x n p) (eqb-true x d q))
      where
        apart : x ≡ n → x ≡ d → ⊥
        apart s t = absurd (let same : d ≡ n = sym t ∙ s in let z = eq-eqb d n same in cc)
    by_tests true p false q rest = rw (place-here x ns n (eqb-true x n p), place-skip x ns d (eqb-false x d q)) refl
    by_tests false p true q rest = rw (place-skip x ns n (eqb-false x n p), place-here x ns d (eqb-true x d q)) refl
    by_tests false p false q rest = rw (place-skip x ns n (eqb-false x n p), place-skip x ns d (eqb-false x d q)) rest

pub change_others : {T : Type 0} (m : Members T) (n d : ℕ) (f : T → T) → length m.items ≡ length m.numbers → eqb d n ≡ false → at (change m n f) d ≡ at m d
change_others {T} m n d f l e = by_found (at m n)
  where
    by_found : (found : Option T) → at (changed m n f found) d ≡ at m d
    by_found None = refl
    by_found (Some x) = with_others m.numbers m.items n d (f x) l e

pub change_same : {T : Type 0} (m : Members T) (n : ℕ) (f : T → T) → length m.items ≡ length m.numbers → length (change m n f).items ≡ length (change m n f).numbers
change_same {T} m n f l = by_found (at m n)
  where
    by_found : (found : Option T) → length (changed m n f found).items ≡ length (changed m n f found).numbers
    by_found None = l
    by_found (Some x) = length_set m.items (place_in m.numbers n) (f x) ∙ l

insert_others : {T : Type 0} (ns : List ℕ) (is : List T) (p n d : ℕ) (w : T) → length is ≡ length ns → p ≤ length ns → (n ≡ d → ⊥) → slice_get (insert is p w) (place_in (insert ns p n) d) ≡ slice_get is (place_in ns d)
insert_others ns is zero n d w l b e = rw (place-skip n ns d e) refl
insert_others [] is (suc p) n d w l b e = absurd (omega arith)
insert_others (x ∷ ns) [] (suc p) n d w l b e = absurd (omega (arith, l))
insert_others (x ∷ ns) (i ∷ is) (suc p) n d w l b e = by_test (eqb x d) refl (insert_others ns is p n d w (omega (arith, l)) (omega arith) e)
  where
    by_test : (t : Bool) → eqb x d ≡ t → slice_get (insert is p w) (place_in (insert ns p n) d) ≡ slice_get is (place_in ns d)
        → slice_get (insert (i ∷ is) (suc p) w) (place_in (insert (x ∷ ns) (suc p) n) d) ≡ slice_get (i ∷ is) (place_in (x ∷ ns) d)
    by_test true q rest = rw (place-here x (insert ns p n) d (eqb-true x d q), place-here x ns d (eqb-true x d q)) refl
    by_test false q rest = rw (place-skip x (insert ns p n) d (eqb-false x d q), place-skip x ns d (eqb-false x d q)) rest

remove_others : {T : Type 0} (ns : List ℕ) (is : List T) (n d : ℕ) → length is ≡ length ns → (n ≡ d → ⊥) → slice_get (remove is (place_in ns n)) (place_in (remove ns (place_in ns n)) d) ≡ slice_get is (place_in ns d)
remove_others [] [] n d l e = ap (λ xs. slice_get xs (place_in (remove [] (place_in [] n)) d)) (remove_past [] (place_in [] n) (omega arith))
remove_others [] (i ∷ is) n d l e = absurd (omega (arith, l))
remove_others (x ∷ ns) [] n d l e = absurd (omega (arith, l))
remove_others (x ∷ ns) (i ∷ is) n d l e = by_tests (eqb x n) refl (eqb x d) refl (remove_others ns is n d (omega (arith, l)) e)
  where
    by_tests : (b : Bool) → eqb x n ≡ b → (c : Bool) → eqb x d ≡ c → slice_get (remove is (place_in ns n)) (place_in (remove ns (place_in ns n)) d) ≡ slice_get is (place_in ns d)
        → slice_get (remove (i ∷ is) (place_in (x ∷ ns) n)) (place_in (remove (x ∷ ns) (place_in (x ∷ ns) n)) d) ≡ slice_get (i ∷ is) (place_in (x ∷ ns) d)
    by_tests true p true q rest = absurd (e (sym (eqb-true x n p) ∙ eqb-true x d q))
    by_tests true p false q rest = rw (place-here x ns n (eqb-true x n p), place-skip x ns d (eqb-false x d q)) refl
    by_tests false p true q rest = rw (place-skip x ns n (eqb-false x n p), place-here x (remove ns (place_in ns n)) d (eqb-true x d q), place-here x ns d (eqb-true x d q)) refl
    by_tests false p false q rest = rw (place-skip x ns n (eqb-false x n p), place-skip x (remove ns (place_in ns n)) d (eqb-false x d q), place-skip x ns d (eqb-false x d q)) rest

pub without_others : {T : Type 0} (m : Members T) (n d : ℕ) → length m.items ≡ length m.numbers → eqb d n ≡ false → at (without m n) d ≡ at m d
without_others m n d l e = remove_others m.numbers m.items n d l (λ same. eqb-false d n e (sym same))

rank_within : (ns : List ℕ) (n : ℕ) → rank_in ns n ≤ length ns
unfolding rank_in
rank_within [] n = omega arith
rank_within (x ∷ ns) n = by_test (ltb x n) (rank_within ns n)
  where
    by_test : (b : Bool) → rank_in ns n ≤ length ns → cond b (suc (rank_in ns n)) (rank_in ns n) ≤ suc (length ns)
    by_test true l = omega arith
    by_test false l = omega arith

pub inserted_others : {T : Type 0} (m : Members T) (n d : ℕ) (w : T) → length m.items ≡ length m.numbers → eqb d n ≡ false → at (inserted m n w) d ≡ at m d
inserted_others m n d w l e = by_place (ltb (place_in m.numbers n) (length m.numbers))
  where
    by_place : (b : Bool) → at (cond b (with m n w) (one_more m n w)) d ≡ at m d
    by_place true = with_others m.numbers m.items n d w l e
    by_place false = insert_others m.numbers m.items (rank_in m.numbers n) n d w l (rank_within m.numbers n) (λ same. eqb-false d n e (sym same))

-- ---- each number has a member still

remove_same : {T : Type 0} (is : List T) (ns : List ℕ) (i : ℕ) → length is ≡ length ns → length (remove is i) ≡ length (remove ns i)
remove_same [] [] zero l = refl
remove_same [] [] (suc i) l = refl
remove_same [] (n ∷ ns) i l = absurd (omega (arith, l))
remove_same (x ∷ is) [] i l = absurd (omega (arith, l))
remove_same (x ∷ is) (n ∷ ns) zero l = omega (arith, l)
remove_same (x ∷ is) (n ∷ ns) (suc i) l = ap suc (remove_same is ns i (omega (arith, l)))

pub without_same : {T : Type 0} (m : Members T) (n : ℕ) → length m.items ≡ length m.numbers → length (without m n).items ≡ length (without m n).numbers
without_same m n l = remove_same m.items m.numbers (place_in m.numbers n) l

pub inserted_same : {T : Type 0} (m : Members T) (n : ℕ) (w : T) → length m.items ≡ length m.numbers → length (inserted m n w).items ≡ length (inserted m n w).numbers
inserted_same m n w l = by_place (ltb (place_in m.numbers n) (length m.numbers))
  where
    within : rank_in m.numbers n ≤ length m.numbers
    within = rank_within m.numbers n

    by_place : (b : Bool) → length (cond b (with m n w) (one_more m n w)).items ≡ length (cond b (with m n w) (one_more m n w)).numbers
    by_place true = length_set m.items (place_in m.numbers n) w ∙ l
    by_place false =
        let items = length-insert m.items (rank_in m.numbers n) w (omega (arith, within, l)) in
        let numbers = length-insert m.numbers (rank_in m.numbers n) n within in
        omega (arith, items, numbers, l)

-- ---- a number that is not among them

absent : {T : Type 0} (ns : List ℕ) (is : List T) (n : ℕ) → length is ≡ length ns → list_any (nat_eq n) ns ≡ false → slice_get is (place_in ns n) ≡ None
absent [] [] n l none = refl
absent [] (i ∷ is) n l none = absurd (omega (arith, l))
absent (x ∷ ns) [] n l none = absurd (omega (arith, l))
absent (x ∷ ns) (i ∷ is) n l none = by_test (nat_eq n x) refl none (absent ns is n (omega (arith, l)))
  where
    by_test : (b : Bool) → nat_eq n x ≡ b → (b || list_any (nat_eq n) ns) ≡ false → (list_any (nat_eq n) ns ≡ false → slice_get is (place_in ns n) ≡ None) → slice_get (i ∷ is) (place_in (x ∷ ns) n) ≡ None
    by_test true e h rest = absurd cc
    by_test false e h rest = rw (place-skip x ns n (λ same. eqb-false n x e (sym same))) (rest h)

pub none_at : {T : Type 0} (m : Members T) (n : ℕ) → length m.items ≡ length m.numbers → list_any (nat_eq n) m.numbers ≡ false → at m n ≡ None
none_at m n l none = absent m.numbers m.items n l none
