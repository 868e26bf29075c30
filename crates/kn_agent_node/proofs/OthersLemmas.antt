-- A change of one member leaves the others as they were.
use Rattle.std.proofs.Common.{◌≡◌, ℕ, zero, suc, ◌≤◌, ◌<◌, Bool, true, false, cond, ◌⊎◌, inl, inr, List, [], ◌∷◌, length, slice_get, slice_set, nat_lt, Option, Some, None, refl, sym, ap, ◌∙◌, arith}
use Rattle.std.specs.List.{insert, remove}
use Rattle.std.proofs.lemmas.Bool.{cases_eq}
use Rattle.std.proofs.lemmas.List.{length-set}
use Rattle.std.proofs.lemmas.List.Edits.{length-insert}
use Rattle.kn_rising.specs.Members.{Members, at, with, changed, change, without, one_more, inserted, place_in, rank_in}
use Rattle.kn_rising.proofs.PlaceLemmas.{place-here, place-skip, place-none, rank-none}

-- ---- lists of numbers, and beside each its member

-- another one in the place of a number
set_others : {T : Type 0} (ns : List ℕ) (xs : List T) (n c : ℕ) (w : T) → (n ≡ c → ⊥) → length xs ≡ length ns
    → slice_get (slice_set xs (place_in ns n) w) (place_in ns c) ≡ slice_get xs (place_in ns c)
set_others ns [] n c w other e = refl
set_others [] (x ∷ xs) n c w other e = absurd (omega arith)
set_others (y ∷ ns) (x ∷ xs) n c w other e = by (cases_eq y n) (cases_eq y c) (set_others ns xs n c w other (omega arith))
  where
    by : (y ≡ n) ⊎ (y ≡ n → ⊥) → (y ≡ c) ⊎ (y ≡ c → ⊥) → slice_get (slice_set xs (place_in ns n) w) (place_in ns c) ≡ slice_get xs (place_in ns c)
        → slice_get (slice_set (x ∷ xs) (place_in (y ∷ ns) n) w) (place_in (y ∷ ns) c) ≡ slice_get (x ∷ xs) (place_in (y ∷ ns) c)
    by (inl p) (inl q) rest = absurd (other (sym p ∙ q))
    by (inl p) (inr q) rest = rw (place-here y ns n p, place-skip y ns c q) refl
    by (inr p) (inl q) rest = rw (place-skip y ns n p, place-here y ns c q) refl
    by (inr p) (inr q) rest = rw (place-skip y ns n p, place-skip y ns c q) rest

-- without the member of a number
abbrev left_at : {T : Type 0} → List ℕ → List T → ℕ → ℕ → Option T
left_at ns xs p c = slice_get (remove xs p) (place_in (remove ns p) c)

removed_others : {T : Type 0} (ns : List ℕ) (xs : List T) (n c : ℕ) → (n ≡ c → ⊥) → length xs ≡ length ns
    → left_at ns xs (place_in ns n) c ≡ slice_get xs (place_in ns c)
removed_others [] [] n c other e = rw (place-none n) refl
removed_others (y ∷ ns) [] n c other e = absurd (omega arith)
removed_others [] (x ∷ xs) n c other e = absurd (omega arith)
removed_others (y ∷ ns) (x ∷ xs) n c other e = by (cases_eq y n) (cases_eq y c) (removed_others ns xs n c other (omega arith))
  where
    by : (y ≡ n) ⊎ (y ≡ n → ⊥) → (y ≡ c) ⊎ (y ≡ c → ⊥) → left_at ns xs (place_in ns n) c ≡ slice_get xs (place_in ns c)
        → left_at (y ∷ ns) (x ∷ xs) (place_in (y ∷ ns) n) c ≡ slice_get (x ∷ xs) (place_in (y ∷ ns) c)
    by (inl p) (inl q) rest = absurd (other (sym p ∙ q))
    by (inl p) (inr q) rest = ap (λ k. left_at (y ∷ ns) (x ∷ xs) k c) (place-here y ns n p) ∙ ap (slice_get (x ∷ xs)) (sym (place-skip y ns c q))
    by (inr p) (inl q) rest =
        ap (λ k. left_at (y ∷ ns) (x ∷ xs) k c) (place-skip y ns n p)
        ∙ (ap (slice_get (x ∷ remove xs (place_in ns n))) (place-here y (remove ns (place_in ns n)) c q) ∙ ap (slice_get (x ∷ xs)) (sym (place-here y ns c q)))
    by (inr p) (inr q) rest =
        ap (λ k. left_at (y ∷ ns) (x ∷ xs) k c) (place-skip y ns n p)
        ∙ (ap (slice_get (x ∷ remove xs (place_in ns n))) (place-skip y (remove ns (place_in ns n)) c q) ∙ (rest ∙ ap (slice_get (x ∷ xs)) (sym (place-skip y ns c q))))

removed_long : {T : Type 0} (ns : List ℕ) (xs : List T) (p : ℕ) → length xs ≡ length ns → length (remove xs p) ≡ length (remove ns p)
removed_long [] [] zero e = refl
removed_long [] [] (suc p) e = refl
removed_long (y ∷ ns) [] p e = absurd (omega arith)
removed_long [] (x ∷ xs) p e = absurd (omega arith)
removed_long (y ∷ ns) (x ∷ xs) zero e = omega arith
removed_long (y ∷ ns) (x ∷ xs) (suc p) e = ap (λ k. suc k) (removed_long ns xs p (omega arith))

-- one more
inserted_others : {T : Type 0} (r : ℕ) (ns : List ℕ) (xs : List T) (n c : ℕ) (w : T) → (n ≡ c → ⊥) → length xs ≡ length ns → r ≤ length ns
    → slice_get (insert xs r w) (place_in (insert ns r n) c) ≡ slice_get xs (place_in ns c)
inserted_others zero ns xs n c w other e l = ap (slice_get (w ∷ xs)) (place-skip n ns c other)
inserted_others (suc r) [] xs n c w other e l = absurd (omega arith)
inserted_others (suc r) (y ∷ ns) [] n c w other e l = absurd (omega arith)
inserted_others (suc r) (y ∷ ns) (x ∷ xs) n c w other e l = by (cases_eq y c) (inserted_others r ns xs n c w other (omega arith) (omega arith))
  where
    by : (y ≡ c) ⊎ (y ≡ c → ⊥) → slice_get (insert xs r w) (place_in (insert ns r n) c) ≡ slice_get xs (place_in ns c)
        → slice_get (x ∷ insert xs r w) (place_in (y ∷ insert ns r n) c) ≡ slice_get (x ∷ xs) (place_in (y ∷ ns) c)
    by (inl q) rest = ap (slice_get (x ∷ insert xs r w)) (place-here y (insert ns r n) c q) ∙ ap (slice_get (x ∷ xs)) (sym (place-here y ns c q))
    by (inr q) rest = ap (slice_get (x ∷ insert xs r w)) (place-skip y (insert ns r n) c q) ∙ (rest ∙ ap (slice_get (x ∷ xs)) (sym (place-skip y ns c q)))

rank_within : (xs : List ℕ) (n : ℕ) → rank_in xs n ≤ length xs
unfolding rank_in
rank_within [] n = omega arith
rank_within (x ∷ xs) n = by (nat_lt x n) (rank_within xs n)
  where
    by : (b : Bool) → rank_in xs n ≤ length xs → cond b (suc (rank_in xs n)) (rank_in xs n) ≤ suc (length xs)
    by true l = omega arith
    by false l = omega arith

-- ---- members

-- each number has a member
abbrev pub Paired : {T : Type 0} → Members T → Type 0
Paired m = length m.items ≡ length m.numbers

-- the members of all other numbers are the same
abbrev pub Leaves : {T : Type 0} → ℕ → Members T → Members T → Type 0
Leaves n old new = Paired old → Paired new × ((c : ℕ) → (n ≡ c → ⊥) → at new c ≡ at old c)

pub with_leaves : {T : Type 0} (m : Members T) (n : ℕ) (w : T) → Leaves n m (with m n w)
with_leaves m n w p = (length-set m.items (place_in m.numbers n) w ∙ p, λ c other. set_others m.numbers m.items n c w other p)

pub changed_leaves : {T : Type 0} (m : Members T) (n : ℕ) (f : T → T) (x : Option T) → Leaves n m (changed m n f x)
changed_leaves m n f None p = (p, λ c other. refl)
changed_leaves m n f (Some x) p = with_leaves m n (f x) p

pub change_leaves : {T : Type 0} (m : Members T) (n : ℕ) (f : T → T) → Leaves n m (change m n f)
change_leaves m n f = changed_leaves m n f (at m n)

pub without_leaves : {T : Type 0} (m : Members T) (n : ℕ) → Leaves n m (without m n)
without_leaves m n p = (removed_long m.numbers m.items (place_in m.numbers n) p, λ c other. removed_others m.numbers m.items n c other p)

pub one_more_leaves : {T : Type 0} (m : Members T) (n : ℕ) (x : T) → Leaves n m (one_more m n x)
one_more_leaves m n x p =
    let within = rank_within m.numbers n in
    let left = length-insert m.numbers (rank_in m.numbers n) n within in
    let right = length-insert m.items (rank_in m.numbers n) x (omega arith) in
    (omega arith, λ c other. inserted_others (rank_in m.numbers n) m.numbers m.items n c x other p within)

pub inserted_leaves : {T : Type 0} (m : Members T) (n : ℕ) (x : T) → Leaves n m (inserted m n x)
inserted_leaves m n x = by (nat_lt (place_in m.numbers n) (length m.numbers))
  where
    by : (b : Bool) → Leaves n m (cond b (with m n x) (one_more m n x))
    by true = with_leaves m n x
    by false = one_more_leaves m n x
