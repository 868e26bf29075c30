-- Streams by their places, and settings one by one.
use Rattle.std.proofs.Common.{◌≡◌, ℕ, zero, suc, ◌+◌, ◌<◌, Bool, false, List, [], ◌∷◌, ◌++◌, length, take, drop, set, map, Some, None, IfSome, refl, sym, ap, ◌∙◌, subst, arith, add-one}
use Rattle.std.specs.List.{list_any, slice_get}
use Rattle.std.proofs.lemmas.Bool.{or_parts}
use Rattle.kn_h2_state.specs.declared.stream.Stream.{Stream}
use Rattle.kn_h2.specs.Places.{changed_at}

pub changed_some : (ss : List Stream) (place : ℕ) (f : Stream → Stream) (s : Stream) → slice_get ss place ≡ Some s → set ss place (f s) ≡ changed_at ss place f
unfolding changed_at
changed_some [] place f s e = absurd cc
changed_some (x ∷ ss) zero f s e = let same : s ≡ x = cc in ap (λ y. f y ∷ ss) same
changed_some (x ∷ ss) (suc place) f s e = ap (λ l. x ∷ l) (changed_some ss place f s e)

pub changed_none : (ss : List Stream) (place : ℕ) (f : Stream → Stream) → slice_get ss place ≡ None → ss ≡ changed_at ss place f
unfolding changed_at
changed_none [] place f e = refl
changed_none (x ∷ ss) zero f e = absurd cc
changed_none (x ∷ ss) (suc place) f e = ap (λ l. x ∷ l) (changed_none ss place f e)

-- ---- those before a place are changed

changed_next : (f : Stream → Stream) (ss : List Stream) (k : ℕ) → k < length ss → changed_at (map f (take k ss) ++ drop k ss) k f ≡ map f (take (suc k) ss) ++ drop (suc k) ss
unfolding changed_at
changed_next f [] k lt = absurd (omega arith)
changed_next f (x ∷ ss) zero lt = refl
changed_next f (x ∷ ss) (suc k) lt = ap (λ l. f x ∷ l) (changed_next f ss k (omega arith))

pub changed_step : (f : Stream → Stream) (ss now : List Stream) (k : ℕ) → now ≡ map f (take k ss) ++ drop k ss → k < length ss → changed_at now k f ≡ map f (take (k + 1) ss) ++ drop (k + 1) ss
changed_step f ss now k e lt = ap (λ l. changed_at l k f) e ∙ rw add-one (changed_next f ss k lt)

place_there : (f : Stream → Stream) (ss : List Stream) (k : ℕ) → k < length ss → slice_get (map f (take k ss) ++ drop k ss) k ≡ slice_get ss k
place_there f [] k lt = absurd (omega arith)
place_there f (x ∷ ss) zero lt = refl
place_there f (x ∷ ss) (suc k) lt = place_there f ss k (omega arith)

any_at : (p : Stream → Bool) (ss : List Stream) (k : ℕ) → list_any p ss ≡ false → IfSome (slice_get ss k) (λ s. p s ≡ false)
any_at p [] k none = tt
any_at p (x ∷ ss) zero none = (or_parts (p x) _ none).0
any_at p (x ∷ ss) (suc k) none = any_at p ss k (or_parts (p x) _ none).1

-- the stream at a place is not changed yet
pub none_over : (f : Stream → Stream) (p : Stream → Bool) (ss now : List Stream) (k : ℕ) → now ≡ map f (take k ss) ++ drop k ss → k < length ss → list_any p ss ≡ false → IfSome (slice_get now k) (λ s. p s ≡ false)
none_over f p ss now k e lt none = subst (λ o. IfSome o (λ s. p s ≡ false)) (sym (ap (λ l. slice_get l k) e ∙ place_there f ss k lt)) (any_at p ss k none)
