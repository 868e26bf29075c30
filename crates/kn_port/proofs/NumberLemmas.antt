-- Members by number.
use Rattle.std.proofs.Common.{◌≡◌, ℕ, zero, suc, List, [], ◌∷◌, Option, Some, None, refl, ap, slice_get, slice_set}
use Rattle.std.proofs.lemmas.Option.{none-some}
use Rattle.kn_port.specs.Numbers.{nth, put_nth}

or_else : {X : Type 0} → X → Option X → X
or_else d None = d
or_else d (Some x) = x

set_same : {X : Type 0} → (xs : List X) (i : ℕ) (x : X) → slice_get xs i ≡ Some x → slice_set xs i x ≡ xs
unfolding or_else
set_same [] i x e = absurd (none-some x e)
set_same (y ∷ ys) zero x e = let same : y ≡ x = ap (or_else y) e in rw same refl
set_same (y ∷ ys) (suc i) x e = rw (set_same ys i x e) refl

-- what stands at a number, put there again
pub put_same : {X : Type 0} → (n : ℕ) (xs : List X) (x : X) → nth n xs ≡ Some x → put_nth n xs x ≡ xs
put_same zero xs x e = refl
put_same (suc i) xs x e = set_same xs i x e
