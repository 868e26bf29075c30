-- The inlets of a connection, and what is kept beside them.
use Rattle.std.specs.Prelude.{◌≡◌, ℕ, nat_lt, Bool, true, not, ◌==◌, List, [], ◌∷◌, map, filter, Option, Some, None, slice_get, slice_set}
use Rattle.kn_rising.specs.Members.{AreRising}
use Rattle.kn_ends.specs.declared.inlet.Inlet.{Inlet}

abbrev pub numbers_of : List Inlet → List ℕ
numbers_of is = map (λ (i : Inlet). i.stream) is

abbrev pub put_back : List Inlet → ℕ → (Inlet → Inlet) → Option Inlet → List Inlet
put_back is place f None = is
put_back is place f (Some i) = slice_set is place (f i)

-- the one at a place changes, if there is one
abbrev pub change_place : List Inlet → ℕ → (Inlet → Inlet) → List Inlet
change_place is place f = put_back is place f (slice_get is place)

-- the last of the numbers is below this one, or there is none
unfoldable pub ends_below : ℕ → List ℕ → Bool
ends_below n [] = true
ends_below n (x ∷ []) = nat_lt x n
ends_below n (x ∷ y ∷ xs) = ends_below n (y ∷ xs)

abbrev pub without_number : List ℕ → ℕ → List ℕ
without_number ns n = filter (λ k. not (k == n)) ns

-- the streams of the inlets stand beside them, and rise where it is noted that they do
pub record AreKept (streams : List ℕ) (is : List Inlet) (rising : Bool) : Type 0 where
  pub beside : streams ≡ numbers_of is
  pub risen : rising ≡ true → AreRising streams
