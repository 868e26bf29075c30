-- The fronts that are up, and how they change.
use Rattle.std.specs.Prelude.{ℕ, ◌==◌, ◌≤◌, Bool, List, [], ◌∷◌}
use Rattle.std.specs.List.{list_any}
use Rattle.kn_tables.specs.Lists.{in_place, without}

-- the fronts by rising number, and the greatest number that one ever had, or 0
pub record FrontList : Type 0 where
  pub fronts : List ℕ
  pub top : ℕ

-- no front was ever up
abbrev pub no_fronts : FrontList
no_fronts = record { fronts = []; top = 0 }

-- a front of a number above all earlier ones comes up
abbrev pub with_front : FrontList → ℕ → FrontList
with_front list front = record { fronts = in_place (λ f. f) front list.fronts; top = front }

-- the front of this number is gone
abbrev pub without_front : FrontList → ℕ → FrontList
without_front list front = record list { fronts = without (λ f. f == front) list.fronts }

-- a front of this number is up
abbrev pub is_up : ℕ → FrontList → Bool
is_up front list = list_any (λ f. f == front) list.fronts

-- no number is above the greatest
abbrev pub AreWithin : ℕ → List ℕ → Type 0
AreWithin top [] = Unit {0}
AreWithin top (f ∷ fs) = (f ≤ top) × AreWithin top fs
