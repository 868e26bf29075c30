-- A packet that stands in a list.
use Rattle.std.specs.Prelude.{◌≡◌, ◌++◌, List, ◌∷◌}

-- one element of the list is this to the tunnel
pub record Stands {A I : Type 0} (item : A → I) (i : I) (ps : List A) : Type 0 where
  pub before : List A
  pub packet : A
  pub behind : List A
  pub placed : ps ≡ before ++ packet ∷ behind
  pub is : item packet ≡ i
