-- Numbers that were stirred.
use Rattle.std.specs.Prelude.{ℕ, ◌==◌, Bool, false, ◌||◌, List, [], ◌∷◌}

-- the number was stirred
abbrev pub is_stirred : ℕ → List ℕ → Bool
is_stirred n [] = false
is_stirred n (x ∷ xs) = (x == n) || is_stirred n xs
