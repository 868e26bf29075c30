-- Lists whose members tell their numbers.
use Rattle.std.specs.Prelude.{ℕ, ◌==◌, Bool, not, List, filter, [], ◌∷◌, Option, Some, None, if◌then◌else◌}

-- the one of this number
unfoldable pub at : {T : Type 0} → (T → ℕ) → List T → ℕ → Option T
at number [] n = None
at number (x ∷ xs) n = if number x == n then Some x else at number xs n

-- another one in its place
unfoldable pub with : {T : Type 0} → (T → ℕ) → List T → ℕ → T → List T
with number [] n w = []
with number (x ∷ xs) n w = if number x == n then w ∷ xs else x ∷ with number xs n w

-- changed, if it is there
abbrev pub changed : {T : Type 0} → (T → ℕ) → List T → ℕ → (T → T) → Option T → List T
changed number xs n f None = xs
changed number xs n f (Some x) = with number xs n (f x)

abbrev pub change : {T : Type 0} → (T → ℕ) → List T → ℕ → (T → T) → List T
change number xs n f = changed number xs n f (at number xs n)

-- it has another number
abbrev pub is_other : {T : Type 0} → (T → ℕ) → ℕ → T → Bool
is_other number n x = not (number x == n)

-- without the one of this number
abbrev pub without : {T : Type 0} → (T → ℕ) → List T → ℕ → List T
without number xs n = filter (is_other number n) xs
