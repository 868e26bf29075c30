-- Lists of entries.
use Rattle.std.specs.Prelude.{ℕ, ◌+◌, ◌<◌, nat_lt, Bool, List, [], ◌∷◌, Option, Some, None, if◌then◌else◌}

-- the first that passes a test
abbrev pub first_where : {E : Type 0} → (E → Bool) → List E → Option E
first_where p [] = None
first_where p (x ∷ xs) = if p x then Some x else first_where p xs

-- the list without the first that passes
abbrev pub without : {E : Type 0} → (E → Bool) → List E → List E
without p [] = []
without p (x ∷ xs) = if p x then xs else x ∷ without p xs

-- a list by rising number, with one more in its place
abbrev pub in_place : {E : Type 0} → (E → ℕ) → E → List E → List E
in_place number e [] = e ∷ []
in_place number e (x ∷ xs) = if nat_lt (number e) (number x) then e ∷ x ∷ xs else x ∷ in_place number e xs

-- how many pass a test
abbrev pub count_where : {E : Type 0} → (E → Bool) → List E → ℕ
count_where p [] = 0
count_where p (x ∷ xs) = if p x then count_where p xs + 1 else count_where p xs

-- every number lies above a bound
abbrev pub AreAbove : {E : Type 0} → (E → ℕ) → ℕ → List E → Type 0
AreAbove number n [] = Unit {0}
AreAbove number n (x ∷ xs) = (n < number x) × AreAbove number n xs

-- the numbers rise
abbrev pub IsRising : {E : Type 0} → (E → ℕ) → List E → Type 0
IsRising number [] = Unit {0}
IsRising number (x ∷ xs) = AreAbove number (number x) xs × IsRising number xs
