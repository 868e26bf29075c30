-- Lists whose members are numbered from 1.
use Rattle.std.specs.Prelude.{ℕ, zero, suc, List, [], ◌∷◌, Option, Some, None, slice_get, slice_set}

-- the member of a number; 0 is the number of none
abbrev pub nth : {X : Type 0} → ℕ → List X → Option X
nth zero xs = None
nth (suc index) xs = slice_get xs index

-- the members, of which the one of a number is another one
abbrev pub put_nth : {X : Type 0} → ℕ → List X → X → List X
put_nth zero xs x = xs
put_nth (suc index) xs x = slice_set xs index x

-- the members, of which the one of a number, where there is one, is changed
abbrev pub changed : {X : Type 0} → (X → X) → ℕ → List X → Option X → List X
changed f number xs None = xs
changed f number xs (Some x) = put_nth number xs (f x)

abbrev pub change : {X : Type 0} → (X → X) → ℕ → List X → List X
change f number xs = changed f number xs (nth number xs)

abbrev pub first_of : {X : Type 0} → List X → Option X
first_of [] = None
first_of (x ∷ xs) = Some x

abbrev pub rest_of : {X : Type 0} → List X → List X
rest_of [] = []
rest_of (x ∷ xs) = xs
