-- Steps over a list that stop at the first fault.
use Rattle.std.specs.Prelude.{List, [], ◌∷◌, Result, Ok, Err}

-- the fault, or what follows from the value
abbrev pub and_then : {S T E : Type 0} → Result S E → (S → Result T E) → Result T E
and_then (Ok s) next = next s
and_then (Err e) next = Err e

-- the state after a step for each item, or the first fault
abbrev pub steps : {S X E : Type 0} → (S → X → Result S E) → S → List X → Result S E
steps step s [] = Ok s
steps step s (x ∷ xs) = and_then (step s x) (λ t. steps step t xs)
