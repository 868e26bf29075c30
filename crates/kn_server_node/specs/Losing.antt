-- Losses that are to follow.
use Rattle.std.specs.Prelude.{nat_lt, Bool, true, false, List, [], ◌∷◌, if◌then◌else◌}
use Rattle.kn_server_node.specs.declared.loss.Loss.{Loss}
use Rattle.kn_server_node.specs.declared.loss.Loss.TheVariants.{OfLink, OfFront}

-- links come before fronts, and each by rising number
abbrev pub is_before : Loss → Loss → Bool
is_before (OfLink a status) (OfLink b other) = nat_lt a b
is_before (OfLink a status) (OfFront b other) = true
is_before (OfFront a status) (OfLink b other) = false
is_before (OfFront a status) (OfFront b other) = nat_lt a b

-- one loss more, in its place; one that is there already is lost once
abbrev pub with_loss : Loss → List Loss → List Loss
with_loss l [] = l ∷ []
with_loss l (x ∷ xs) = if is_before l x then l ∷ x ∷ xs else (if is_before x l then x ∷ with_loss l xs else x ∷ xs)
