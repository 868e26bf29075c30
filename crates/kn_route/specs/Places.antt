-- Where a link stands among links by rising number.
use Rattle.std.specs.Prelude.{◌≡◌, ℕ, ◌<◌, List, length, slice_index_or}
use Rattle.kn_route.specs.declared.link.Link.{Link}

-- at every other place stands a link of another number
abbrev pub IsOnlyPlace : ℕ → List Link → ℕ → Type 0
IsOnlyPlace number links place =
    (k : ℕ) (d : Link) → k < length links → ¬ (k ≡ place) → ¬ ((slice_index_or links k d).number ≡ number)
