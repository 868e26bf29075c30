-- Apps that stay when a stream ends, beside those that are still to be looked at.
use Rattle.std.specs.Prelude.{ℕ, ◌<◌, List, [], ◌∷◌}
use Rattle.kn_tables.specs.Lists.{AreAbove}
use Rattle.kn_edge_core.specs.declared.app.App.{App}

-- every number lies below a bound
abbrev pub AreBelow : ℕ → List App → Type 0
AreBelow n [] = Unit {0}
AreBelow n (a ∷ rest) = (a.number < n) × AreBelow n rest

-- the numbers of the first list lie below those of the second
abbrev pub AreBefore : List App → List App → Type 0
AreBefore [] later = Unit {0}
AreBefore (a ∷ rest) later = AreAbove (λ x. x.number) a.number later × AreBefore rest later
