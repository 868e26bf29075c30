-- Entries of a list that change.
use Rattle.std.specs.Prelude.{Bool, List, map, if◌then◌else◌}

-- each entry that passes a test is changed
abbrev pub changed_where : {E : Type 0} → (E → Bool) → (E → E) → List E → List E
changed_where p change entries = map (λ e. if p e then change e else e) entries
