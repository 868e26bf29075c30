-- A text in two parts.
use Rattle.std.specs.Prelude.{◌≡◌, ℕ, ◌<◌, ◌==◌, nat_lt, Bool, false, List, [], ◌∷◌, length, slice_index, Option, Some, None, MatchOption}
use Rattle.std.specs.List.{position_or_len, before_first, after_first, slice_split}
use Rattle.std.specs.Borrow.{Bor}

-- the parts before and after the first byte of this value, or none where the text has no such byte
abbrev pub IsCut : ℕ → List ℕ → Option (Bor (List ℕ) × Bor (List ℕ)) → Type 0
IsCut at text parts =
    MatchOption parts (position_or_len (λ b. b == at) text ≡ length text)
    (λ p. (p.0.now ≡ before_first (λ b. b == at) text) × (p.1.now ≡ after_first (λ b. b == at) text)
    × (position_or_len (λ b. b == at) text < length text))

-- the text has a byte of this value
abbrev pub has : ℕ → List ℕ → Bool
has at text = nat_lt (position_or_len (λ b. b == at) text) (length text)

-- the text begins with this byte, which is not 0
abbrev pub begins : ℕ → List ℕ → Bool
begins first text = slice_index text 0 == first

-- what follows this byte at the front, or none where the text begins otherwise
abbrev pub IsStripped : ℕ → List ℕ → Option (Bor (List ℕ)) → Type 0
IsStripped first text rest =
    MatchOption rest (begins first text ≡ false) (λ r. text ≡ first ∷ r.now)

-- the parts between the bytes of this value
abbrev pub parts_of : ℕ → List ℕ → List (List ℕ)
parts_of at bytes = slice_split (λ b. b == at) bytes

-- the parts that are left, if there are any
abbrev pub parts_left : ℕ → Option (Bor (List ℕ)) → List (List ℕ)
parts_left at None = []
parts_left at (Some rest) = parts_of at rest.now

-- the first part, and what is left after it
abbrev pub IsFirstPart : ℕ → List ℕ → Bor (List ℕ) × Option (Bor (List ℕ)) → Type 0
IsFirstPart at bytes (part, rest) = parts_of at bytes ≡ part.now ∷ parts_left at rest
