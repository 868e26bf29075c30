-- Numbers that an end drew, as packets name them.
use Rattle.std.specs.Prelude.{ℕ, ℤ, pos, negsuc, ◌==◌, Bool, false, Option, None, Some}

-- a packet names this number
abbrev pub is_number : ℕ → ℤ → Bool
is_number number (pos named) = named == number
is_number number (negsuc named) = false

-- a packet names this number, which may not be drawn yet
abbrev pub is_drawn_number : Option ℕ → ℤ → Bool
is_drawn_number None named = false
is_drawn_number (Some number) named = is_number number named
