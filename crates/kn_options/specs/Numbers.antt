-- Numbers among the words.
use Rattle.std.specs.Prelude.{ℕ, ◌==◌, nat_lt, Bool, false, List, [], ◌∷◌, length, Option, Some, None, if◌then◌else◌}
use Rattle.std.specs.List.{list_all}
use Rattle.std.specs.Char.{is_ascii_digit}
use Rattle.std.specs.Str.Parse.{digits_value}

-- 48 is '0'
abbrev pub has_leading_zero : List ℕ → Bool
has_leading_zero [] = false
has_leading_zero (digit ∷ []) = false
has_leading_zero (digit ∷ next ∷ rest) = digit == 48

-- the value of digits, where it has at most 64 bits
abbrev pub value_in : List ℕ → Option ℕ
value_in digits = if nat_lt (digits_value 10 digits) 18446744073709551616 then Some (digits_value 10 digits) else None

-- the number that a word spells in decimal digits without a sign or a leading zero
abbrev pub number_in : List ℕ → Option ℕ
number_in word =
    if length word == 0 then None
    else (if has_leading_zero word then None
    else (if list_all is_ascii_digit word then value_in word else None))
