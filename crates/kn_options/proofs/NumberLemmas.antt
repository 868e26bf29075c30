-- Decimal digits that std does not read have a value of over 64 bits.
use Rattle.std.proofs.Common.{◌≡◌, ◌≢◌, ℕ, ◌<◌, inl, inr, ap, ◌&&◌, List, [], ◌∷◌, length, get_or, true, Some, None, cond, refl, sym, ◌∙◌, subst, arith, le-ltb}
use Rattle.std.specs.Str.{all_ascii_digits}
use Rattle.std.specs.Char.{is_ascii_digit}
use Rattle.std.specs.List.{list_all}
use Rattle.std.specs.Str.Parse.{IsNumeral, digits_value, without_leading_plus}
use Rattle.std.proofs.lemmas.Str.Parse.{numerals_by_value, tells_all_ascii_digits, IsNumeralModel, not_in_digits, without_leading_plus_none}
use Rattle.std.proofs.lemmas.Bool.{cases_lt}
use Rattle.kn_options.specs.Numbers.{value_in}

own_digits : IsNumeralModel (λ ds. all_ascii_digits ds ≡ true) (digits_value 10)
own_digits = numerals_by_value _ tells_all_ascii_digits

-- `parse` took the text, without a plus at its front
abbrev IsSmall : List ℕ → Type 0
IsSmall text = IsNumeral 10 (without_leading_plus text) × (digits_value 10 (without_leading_plus text) < 18446744073709551616)

same_digits : (text : List ℕ) → all_ascii_digits text ≡ list_all is_ascii_digit text
same_digits [] = refl
same_digits (c ∷ cs) = ap (λ b. is_ascii_digit c && b) (same_digits cs)

pub number_refused : (word : List ℕ) → 0 < length word → list_all is_ascii_digit word ≡ true → ¬ (IsSmall word) → None ≡ value_in word
number_refused word some all refused =
    let digits = same_digits word ∙ all in
    let first : get_or word 0 0 ≢ 43 = not_in_digits own_digits word 43 digits (λ r. absurd (omega (arith, r.0))) 0 some in
    let same = without_leading_plus_none word first in
    let value = digits_value 10 word in
    elim (cases_lt value 18446744073709551616) [
      | inl small ↦ absurd (refused (subst (λ t. IsNumeral 10 t × (digits_value 10 t < 18446744073709551616)) (sym same) ((some, own_digits.to word digits), small)))
      | inr large ↦ ap (λ b. cond b (Some value) None) (sym (le-ltb value 18446744073709551616 large))
    ]
