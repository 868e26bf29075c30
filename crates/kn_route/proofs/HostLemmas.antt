-- Ports.
use Rattle.std.proofs.Common.{◌≡◌, ◌≢◌, ℕ, ◌<◌, inl, inr, ap, ◌&&◌, List, [], ◌∷◌, get_or, true, false, refl, sym, ◌∙◌, subst, arith, le-ltb}
use Rattle.std.specs.Str.{all_ascii_digits}
use Rattle.std.specs.Char.{is_ascii_digit}
use Rattle.std.specs.List.{list_all}
use Rattle.std.specs.Str.Parse.{IsNumeral, digits_value, without_leading_plus}
use Rattle.std.proofs.lemmas.Str.Parse.{numerals_by_value, tells_all_ascii_digits, IsNumeralModel, not_in_digits, without_leading_plus_none}
use Rattle.std.proofs.lemmas.Bool.{cases_lt, and_right}
use Rattle.kn_route.specs.Hosts.{has_port_value}

own_digits : IsNumeralModel (λ ds. all_ascii_digits ds ≡ true) (digits_value 10)
own_digits = numerals_by_value _ tells_all_ascii_digits

-- `parse` of two bytes took the text, without a plus at its front
abbrev IsSmall : List ℕ → Type 0
IsSmall text = IsNumeral 10 (without_leading_plus text) × (digits_value 10 (without_leading_plus text) < 65536)

same_digits : (text : List ℕ) → all_ascii_digits text ≡ list_all is_ascii_digit text
same_digits [] = refl
same_digits (c ∷ cs) = ap (λ b. is_ascii_digit c && b) (same_digits cs)

pub port_refused : (port : List ℕ) → list_all is_ascii_digit port ≡ true → ¬ (IsSmall port) → false ≡ has_port_value port
port_refused [] digits refused = refl
port_refused (c ∷ cs) all refused =
    let port = c ∷ cs in
    let digits = same_digits port ∙ all in
    let first : get_or port 0 0 ≢ 43 = not_in_digits own_digits port 43 digits (λ r. absurd (omega (arith, r.0))) 0 (omega arith) in
    let same = without_leading_plus_none port first in
    elim (cases_lt (digits_value 10 port) 65536) [
      | inl small ↦ absurd (refused (subst (λ t. IsNumeral 10 t × (digits_value 10 t < 65536)) (sym same) ((omega arith, own_digits.to port digits), small)))
      | inr large ↦ sym (and_right _ _ (le-ltb (digits_value 10 port) 65536 large))
    ]
