-- Pairs of digits at the front of those that are left.
use Rattle.std.proofs.Common.{◌≡◌, ℕ, ◌-◌, ◌≤◌, List, [], ◌∷◌, ◌++◌, take, drop, length, get_or, Option, Some, None, refl, sym, ap, ◌∙◌, append_assoc, arith}
use Rattle.std.proofs.lemmas.List.{take_all, length-drop}
use Rattle.std.specs.Option.{option_map}
use Rattle.kn_script.specs.Words.{hex_byte, bytes_of_hex}

pair_first : (rest : List ℕ) (byte : ℕ) → 2 ≤ length rest → Some byte ≡ hex_byte (get_or rest 0 0) (get_or rest 1 0) → bytes_of_hex rest ≡ option_map (λ more. byte ∷ more) (bytes_of_hex (drop 2 rest))
pair_first [] byte long spelled = absurd (omega arith)
pair_first (digit ∷ []) byte long spelled = absurd (omega arith)
pair_first (high ∷ low ∷ digits) byte long spelled = rw (sym spelled) refl

joined : (bytes : List ℕ) (byte : ℕ) (rest : Option (List ℕ)) → option_map (λ more. bytes ++ more) (option_map (λ more. byte ∷ more) rest) ≡ option_map (λ more. (bytes ++ byte ∷ []) ++ more) rest
joined bytes byte None = refl
joined bytes byte (Some more) = ap (λ xs. Some xs) (sym (append_assoc bytes (byte ∷ []) more))

-- one pair more is read
pub pair_more : (digits bytes rest new : List ℕ) (byte : ℕ) → bytes_of_hex digits ≡ option_map (λ more. bytes ++ more) (bytes_of_hex rest) → 2 ≤ length rest → Some byte ≡ hex_byte (get_or rest 0 0) (get_or rest 1 0) → new ≡ bytes ++ byte ∷ [] → bytes_of_hex digits ≡ option_map (λ more. new ++ more) (bytes_of_hex (take (length rest - 2) (drop 2 rest)))
pair_more digits bytes rest new byte before long spelled grown =
    let whole : take (length rest - 2) (drop 2 rest) ≡ drop 2 rest = take_all (length rest - 2) (drop 2 rest) (simp length-drop (omega arith)) in
    rw (whole, grown) (before ∙ ap (option_map (λ more. bytes ++ more)) (pair_first rest byte long spelled) ∙ joined bytes byte (bytes_of_hex (drop 2 rest)))
