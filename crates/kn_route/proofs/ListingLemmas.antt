-- Lines.
use Rattle.std.proofs.Common.{◌≡◌, ℕ, ◌<◌, ◌==◌, List, [], ◌∷◌, length, None, Bool, true, false, refl, sym, ap, ◌∙◌, subst, arith, ne_eqb}
use Rattle.std.specs.Prelude.{IsUtf8}
use Rattle.std.specs.Result.{result_ok}
use Rattle.std.specs.Str.{is_utf8}
use Rattle.std.proofs.lemmas.Str.{is_utf8-from_IsUtf8, IsUtf8-from_is_utf8}
use Rattle.kn_route.specs.Identifiers.{identifiers_in}
use Rattle.std.proofs.lemmas.List.Splits.{length-slice_split}
use Rattle.kn_route.specs.Cuts.{parts_of}
use Rattle.kn_route.specs.Listing.{without_last_empty, lines_of, line_identifiers}

-- more parts follow a part
more_parts : (part : List ℕ) (parts : List (List ℕ)) → 0 < length parts → without_last_empty (part ∷ parts) ≡ part ∷ without_last_empty parts
more_parts part [] some = absurd (omega arith)
more_parts part (next ∷ parts) some = refl

pub line_before : (bytes line rest : List ℕ) → parts_of 10 bytes ≡ line ∷ parts_of 10 rest → lines_of bytes ≡ line ∷ lines_of rest
line_before bytes line rest h =
    ap without_last_empty h ∙ more_parts line (parts_of 10 rest) (omega (arith, length-slice_split (λ b. b == 10) rest))

pub last_line : (bytes line : List ℕ) → 0 < length bytes → line ≡ bytes → parts_of 10 bytes ≡ line ∷ [] → lines_of bytes ≡ line ∷ lines_of []
last_line bytes line some same h =
    let long : 0 < length line = subst (λ t. 0 < length t) (sym same) some in
    ap without_last_empty h ∙ rw (ne_eqb (length line) 0 (omega arith))

pub identifiers_of_text : (text : List ℕ) → IsUtf8 text → result_ok (identifiers_in text) ≡ line_identifiers text
identifiers_of_text text valid = rw (is_utf8-from_IsUtf8 text valid)

pub identifiers_of_bytes : (text : List ℕ) → ¬ (IsUtf8 text) → None ≡ line_identifiers text
identifiers_of_bytes text invalid = go (is_utf8 text) refl where
  go : (b : Bool) → is_utf8 text ≡ b → None ≡ line_identifiers text
  go true h = absurd (invalid (IsUtf8-from_is_utf8 text h))
  go false h = rw h
