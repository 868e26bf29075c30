-- The bytes of a line that may stand in a script are text.
use Rattle.std.proofs.Common.{◌≡◌, ℕ, ◌<◌, Bool, true, false, ◌&&◌, List, [], ◌∷◌, refl, arith}
use Rattle.std.proofs.lemmas.Bool.Decides.{nat_tests}
use Rattle.std.proofs.lemmas.Str.{IsUtf8-from_ascii}
use Rattle.std.proofs.lemmas.Str.Ascii.{IsAscii-nil, IsAscii-cons}
use Rattle.std.specs.List.{list_all}
use Rattle.std.specs.Str.{IsAscii, IsUtf8}
use Rattle.kn_script.specs.Words.{is_script_byte}

both_true : (x y : Bool) → (x && y) ≡ true → (x ≡ true) × (y ≡ true)
both_true true y h = (refl, h)
both_true false y h = (cc)

small : (byte : ℕ) → is_script_byte byte ≡ true → byte < 128
small byte h = grind (arith, nat_tests)

IsAscii-from_script : (line : List ℕ) → list_all is_script_byte line ≡ true → IsAscii line
IsAscii-from_script [] h = IsAscii-nil
IsAscii-from_script (byte ∷ line) h =
    let both = both_true (is_script_byte byte) (list_all is_script_byte line) h in
    IsAscii-cons byte line (small byte both.0) (IsAscii-from_script line both.1)

pub IsUtf8-from_script : (line : List ℕ) → list_all is_script_byte line ≡ true → IsUtf8 line
IsUtf8-from_script line h = IsUtf8-from_ascii line (IsAscii-from_script line h)
