-- Pieces of a line that are written one behind the other.
use Rattle.std.proofs.Common.{◌≡◌, ℕ, List, ◌++◌, ap, ◌∙◌, append_assoc}

pub two_pushes : (start one two a b : List ℕ) → one ≡ start ++ a → two ≡ one ++ b → two ≡ start ++ (a ++ b)
two_pushes start one two a b p q = q ∙ ap (λ (t : List ℕ). t ++ b) p ∙ append_assoc start a b

pub three_pushes : (start one two three a b c : List ℕ) → one ≡ start ++ a → two ≡ one ++ b → three ≡ two ++ c → three ≡ start ++ (a ++ b ++ c)
three_pushes start one two three a b c p q r = two_pushes start two three (a ++ b) c (two_pushes start one two a b p q) r
