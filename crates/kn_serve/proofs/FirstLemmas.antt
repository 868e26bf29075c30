-- A connection that was dialled is at hand.
use Rattle.std.proofs.Common.{◌≡◌, ℕ, ◌==◌, ◌++◌, Bool, true, false, List, [], ◌∷◌, refl, ap, ◌∙◌, arith}
use Rattle.std.specs.Prelude.{Option, None, Some, if◌then◌else◌}
use Rattle.std.proofs.lemmas.Bool.Decides.{nat_tests}
use Rattle.kn_port.specs.declared.entry.Entry.{Entry}
use Rattle.kn_port.specs.declared.entry.Entry.TheVariants as entry
use Rattle.kn_port.specs.declared.names.Dialled.TheVariants as dialled
use Rattle.kn_port.specs.Journal.{Tells, dial_entries, open_after, open_from, is_open}
use Rattle.kn_loop.specs.Known.{IsAtHand}

open_more : (xs ys : List Entry) (c : ℕ) (b : Bool) → open_from (xs ++ ys) c b ≡ open_from ys c (open_from xs c b)
open_more [] ys c b = refl
open_more (x ∷ xs) ys c b = open_more xs ys c (open_after x c b)

same_number : (n : ℕ) → (n == n) ≡ true
same_number n = grind (arith, nat_tests)

opens_itself : (a : List ℕ) (n : ℕ) (b : Bool) → open_from (entry.Dial a (dialled.Conn n) ∷ []) n b ≡ true
opens_itself a n b = ap (λ t. if t then true else b) (same_number n)

pub dialled_at_hand : (a : List ℕ) (n : ℕ) (told0 told1 : Option (List Entry)) → Tells told0 told1 (dial_entries a (dialled.Conn n)) → IsAtHand (Some n) told1
dialled_at_hand a n None None t = tt
dialled_at_hand a n None (Some ys) t = absurd t
dialled_at_hand a n (Some xs) None t = absurd t
dialled_at_hand a n (Some xs) (Some ys) t =
    ap (λ es. is_open es n) t ∙ open_more xs (entry.Dial a (dialled.Conn n) ∷ []) n false ∙ opens_itself a n (open_from xs n false)
