-- Where a text is cut.
use Rattle.std.proofs.Common.{◌≡◌, ℕ, zero, suc, ◌<◌, ◌≤◌, Bool, true, false, cond, ltb, List, length, take, slice_index, refl, sym, ap, ◌∙◌, subst, arith}
use Rattle.std.specs.Str.{IsCharBoundary}
use Rattle.std.specs.Fmt.{is_char_start}
use Rattle.std.proofs.lemmas.Bool.Decides.{nat_tests}
use Rattle.kn_server_core.specs.Texts.{last_start, error_cut}

start_at : (b : ℕ) → (128 ≤ b → 192 ≤ b) → is_char_start b ≡ true
start_at b h = grind (arith, nat_tests)

start_is : (b : ℕ) → is_char_start b ≡ true → 128 ≤ b → 192 ≤ b
start_is b h l = grind (arith, nat_tests)

is_next : (n r : ℕ) → ltb n r ≡ true → r ≤ suc n → suc n ≡ r
is_next n r h l = grind (arith, nat_tests)

is_lower : (n r : ℕ) → ltb n r ≡ false → r ≤ n
is_lower n r h = grind (arith, nat_tests)

cut_here : (bytes : List ℕ) (n r : ℕ) (c d : Bool) → suc n < length bytes → r ≤ suc n → IsCharBoundary bytes r → ((i : ℕ) → r < i → i ≤ suc n → IsCharBoundary bytes i → ⊥)
    → is_char_start (slice_index bytes (suc n)) ≡ c → ltb n r ≡ d → (r ≤ n → last_start bytes n ≡ r) → cond c (suc n) (last_start bytes n) ≡ r
cut_here bytes n r true true l b at none e f later = is_next n r f b
cut_here bytes n r true false l b at none e f later =
    let m : r ≤ n = is_lower n r f in
    let s : suc n ≤ length bytes = omega arith in
    let k : r < suc n = omega arith in
    let j : suc n ≤ suc n = omega arith in
    absurd (none (suc n) k j (s, λ _. start_is (slice_index bytes (suc n)) e))
cut_here bytes n r false true l b at none e f later =
    let m : suc n ≡ r = is_next n r f b in
    let k : IsCharBoundary bytes (suc n) = subst (λ x. IsCharBoundary bytes x) (sym m) at in
    let z = start_at (slice_index bytes (suc n)) (k.1 l) in
    absurd cc
cut_here bytes n r false false l b at none e f later = later (is_lower n r f)

pub cut_at : (bytes : List ℕ) (n r : ℕ) → n < length bytes → r ≤ n → IsCharBoundary bytes r → ((i : ℕ) → r < i → i ≤ n → IsCharBoundary bytes i → ⊥) → last_start bytes n ≡ r
unfolding last_start
cut_at bytes zero r l b at none = omega arith
cut_at bytes (suc n) r l b at none =
    let m : n < length bytes = omega arith in
    cut_here bytes n r (is_char_start (slice_index bytes (suc n))) (ltb n r) l b at none refl refl
    (λ k. cut_at bytes n r m k at (λ i x y. let z : i ≤ suc n = omega arith in none i x z))

cut_if : (text : List ℕ) (r : ℕ) (b : Bool) → ltb 256 (length text) ≡ b → 256 < length text → last_start text 256 ≡ r → take r text ≡ cond b (take (last_start text 256) text) text
cut_if text r true e l h = ap (λ n. take n text) (sym h)
cut_if text r false e l h = absurd (grind (arith, nat_tests))

pub cut_is : (whole text : List ℕ) (r : ℕ) → whole ≡ text → 256 < length text → r ≤ 256 → IsCharBoundary whole r → ((i : ℕ) → r < i → i ≤ 256 → IsCharBoundary whole i → ⊥) → take r whole ≡ error_cut text
cut_is whole text r e l b at none =
    ap (take r) e ∙ cut_if text r (ltb 256 (length text)) refl l
    (cut_at text 256 r l b (subst (λ x. IsCharBoundary x r) e at) (λ i x y z. none i x y (subst (λ w. IsCharBoundary w i) (sym e) z)))
