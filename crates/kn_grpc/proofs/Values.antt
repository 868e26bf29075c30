-- The first field of a name, found one after another.
use Rattle.std.proofs.Common.{◌≡◌, ℕ, zero, suc, ◌+◌, ◌<◌, true, false, List, [], ◌∷◌, length, drop, slice_get, bytes_eq, cond, IfSome, arith, sym, ap, ◌∙◌, add-one}
use Rattle.kn_hpack.specs.Fields.{Field}
use Rattle.kn_grpc.specs.Calls.{value_in}

-- another field
pub value_next : (name : List ℕ) (fs : List Field) (i : ℕ) (n : List ℕ) → i < length fs → IfSome (slice_get fs i) (λ f. n ≡ f.name) → bytes_eq n name ≡ false →
    value_in name (drop i fs) ≡ value_in name (drop (i + 1) fs)
value_next name [] i n h e b = absurd (omega arith)
value_next name (f ∷ fs) zero n h e b = ap (λ t. cond t f.value (value_in name fs)) (ap (λ m. bytes_eq m name) (sym e) ∙ b)
value_next name (f ∷ fs) (suc i) n h e b = rw (add-one (suc i)) (value_next name fs i n (omega arith) e b ∙ ap (λ k. value_in name (drop k fs)) (add-one i))

-- the field
pub value_found : (name : List ℕ) (fs : List Field) (i : ℕ) (n v : List ℕ) → i < length fs → IfSome (slice_get fs i) (λ f. n ≡ f.name) → IfSome (slice_get fs i) (λ f. v ≡ f.value) →
    bytes_eq n name ≡ true → value_in name (drop i fs) ≡ v
value_found name [] i n v h e g b = absurd (omega arith)
value_found name (f ∷ fs) zero n v h e g b = ap (λ t. cond t f.value (value_in name fs)) (ap (λ m. bytes_eq m name) (sym e) ∙ b) ∙ sym g
value_found name (f ∷ fs) (suc i) n v h e g b = value_found name fs i n v (omega arith) e g b
