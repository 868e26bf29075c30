-- Bytes that are some things one behind the other are no others, and have no fault; and a fault is the
-- only one. All of that follows from the same of one thing at the front.
use Rattle.std.proofs.Common.{◌≡◌, ℕ, ◌<◌, List, [], ◌∷◌, ◌++◌, length, refl, sym, ap, subst, ◌∙◌, append_assoc, arith}
use Rattle.std.proofs.lemmas.List.{length-append, append_cancel_right}
use Rattle.kn_packet.specs.declared.fault.PacketReason.{PacketReason}
use Rattle.kn_packet.specs.Reading.{Joins}
use Rattle.kn_packet.specs.Faults.{FirstFault}

pub record Decided {A : Type 0} (Spells : List ℕ → A → Type 0) (Faulty : List ℕ → List ℕ → PacketReason → Type 0) : Type 0 where
  pub some : (s : List ℕ) (x : A) → Spells s x → 0 < length s
  pub some_fault : (s before : List ℕ) (r : PacketReason) → Faulty s before r → 0 < length s
  pub same : (s t u v : List ℕ) (x y : A) → Spells s x → Spells t y → s ++ u ≡ t ++ v → (x ≡ y) × (u ≡ v)
  pub apart : (s u before : List ℕ) (x : A) (r : PacketReason) → Spells s x → Faulty (s ++ u) before r → ⊥
  pub same_fault : (s before after : List ℕ) (r q : PacketReason) → Faulty s before r → Faulty s after q → (before ≡ after) × (r ≡ q)

empty_front : (s u : List ℕ) → 0 < length s → [] ≡ s ++ u → ⊥
empty_front s u some e = let n = ap length e in omega (arith, n, length-append s u)

module _ {A : Type 0} {Spells : List ℕ → A → Type 0} {Faulty : List ℕ → List ℕ → PacketReason → Type 0} (decided : Decided Spells Faulty) where
  pub joins_same : (bytes : List ℕ) (xs ys : List A) → Joins Spells bytes xs → Joins Spells bytes ys → xs ≡ ys
  joins_same bytes [] [] p q = refl
  joins_same bytes [] (y ∷ ys) p q = absurd (empty_front q.0 q.1 (decided.some q.0 y q.2) (sym p ∙ q.3))
  joins_same bytes (x ∷ xs) [] p q = absurd (empty_front p.0 p.1 (decided.some p.0 x p.2) (sym q ∙ p.3))
  joins_same bytes (x ∷ xs) (y ∷ ys) p q =
      let both = decided.same p.0 q.0 p.1 q.1 x y p.2 q.2 (sym p.3 ∙ q.3) in
      let behind : Joins Spells p.1 ys = subst (λ (b : List ℕ). Joins Spells b ys) (sym both.1) q.4 in
      let tails = joins_same p.1 xs ys p.4 behind in
      cc (both.0, tails)

  -- what is read to its end has no fault
  joins_fault : (bytes front rest before : List ℕ) (r : PacketReason) (xs ys : List A) → Joins Spells bytes xs → Joins Spells front ys → bytes ≡ front ++ rest → Faulty rest before r → ⊥
  joins_fault bytes front rest before r [] [] p q e f =
      empty_front rest [] (decided.some_fault rest before r f) (let gone : [] ≡ rest = sym p ∙ e ∙ ap (λ (b : List ℕ). b ++ rest) q in rw (← gone) refl)
  joins_fault bytes front rest before r [] (y ∷ ys) p q e f =
      empty_front q.0 (q.1 ++ rest) (decided.some q.0 y q.2) (sym p ∙ e ∙ ap (λ (b : List ℕ). b ++ rest) q.3 ∙ append_assoc q.0 q.1 rest)
  joins_fault bytes front rest before r (x ∷ xs) [] p q e f =
      let rest-is : rest ≡ p.0 ++ p.1 = sym (e ∙ ap (λ (b : List ℕ). b ++ rest) q) ∙ p.3 in
      decided.apart p.0 p.1 before x r p.2 (subst (λ (b : List ℕ). Faulty b before r) rest-is f)
  joins_fault bytes front rest before r (x ∷ xs) (y ∷ ys) p q e f =
      let e2 : p.0 ++ p.1 ≡ q.0 ++ (q.1 ++ rest) = sym p.3 ∙ e ∙ ap (λ (b : List ℕ). b ++ rest) q.3 ∙ append_assoc q.0 q.1 rest in
      let both = decided.same p.0 q.0 p.1 (q.1 ++ rest) x y p.2 q.2 e2 in
      joins_fault p.1 q.1 rest before r xs ys p.4 q.4 both.1 f

  pub joins_apart : (bytes before : List ℕ) (r : PacketReason) (xs : List A) → Joins Spells bytes xs → FirstFault Spells Faulty bytes before r → ⊥
  joins_apart bytes before r xs p f = joins_fault bytes f.front f.rest f.inner r xs f.things p f.joined f.bytes-is f.faulty

  fronts_same : (front rest inner back after outer : List ℕ) (r q : PacketReason) (xs ys : List A) → Joins Spells front xs → Joins Spells back ys → front ++ rest ≡ back ++ after
      → Faulty rest inner r → Faulty after outer q → (front ++ inner ≡ back ++ outer) × (r ≡ q)
  fronts_same front rest inner back after outer r q [] [] p s e f g =
      let rest-is : rest ≡ after = ap (λ (b : List ℕ). b ++ rest) (sym p) ∙ e ∙ ap (λ (b : List ℕ). b ++ after) s in
      let both = decided.same_fault rest inner outer r q f (subst (λ (b : List ℕ). Faulty b outer q) (sym rest-is) g) in
      (ap (λ (b : List ℕ). b ++ inner) p ∙ both.0 ∙ sym (ap (λ (b : List ℕ). b ++ outer) s), both.1)
  fronts_same front rest inner back after outer r q [] (y ∷ ys) p s e f g =
      let rest-is : rest ≡ s.0 ++ (s.1 ++ after) = ap (λ (b : List ℕ). b ++ rest) (sym p) ∙ e ∙ ap (λ (b : List ℕ). b ++ after) s.3 ∙ append_assoc s.0 s.1 after in
      absurd (decided.apart s.0 (s.1 ++ after) inner y r s.2 (subst (λ (b : List ℕ). Faulty b inner r) rest-is f))
  fronts_same front rest inner back after outer r q (x ∷ xs) [] p s e f g =
      let after-is : after ≡ p.0 ++ (p.1 ++ rest) = ap (λ (b : List ℕ). b ++ after) (sym s) ∙ sym e ∙ ap (λ (b : List ℕ). b ++ rest) p.3 ∙ append_assoc p.0 p.1 rest in
      absurd (decided.apart p.0 (p.1 ++ rest) outer x q p.2 (subst (λ (b : List ℕ). Faulty b outer q) after-is g))
  fronts_same front rest inner back after outer r q (x ∷ xs) (y ∷ ys) p s e f g =
      let e2 : p.0 ++ (p.1 ++ rest) ≡ s.0 ++ (s.1 ++ after) = sym (ap (λ (b : List ℕ). b ++ rest) p.3 ∙ append_assoc p.0 p.1 rest) ∙ e ∙ ap (λ (b : List ℕ). b ++ after) s.3 ∙ append_assoc s.0 s.1 after in
      let both = decided.same p.0 s.0 (p.1 ++ rest) (s.1 ++ after) x y p.2 s.2 e2 in
      let heads : p.0 ≡ s.0 = append_cancel_right p.0 s.0 (p.1 ++ rest) (e2 ∙ ap (λ (b : List ℕ). s.0 ++ b) (sym both.1)) in
      let tails = fronts_same p.1 rest inner s.1 after outer r q xs ys p.4 s.4 both.1 f g in (
        ap (λ (b : List ℕ). b ++ inner) p.3 ∙ append_assoc p.0 p.1 inner ∙ ap (λ (b : List ℕ). b ++ (p.1 ++ inner)) heads ∙ ap (λ (b : List ℕ). s.0 ++ b) tails.0
            ∙ sym (ap (λ (b : List ℕ). b ++ outer) s.3 ∙ append_assoc s.0 s.1 outer),
        tails.1,
      )

  pub faults_same : (bytes before after : List ℕ) (r q : PacketReason) → FirstFault Spells Faulty bytes before r → FirstFault Spells Faulty bytes after q → (before ≡ after) × (r ≡ q)
  faults_same bytes before after r q f g =
      let both = fronts_same f.front f.rest f.inner g.front g.rest g.inner r q f.things g.things f.joined g.joined (sym f.bytes-is ∙ g.bytes-is) f.faulty g.faulty in
      (f.before-is ∙ both.0 ∙ sym g.before-is, both.1)
