-- Reading things one behind the other, as a loop does.
use Rattle.std.proofs.Common.{◌≡◌, ℕ, ◌<◌, List, [], ◌∷◌, ◌++◌, length, refl, sym, ap, subst, ◌∙◌, append_assoc, arith}
use Rattle.std.proofs.lemmas.List.{length-append, append-nil}
use Rattle.std.specs.Prelude.{fold}
use Rattle.std.proofs.lemmas.List.Sums.{fold-append}
use Rattle.kn_packet.specs.declared.fault.PacketReason.{PacketReason}
use Rattle.kn_packet.specs.declared.entry.Stop.{Stop}
use Rattle.kn_packet.specs.Reading.{Joins}
use Rattle.kn_packet.specs.Faults.{FirstFault}
use Rattle.kn_packet.specs.Stops.{Begins, StopsAt}

-- these things were read, and the rest of the bytes is left
pub record HasRead {A : Type 0} (Spells : List ℕ → A → Type 0) (bytes rest : List ℕ) (things : List A) : Type 0 where
  pub front : List ℕ
  pub joined : Joins Spells front things
  pub bytes-is : bytes ≡ front ++ rest

joins_one_more : {A : Type 0} (Spells : List ℕ → A → Type 0) (front s : List ℕ) (xs : List A) (x : A) → Joins Spells front xs → Spells s x → Joins Spells (front ++ s) (xs ++ x ∷ [])
joins_one_more Spells front s [] x p q = (s, [], q, ap (λ (b : List ℕ). b ++ s) p ∙ sym (append-nil s), refl)
joins_one_more Spells front s (y ∷ ys) x p q =
    (p.0, p.1 ++ s, p.2, ap (λ (b : List ℕ). b ++ s) p.3 ∙ append_assoc p.0 p.1 s, joins_one_more Spells p.1 s ys x p.4 q)

pub nothing_read : {A : Type 0} (Spells : List ℕ → A → Type 0) (bytes : List ℕ) → HasRead Spells bytes bytes []
nothing_read Spells bytes = record { front = []; joined = refl; bytes-is = refl }

pub one_more_read : {A : Type 0} (Spells : List ℕ → A → Type 0) (bytes rest after : List ℕ) (things : List A) (thing : A) → HasRead Spells bytes rest things → Begins Spells rest thing after → HasRead Spells bytes after (things ++ thing ∷ [])
one_more_read Spells bytes rest after things thing h b = record {
  front = h.front ++ b.spelled;
  joined = joins_one_more Spells h.front b.spelled things thing h.joined b.is_thing;
  bytes-is = h.bytes-is ∙ ap (λ (bs : List ℕ). h.front ++ bs) b.bytes-is ∙ sym (append_assoc h.front b.spelled after);
}

pub all_read : {A : Type 0} (Spells : List ℕ → A → Type 0) (bytes rest : List ℕ) (things : List A) → HasRead Spells bytes rest things → rest ≡ [] → Joins Spells bytes things
all_read Spells bytes rest things h e =
    let whole : h.front ≡ bytes = sym (h.bytes-is ∙ ap (λ (bs : List ℕ). h.front ++ bs) e ∙ append-nil h.front) in
    subst (λ (bs : List ℕ). Joins Spells bs things) whole h.joined

pub stopped : {A : Type 0} (Spells : List ℕ → A → Type 0) (Faulty : List ℕ → List ℕ → PacketReason → Type 0) (bytes rest : List ℕ) (things : List A) (stop : Stop)
    → HasRead Spells bytes rest things → StopsAt Faulty rest stop → StopsAt (FirstFault Spells Faulty) bytes stop
stopped Spells Faulty bytes rest things stop h f = record {
  before = h.front ++ f.before;
  faulty = record { things = things; front = h.front; rest = rest; inner = f.before; joined = h.joined; bytes-is = h.bytes-is; faulty = f.faulty; before-is = refl };
  left-is = let len = ap length h.bytes-is in let left = f.left-is in omega (arith, len, left, length-append h.front f.before, length-append h.front rest);
}

pub shorter : {A : Type 0} (Spells : List ℕ → A → Type 0) (rest after : List ℕ) (thing : A) → (b : Begins Spells rest thing after) → 0 < length b.spelled → length after < length rest
shorter Spells rest after thing b some = let len = ap length b.bytes-is in omega (arith, len, length-append b.spelled after)

pub folded_one_more : {A B : Type 0} (f : B → A → B) (start so_far next : B) (xs : List A) (x : A) → so_far ≡ fold f start xs → next ≡ f so_far x → next ≡ fold f start (xs ++ x ∷ [])
folded_one_more {B = B} f start so_far next xs x e d = d ∙ ap (λ (b : B). f b x) e ∙ sym (fold-append f start xs (x ∷ []))
