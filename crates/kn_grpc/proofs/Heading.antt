-- Bytes of a head, one after another.
use Rattle.std.proofs.Common.{◌≡◌, ℕ, suc, ◌+◌, ◌<◌, true, false, List, [], ◌∷◌, ◌++◌, length, take, drop, get_or, nat_lt, ◌&&◌, Option, is_none, arith, sym, ap, ◌∙◌, append_assoc}
use Rattle.std.proofs.lemmas.List.{take_more, drop_more}
use Rattle.std.proofs.lemmas.Bool.{ltb-true}
use Rattle.kn_grpc.specs.declared.fault.MessageReason.{MessageReason}
use Rattle.kn_grpc.specs.Readers.{Less, first_message, taken, wants_head}
use Rattle.kn_grpc.proofs.Firsts.{well, long, compressed, flagged, reason_of, well_none, first_short}
use Rattle.kn_grpc.proofs.Taking.{taken_more}

-- a head that needs more is less than a message
pub wanted_less : (head : List ℕ) → wants_head head ≡ true → (length head < 5) × (first_message head ≡ Less)
wanted_less head h = elim (reason_of head) [
  | well w ↦
      let l : length head < 5 = ltb-true (length head) 5 (ap (λ (o : Option MessageReason). is_none o && nat_lt (length head) 5) (sym (well_none head w)) ∙ h) in
      (l, first_short head (record { well = w; short = omega arith }))
  | long f g r ↦ absurd (let e : true ≡ false = sym h ∙ ap (λ (o : Option MessageReason). is_none o && nat_lt (length head) 5) r in cc)
  | compressed f r ↦ absurd (let e : true ≡ false = sym h ∙ ap (λ (o : Option MessageReason). is_none o && nat_lt (length head) 5) r in cc)
  | flagged f r ↦ absurd (let e : true ≡ false = sym h ∙ ap (λ (o : Option MessageReason). is_none o && nat_lt (length head) 5) r in cc)
]

-- one more byte of it
pub record Heading (before head piece : List ℕ) (at : ℕ) : Type 0 where
  pub more : head ++ get_or piece at 0 ∷ [] ≡ before ++ take (at + 1) piece
  pub left : taken before piece ≡ at + 1 + taken (head ++ get_or piece at 0 ∷ []) (drop (at + 1) piece)

pub heading : (before head piece : List ℕ) (at : ℕ) → at < length piece → wants_head head ≡ true → head ≡ before ++ take at piece →
    taken before piece ≡ at + taken head (drop at piece) → Heading before head piece at
heading before head piece at h w e t =
    let x = get_or piece at 0 in
    let d = drop_more piece at 0 h in
    let m = take_more piece at 0 h in
    let k : taken head (drop at piece) ≡ suc (taken (head ++ x ∷ []) (drop (at + 1) piece)) = ap (taken head) d ∙ taken_more head x (drop (at + 1) piece) (wanted_less head w).1 in
    record {
      more = ap (λ p. p ++ x ∷ []) e ∙ append_assoc before (take at piece) (x ∷ []) ∙ ap (λ p. before ++ p) (sym m);
      left = omega (arith, t, k);
    }
