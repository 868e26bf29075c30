-- A head that was begun with the front of a piece.
use Rattle.std.proofs.Common.{◌≡◌, ℕ, ◌+◌, ◌-◌, ◌<◌, ◌&&◌, true, List, [], ◌++◌, length, take, drop, nat_lt, arith, refl, sym, ap, ◌∙◌, Option, Some, None, is_none}
use Rattle.std.proofs.lemmas.List.{append-nil, drop_all, take_all, length-drop}
use Rattle.std.proofs.lemmas.Bool.{lt-ltb}
use Rattle.kn_grpc.specs.declared.fault.MessageReason.{MessageReason}
use Rattle.kn_grpc.specs.Readers.{Bad, Reading, reason_in, first_message, is_less, taken, fed, fault_by, fault_in, wants_head}
use Rattle.kn_grpc.specs.Stored.{is_sound_at}
use Rattle.kn_grpc.proofs.Firsts.{first_bad}
use Rattle.kn_grpc.proofs.States.{no_body}
use Rattle.kn_grpc.proofs.Feeding.{well_no_fault, fed_rest, fed_stays}

-- the same bytes with an offset
abbrev pub holds : List ℕ → ℕ → Reading
holds kept offset = record { kept = kept; offset = offset }

pub record Begun (head body new piece : List ℕ) (count offset : ℕ) : Type 0 where
  pub none : new ++ body ≡ new
  pub left : taken (head ++ body) piece ≡ count + taken (new ++ body) (drop count piece)
  pub rest : fed (holds (new ++ body) offset) (drop count piece) ≡ fed (holds (head ++ body) offset) piece

pub begun : (head body new piece : List ℕ) (count offset : ℕ) → is_sound_at head body ≡ true → length head < 5 → new ≡ head ++ take count piece →
    taken head piece ≡ count + taken new (drop count piece) → Begun head body new piece count offset
begun head body new piece count offset h l e t =
    let b = no_body head body h l in
    let n : new ++ body ≡ new = ap (λ b. new ++ b) b ∙ append-nil new in
    let o : head ++ body ≡ head = ap (λ b. head ++ b) b ∙ append-nil head in
    let left : taken (head ++ body) piece ≡ count + taken (new ++ body) (drop count piece) = ap (λ k. taken k piece) o ∙ t ∙ sym (ap (λ k. count + taken k (drop count piece)) n) in
    let kept : new ++ body ≡ (head ++ body) ++ take count piece = n ∙ e ∙ ap (λ k. k ++ take count piece) (sym o) in
    record { none = n; left = left; rest = fed_rest (holds (head ++ body) offset) (holds (new ++ body) offset) piece count kept refl left }

-- it ended in a fault
pub begun_bad : (head body new piece : List ℕ) (count offset : ℕ) (r : MessageReason) → Begun head body new piece count offset → reason_in new ≡ Some r →
    (holds (new ++ body) offset ≡ fed (holds (head ++ body) offset) piece) × (fault_in (holds (new ++ body) offset) ≡ Some (record { offset = offset; reason = r }))
begun_bad head body new piece count offset r b e =
    let f : first_message (new ++ body) ≡ Bad r = ap first_message b.none ∙ first_bad new r e in
    (sym (fed_stays (holds (new ++ body) offset) (drop count piece) (ap is_less f)) ∙ b.rest, ap (λ q. fault_by q offset) f)

-- the whole piece was taken, and the head is not whole
pub begun_all : (head body new piece : List ℕ) (count offset : ℕ) → Begun head body new piece count offset → reason_in new ≡ None → length new < 5 →
    (wants_head new ≡ true → count ≡ length piece) →
    (count ≡ taken (head ++ body) piece) × (holds (new ++ body) offset ≡ fed (holds (head ++ body) offset) piece) × (fault_in (holds (new ++ body) offset) ≡ None)
begun_all head body new piece count offset b e l h =
    let w : wants_head new ≡ true = ap (λ (o : Option MessageReason). is_none o && nat_lt (length new) 5) e ∙ lt-ltb (length new) 5 l in
    let n = h w in
    let d : drop count piece ≡ [] = drop_all count piece (omega (arith, n)) in
    let z : taken (new ++ body) (drop count piece) ≡ 0 = ap (taken (new ++ body)) d in
    let s : fed (holds (new ++ body) offset) (drop count piece) ≡ holds (new ++ body) offset = ap (fed (holds (new ++ body) offset)) d ∙ ap (λ k. holds k offset) (append-nil (new ++ body)) in
    (omega (arith, b.left, z), sym s ∙ b.rest, ap (λ q. fault_by q offset) (ap first_message b.none) ∙ well_no_fault new offset e)

-- what is left of a piece
pub rest_of : (n : ℕ) (piece : List ℕ) → take (length piece - n) (drop n piece) ≡ drop n piece
rest_of n piece = take_all (length piece - n) (drop n piece) (omega (arith, length-drop n piece))
