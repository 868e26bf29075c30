-- What a piece does to what is held.
use Rattle.std.proofs.Common.{◌≡◌, ◌≢◌, ℕ, ◌+◌, ◌<◌, ◌≤◌, ◌==◌, ◌||◌, true, false, List, [], ◌∷◌, ◌++◌, length, take, drop, arith, refl, sym, ap, ◌∙◌, append_assoc, length-append, inl, inr, Some, None, is_some}
use Rattle.std.proofs.lemmas.List.{append-nil, drop_all, drop_at, take_all}
use Rattle.std.proofs.Math.Seq.{take-add}
use Rattle.std.proofs.lemmas.Bool.{cases_lt, eq-eqb, ne_eqb}
use Rattle.std.proofs.lemmas.Bool.Decides.{nat_tests}
use Rattle.kn_grpc.specs.declared.fault.MessageReason.{MessageReason}
use Rattle.kn_grpc.specs.Messages.{length_of}
use Rattle.kn_grpc.specs.Readers.{Less, Whole, Bad, Reading, reason_in, first_message, is_less, message_in, taken, fed, fault_by, fault_in}
use Rattle.kn_grpc.specs.Stored.{is_sound_at}
use Rattle.kn_grpc.proofs.Firsts.{IsLong, seen_of, short, long, bad, well_none, none_well, first_short, first_long, first_bad}
use Rattle.kn_grpc.proofs.Taking.{taken_more, taken_none}
use Rattle.kn_grpc.proofs.States.{at_body, no_body}

-- where no more is needed a piece changes nothing
pub fed_stays : (r : Reading) (piece : List ℕ) → is_less (first_message r.kept) ≡ false → fed r piece ≡ r
fed_stays r piece e =
    let n = taken_none r.kept piece e in
    ap (λ (k : List ℕ). record r { kept = k }) (ap (λ n. r.kept ++ take n piece) n ∙ append-nil r.kept)

-- bytes without a fault
pub well_no_fault : (t : List ℕ) (o : ℕ) → reason_in t ≡ None → fault_by (first_message t) o ≡ None
well_no_fault t o e = elim (seen_of t) [
  | short s f ↦ ap (λ q. fault_by q o) f
  | long s f ↦ ap (λ q. fault_by q o) f
  | bad r s f ↦ absurd (cc)
]

-- the reason of a head is that of all that is held
pub body_reason : (head body : List ℕ) → is_sound_at head body ≡ true → length head ≡ 5 → reason_in head ≡ None → reason_in (head ++ body) ≡ None
body_reason head body h l e = well_none (head ++ body) (at_body head body h l e).well

-- a head with a fault has nothing behind it
pub bad_body : (head body : List ℕ) (r : MessageReason) → is_sound_at head body ≡ true → reason_in head ≡ Some r → body ≡ []
bad_body head [] r h e = refl
bad_body head (x ∷ body) r h e = absurd (grind (arith, nat_tests))

pub bad_held : (head body : List ℕ) (r : MessageReason) → is_sound_at head body ≡ true → reason_in head ≡ Some r → first_message (head ++ body) ≡ Bad r
bad_held head body r h e =
    let b = bad_body head body r h e in
    ap (λ t. first_message (head ++ t)) b ∙ ap first_message (append-nil head) ∙ first_bad head r e

-- a message is held whole, or less
pub whole_held : (head body : List ℕ) → is_sound_at head body ≡ true → length head ≡ 5 → reason_in head ≡ None → length body ≡ length_of head →
    first_message (head ++ body) ≡ Whole body []
whole_held head body h l e n =
    let a = at_body head body h l e in
    let t = head ++ body in
    let s : IsLong t = record { well = a.well; long = omega (arith, a.len, a.says, n) } in
    let d : drop 5 t ≡ body = drop_at head body 5 l in
    let k : take (length_of t) (drop 5 t) ≡ body = ap (take (length_of t)) d ∙ take_all (length_of t) body (omega (arith, a.says, n)) in
    let z : drop (5 + length_of t) t ≡ [] = drop_all (5 + length_of t) t (omega (arith, a.len, a.says, n)) in
    first_long t s ∙ ap (λ m. Whole m (drop (5 + length_of t) t)) k ∙ ap (Whole body) z

pub short_held : (head body : List ℕ) → is_sound_at head body ≡ true → length head ≡ 5 → reason_in head ≡ None → length body < length_of head →
    first_message (head ++ body) ≡ Less
short_held head body h l e n =
    let a = at_body head body h l e in
    first_short (head ++ body) (record { well = a.well; short = omega (arith, a.len, a.says, n) })

-- another length than the head says is less
pub not_all_held : (head body : List ℕ) → is_sound_at head body ≡ true → length head ≡ 5 → reason_in head ≡ None → length body ≢ length_of head →
    first_message (head ++ body) ≡ Less
not_all_held head body h l e n =
    let a = at_body head body h l e in
    elim (cases_lt (length body) (length_of head)) [
      | inl g ↦ short_held head body h l e g
      | inr g ↦ absurd (n (omega (arith, a.within, g)))
    ]

-- less than a head without a fault is less than a message
pub less_head : (head body : List ℕ) → is_sound_at head body ≡ true → reason_in head ≡ None → length head < 5 → first_message (head ++ body) ≡ Less
less_head head body h e l =
    let b = no_body head body h l in
    ap (λ t. first_message (head ++ t)) b ∙ ap first_message (append-nil head) ∙ first_short head (record { well = none_well head e; short = omega (arith, l) })

-- less than a head is no whole message
pub not_whole_head : (head body : List ℕ) → is_sound_at head body ≡ true → length head < 5 → message_in (first_message (head ++ body)) ≡ None
not_whole_head head body h l =
    let b = no_body head body h l in
    let k : length (head ++ body) ≡ length head = length-append head body ∙ omega (arith, ap length b) in
    elim (seen_of (head ++ body)) [
      | short s f ↦ ap message_in f
      | long s f ↦ absurd (omega (arith, k, s.long))
      | bad r s f ↦ ap message_in f
    ]

pub whole_head : (head body m rest : List ℕ) → is_sound_at head body ≡ true → length head ≤ 5 → first_message (head ++ body) ≡ Whole m rest → length head ≡ 5
whole_head head body m rest h l e = elim (cases_lt (length head) 5) [
  | inl g ↦ absurd (let n = not_whole_head head body h g in cc)
  | inr g ↦ omega arith
]

-- a piece of which a front was taken, and the rest
pub fed_rest : (r mid : Reading) (piece : List ℕ) (n : ℕ) → mid.kept ≡ r.kept ++ take n piece → mid.offset ≡ r.offset →
    taken r.kept piece ≡ n + taken mid.kept (drop n piece) → fed mid (drop n piece) ≡ fed r piece
fed_rest r mid piece n e o t =
    let k = taken mid.kept (drop n piece) in
    let a : take (n + k) piece ≡ take n piece ++ take k (drop n piece) = take-add n k piece in
    let kept : mid.kept ++ take k (drop n piece) ≡ r.kept ++ take (taken r.kept piece) piece =
    ap (λ p. p ++ take k (drop n piece)) e ∙ append_assoc r.kept (take n piece) (take k (drop n piece)) ∙ ap (λ p. r.kept ++ p) (sym a ∙ ap (λ j. take j piece) (sym t)) in
    ap (λ (p : List ℕ). let q : Reading = record { kept = p; offset = mid.offset } in q) kept ∙ ap (λ (j : ℕ). let q : Reading = record { kept = r.kept ++ take (taken r.kept piece) piece; offset = j } in q) o

-- a head behind which nothing is held
pub begun_kept : (head body more : List ℕ) → body ≡ [] → (head ++ more) ++ body ≡ (head ++ body) ++ more
begun_kept head body more e =
    ap (λ b. (head ++ more) ++ b) e ∙ append-nil (head ++ more) ∙ ap (λ h. h ++ more) (sym (append-nil head) ∙ ap (λ b. head ++ b) (sym e))

-- what is taken where a message or a fault is held, or nothing comes
pub nothing_taken : (old new : Reading) (piece : List ℕ) (n : ℕ) → n ≡ taken old.kept piece → new ≡ fed old piece → fault_in new ≡ None →
    (n == 0) ≡ (is_some (message_in (first_message old.kept)) || (length piece == 0))
nothing_taken old new [] n e f w = elim (seen_of old.kept) [
  | short s g ↦ ap (λ k. k == 0) e ∙ sym (ap (λ q. is_some (message_in q) || true) g)
  | long s g ↦ ap (λ k. k == 0) e ∙ sym (ap (λ q. is_some (message_in q) || true) g)
  | bad r s g ↦ ap (λ k. k == 0) e ∙ sym (ap (λ q. is_some (message_in q) || true) g)
]
nothing_taken old new (x ∷ xs) n e f w = elim (seen_of old.kept) [
  | short s g ↦
      let t = taken_more old.kept x xs g in
      ne_eqb n 0 (λ z. omega (arith, e, t, z)) ∙ sym (ap (λ q. is_some (message_in q) || (length (x ∷ xs) == 0)) g ∙ ne_eqb (length (x ∷ xs)) 0 (λ z. omega (arith, z)))
  | long s g ↦
      let t = taken_none old.kept (x ∷ xs) (ap is_less g) in
      ap (λ k. k == 0) (e ∙ t) ∙ sym (ap (λ q. is_some (message_in q) || (length (x ∷ xs) == 0)) g)
  | bad r s g ↦
      let on = fed_stays old (x ∷ xs) (ap is_less g) in
      let z : fault_in new ≡ Some (record { offset = old.offset; reason = r }) = ap fault_in (f ∙ on) ∙ ap (λ q. fault_by q old.offset) g in
      absurd (cc)
]

-- behind a whole head without a fault the message is whole exactly where as much came as it says
pub whole_or_short : (head body : List ℕ) → is_sound_at head body ≡ true → length head ≡ 5 → reason_in head ≡ None →
    (length body == length_of head) ≡ is_some (message_in (first_message (head ++ body)))
whole_or_short head body h l e =
    let a = at_body head body h l e in
    elim (cases_lt (length body) (length_of head)) [
      | inl g ↦ ne_eqb (length body) (length_of head) (λ z. omega (arith, g, z)) ∙ sym (ap (λ q. is_some (message_in q)) (short_held head body h l e g))
      | inr g ↦
          let n : length body ≡ length_of head = omega (arith, a.within, g) in
          eq-eqb (length body) (length_of head) n ∙ sym (ap (λ q. is_some (message_in q)) (whole_held head body h l e n))
    ]

pub head_within : (head body : List ℕ) → is_sound_at head body ≡ true → length head ≤ 5
head_within head [] h = grind (arith, nat_tests)
head_within head (x ∷ body) h = grind (arith, nat_tests)
