-- What a head says of the bytes behind it.
use Rattle.std.proofs.Common.{◌≡◌, ℕ, ◌+◌, ◌<◌, ◌≤◌, ◌==◌, true, false, List, [], ◌∷◌, ◌++◌, length, take, drop, get_or, nat_lt, arith, refl, ap, ◌∙◌, inl, inr, Some, None}
use Rattle.std.proofs.lemmas.Bool.{cases_lt, le-ltb, lt-ltb, eq-eqb, ne_eqb}
use Rattle.kn_grpc.specs.declared.fault.MessageReason.{MessageReason}
use Rattle.kn_grpc.specs.declared.fault.MessageReason.TheVariants.{Compressed, Flag, TooLong}
use Rattle.kn_grpc.specs.Messages.{length_of}
use Rattle.kn_grpc.specs.Readers.{Less, Whole, Bad, reason_in, first_by, first_message}

-- the length only grows with the bytes of a head that come
pub length_of-append-le : (p q : List ℕ) → length_of p ≤ length_of (p ++ q)
unfolding length_of
length_of-append-le [] q = omega arith
length_of-append-le (a ∷ []) q = omega arith
length_of-append-le (a ∷ b ∷ []) q = omega arith
length_of-append-le (a ∷ b ∷ c ∷ []) q = omega arith
length_of-append-le (a ∷ b ∷ c ∷ d ∷ []) q = omega arith
length_of-append-le (a ∷ b ∷ c ∷ d ∷ e ∷ p) q = omega arith

-- five bytes say it
pub length_of-append : (p q : List ℕ) → 5 ≤ length p → length_of (p ++ q) ≡ length_of p
unfolding length_of
length_of-append [] q h = absurd (omega arith)
length_of-append (a ∷ []) q h = absurd (omega arith)
length_of-append (a ∷ b ∷ []) q h = absurd (omega arith)
length_of-append (a ∷ b ∷ c ∷ []) q h = absurd (omega arith)
length_of-append (a ∷ b ∷ c ∷ d ∷ []) q h = absurd (omega arith)
length_of-append (a ∷ b ∷ c ∷ d ∷ e ∷ p) q h = refl

-- the flag is the first byte
pub flag-append : (p q : List ℕ) → 0 < length p → get_or (p ++ q) 0 0 ≡ get_or p 0 0
flag-append [] q h = absurd (omega arith)
flag-append (a ∷ p) q h = refl

-- no fault so far: the flag is 0 and the length not too much
pub record IsWell (t : List ℕ) : Type 0 where
  pub flag : get_or t 0 0 ≡ 0
  pub small : length_of t ≤ 4194304

pub well_none : (t : List ℕ) → IsWell t → reason_in t ≡ None
well_none t w =
    let e : (get_or t 0 0 == 0) ≡ true = eq-eqb (get_or t 0 0) 0 w.flag in
    let l : nat_lt 4194304 (length_of t) ≡ false = le-ltb 4194304 (length_of t) w.small in
    rw (e, l)

-- why the bytes are none
pub data Reason (t : List ℕ) : Type 0 where
  well : IsWell t → Reason t
  long : get_or t 0 0 ≡ 0 → 4194304 < length_of t → reason_in t ≡ Some TooLong → Reason t
  compressed : get_or t 0 0 ≡ 1 → reason_in t ≡ Some Compressed → Reason t
  flagged : 1 < get_or t 0 0 → reason_in t ≡ Some Flag → Reason t

pub reason_of : (t : List ℕ) → Reason t
reason_of t = elim (cases_lt 0 (get_or t 0 0)) [
  | inl h ↦
      let z : (get_or t 0 0 == 0) ≡ false = ne_eqb (get_or t 0 0) 0 (λ e. omega arith) in
      elim (cases_lt 1 (get_or t 0 0)) [
        | inl g ↦ let o : (get_or t 0 0 == 1) ≡ false = ne_eqb (get_or t 0 0) 1 (λ e. omega arith) in flagged g (rw (z, o))
        | inr g ↦ let o : (get_or t 0 0 == 1) ≡ true = eq-eqb (get_or t 0 0) 1 (omega arith) in compressed (omega arith) (rw (z, o))
      ]
  | inr h ↦
      let n : get_or t 0 0 ≡ 0 = omega arith in
      let z : (get_or t 0 0 == 0) ≡ true = eq-eqb (get_or t 0 0) 0 n in
      elim (cases_lt 4194304 (length_of t)) [
        | inl g ↦ let l : nat_lt 4194304 (length_of t) ≡ true = lt-ltb 4194304 (length_of t) g in long n g (rw (z, l))
        | inr g ↦ well (record { flag = n; small = g })
      ]
]

pub none_well : (t : List ℕ) → reason_in t ≡ None → IsWell t
none_well t e = elim (reason_of t) [
  | well w ↦ w
  | long f g r ↦ absurd (cc)
  | compressed f r ↦ absurd (cc)
  | flagged f r ↦ absurd (cc)
]

-- the bytes are less than a message, and can become one
pub record IsShort (t : List ℕ) : Type 0 where
  pub well : IsWell t
  pub short : length t < 5 + length_of t

-- a message stands at the front
pub record IsLong (t : List ℕ) : Type 0 where
  pub well : IsWell t
  pub long : 5 + length_of t ≤ length t

pub first_short : (t : List ℕ) → IsShort t → first_message t ≡ Less
unfolding first_message
first_short t s =
    let e : reason_in t ≡ None = well_none t s.well in
    let l : nat_lt (length t) (5 + length_of t) ≡ true = lt-ltb (length t) (5 + length_of t) s.short in
    ap (λ r. first_by r t) e ∙ rw l

pub first_long : (t : List ℕ) → IsLong t → first_message t ≡ Whole (take (length_of t) (drop 5 t)) (drop (5 + length_of t) t)
unfolding first_message
first_long t s =
    let e : reason_in t ≡ None = well_none t s.well in
    let l : nat_lt (length t) (5 + length_of t) ≡ false = le-ltb (length t) (5 + length_of t) s.long in
    ap (λ r. first_by r t) e ∙ rw l

pub first_bad : (t : List ℕ) (reason : MessageReason) → reason_in t ≡ Some reason → first_message t ≡ Bad reason
unfolding first_message
first_bad t reason e = ap (λ r. first_by r t) e

-- the first message, and why
pub data Seen (t : List ℕ) : Type 0 where
  short : IsShort t → first_message t ≡ Less → Seen t
  long : IsLong t → first_message t ≡ Whole (take (length_of t) (drop 5 t)) (drop (5 + length_of t) t) → Seen t
  bad : (reason : MessageReason) → reason_in t ≡ Some reason → first_message t ≡ Bad reason → Seen t

pub seen_of : (t : List ℕ) → Seen t
seen_of t = elim (reason_of t) [
  | well w ↦ elim (cases_lt (length t) (5 + length_of t)) [
    | inl h ↦ let s : IsShort t = record { well = w; short = h } in short s (first_short t s)
    | inr h ↦ let s : IsLong t = record { well = w; long = h } in long s (first_long t s)
  ]
  | long f g r ↦ bad TooLong r (first_bad t TooLong r)
  | compressed f r ↦ bad Compressed r (first_bad t Compressed r)
  | flagged f r ↦ bad Flag r (first_bad t Flag r)
]

pub short_of : (t : List ℕ) → first_message t ≡ Less → IsShort t
short_of t e = elim (seen_of t) [
  | short s f ↦ s
  | long s f ↦ absurd (cc)
  | bad r s f ↦ absurd (cc)
]

pub nothing_short : IsShort []
unfolding length_of
nothing_short = record { well = record { flag = refl; small = omega arith }; short = omega arith }
