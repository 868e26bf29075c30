-- The first message of a text is what is spelled at its front.
use Rattle.std.proofs.Common.{◌≡◌, ℕ, zero, suc, ◌+◌, ◌-◌, ◌<◌, ◌≤◌, List, [], ◌∷◌, ◌++◌, length, take, drop, get_or, replicate, arith, refl, sym, ap, ◌∙◌, subst, append_assoc, length-append, inl, inr, Some}
use Rattle.std.proofs.lemmas.List.{append-nil, length-replicate, length-drop, length-take-le, take-append-drop, drop-append-le, drop_at, take_at, drop-take, drop_all}
use Rattle.std.proofs.lemmas.Bool.{cases_lt}
use Rattle.kn_grpc.specs.declared.fault.MessageReason.{MessageReason}
use Rattle.kn_grpc.specs.declared.fault.MessageReason.TheVariants.{Compressed, Flag, TooLong}
use Rattle.kn_grpc.specs.Messages.{length_of, IsSpelling, IsPartial, BeginsNoMessage, spelled}
use Rattle.kn_grpc.specs.Readers.{Less, Whole, Bad, reason_in, first_message}
use Rattle.kn_grpc.specs.Courses.{HasReason}
use Rattle.kn_grpc.proofs.Firsts.{length_of-append-le, length_of-append, flag-append, IsWell, Reason, well, long, compressed, flagged, reason_of, IsShort, IsLong, first_short, first_long, first_bad, Seen, short, bad, seen_of, short_of, nothing_short}
use Rattle.kn_grpc.proofs.Firsts as firsts

-- a message at the front is the first
pub whole_of_spelling : (m front rest : List ℕ) → IsSpelling m front → first_message (front ++ rest) ≡ Whole m rest
whole_of_spelling m front rest s =
    let t = front ++ rest in
    let n : length_of t ≡ length_of front = length_of-append front rest (omega (arith, s.len)) in
    let f : get_or t 0 0 ≡ 0 = flag-append front rest (omega (arith, s.len)) ∙ s.flag in
    let k : length t ≡ length front + length rest = length-append front rest in
    let l : IsLong t = record { well = record { flag = f; small = omega (arith, n, s.small) }; long = omega (arith, n, k, s.len) } in
    let d : drop 5 t ≡ drop 5 front ++ rest = drop-append-le 5 front rest (omega (arith, s.len)) in
    let b : length (drop 5 front) ≡ length_of t = omega (arith, length-drop 5 front, s.len, n) in
    let first : take (length_of t) (drop 5 t) ≡ m = ap (take (length_of t)) d ∙ take_at (drop 5 front) rest (length_of t) b ∙ s.body in
    let last : drop (5 + length_of t) t ≡ rest = drop_at front rest (5 + length_of t) (omega (arith, s.len, n)) in
    first_long t l ∙ ap (λ x. Whole x (drop (5 + length_of t) t)) first ∙ ap (Whole m) last

-- the first message is at the front
pub record IsAtFront (text m rest : List ℕ) : Type 0 where
  pub front : List ℕ
  pub joined : text ≡ front ++ rest
  pub spells : IsSpelling m front

pub spelling_of_whole : (text m rest : List ℕ) → first_message text ≡ Whole m rest → IsAtFront text m rest
spelling_of_whole text m rest e = elim (seen_of text) [
  | short s f ↦ absurd (cc)
  | firsts.long s f ↦
      let n = length_of text in
      let front = take (5 + n) text in
      let j : text ≡ front ++ drop (5 + n) text = sym (take-append-drop (5 + n) text) in
      let r : drop (5 + n) text ≡ rest = cc in
      let b : take n (drop 5 text) ≡ m = cc in
      let k : length front ≡ 5 + n = length-take-le (5 + n) text s.long in
      let l : n ≡ length_of front = ap length_of j ∙ length_of-append front (drop (5 + n) text) (omega (arith, k)) in
      let f' : get_or text 0 0 ≡ get_or front 0 0 = ap (λ t. get_or t 0 0) j ∙ flag-append front (drop (5 + n) text) (omega (arith, k)) in
      record {
        front = front;
        joined = j ∙ ap (λ x. front ++ x) r;
        spells = record { flag = sym f' ∙ s.well.flag; small = omega (arith, l, s.well.small); len = omega (arith, k, l); body = drop-take 5 n text ∙ b };
      }
  | bad r s f ↦ absurd (cc)
]

-- ---- less than a message

get_or-zeros : (k i : ℕ) → get_or {A = ℕ} (replicate k 0) i 0 ≡ 0
get_or-zeros zero i = refl
get_or-zeros (suc k) zero = refl
get_or-zeros (suc k) (suc i) = get_or-zeros k i

-- bytes that did not come yet count as 0
length_of-zeros : (p : List ℕ) (k : ℕ) → length_of (p ++ replicate k 0) ≡ length_of p
unfolding length_of
length_of-zeros [] k = rw (get_or-zeros k 1, get_or-zeros k 2, get_or-zeros k 3, get_or-zeros k 4)
length_of-zeros (a ∷ []) k = rw (get_or-zeros k 0, get_or-zeros k 1, get_or-zeros k 2, get_or-zeros k 3)
length_of-zeros (a ∷ b ∷ []) k = rw (get_or-zeros k 0, get_or-zeros k 1, get_or-zeros k 2)
length_of-zeros (a ∷ b ∷ c ∷ []) k = rw (get_or-zeros k 0, get_or-zeros k 1)
length_of-zeros (a ∷ b ∷ c ∷ d ∷ []) k = rw (get_or-zeros k 0)
length_of-zeros (a ∷ b ∷ c ∷ d ∷ e ∷ p) k = refl

flag-zeros : (p : List ℕ) (k : ℕ) → get_or (p ++ replicate k 0) 0 0 ≡ get_or p 0 0
flag-zeros [] k = get_or-zeros k 0
flag-zeros (a ∷ p) k = refl

pub partial_of_short : (text : List ℕ) → IsShort text → IsPartial text
partial_of_short text s =
    let k = 5 + length_of text - length text in
    let more = replicate k 0 in
    let e : length_of (text ++ more) ≡ length_of text = length_of-zeros text k in
    let f : get_or (text ++ more) 0 0 ≡ get_or text 0 0 = flag-zeros text k in
    let l : length more ≡ k = length-replicate k 0 in (
      drop 5 (text ++ more),
      more,
      record { flag = f ∙ s.well.flag; small = omega (arith, e, s.well.small); len = omega (arith, e, l, s.short, length-append text more); body = refl },
      omega (arith, l, s.short),
    )

flag_front : (p q : List ℕ) → get_or (p ++ q) 0 0 ≡ 0 → get_or p 0 0 ≡ 0
flag_front [] q h = refl
flag_front (a ∷ p) q h = h

pub short_of_partial : (text : List ℕ) → IsPartial text → IsShort text
short_of_partial text p =
    let more = p.1 in
    let s = p.2 in
    let n = length_of-append-le text more in
    let w : IsWell text = record { flag = flag_front text more s.flag; small = omega (arith, n, s.small) } in
    elim (cases_lt (length text) 5) [
      | inl h ↦ record { well = w; short = omega arith }
      | inr h ↦ record { well = w; short = omega (arith, length_of-append text more h, length-append text more, s.len, p.3) }
    ]

pub less_partial : (text : List ℕ) → first_message text ≡ Less → IsPartial text
less_partial text e = partial_of_short text (short_of text e)

pub partial_less : (text : List ℕ) → IsPartial text → first_message text ≡ Less
partial_less text p = first_short text (short_of_partial text p)

-- ---- faults

first_byte : (text : List ℕ) → 0 < get_or text 0 0 → (rest : List ℕ) × (text ≡ get_or text 0 0 ∷ rest)
first_byte [] h = absurd (omega arith)
first_byte (a ∷ rest) h = (rest, refl)

long_byte : (text : List ℕ) → get_or text 0 0 ≡ 0 → 4194304 < length_of text → (rest : List ℕ) × (text ≡ 0 ∷ rest)
unfolding length_of
long_byte [] e h = absurd (omega arith)
long_byte (a ∷ rest) e h = (rest, ap (λ x. x ∷ rest) e)

-- the reason is shown by the bytes
pub reason_shown : (text : List ℕ) (r : MessageReason) → reason_in text ≡ Some r → HasReason text r
reason_shown text r e = elim (reason_of text) [
  | well w ↦ absurd (let n = firsts.well_none text w in cc)
  | firsts.long f g q ↦
      let s : TooLong ≡ r = cc in
      let b = long_byte text f g in
      subst (HasReason text) s (b.0, b.1, λ more. omega (arith, length_of-append-le text more, g))
  | compressed f q ↦
      let s : Compressed ≡ r = cc in
      let b = first_byte text (omega (arith, f)) in
      subst (HasReason text) s (b.0, b.1 ∙ ap (λ x. x ∷ b.0) f)
  | flagged f q ↦
      let s : Flag ≡ r = cc in
      let b = first_byte text (omega (arith, f)) in
      subst (HasReason text) s (get_or text 0 0, b.0, f, b.1)
]

-- and bytes that show it have it
pub shown_reason : (text : List ℕ) (r : MessageReason) → HasReason text r → reason_in text ≡ Some r
shown_reason text Compressed h =
    let f : get_or text 0 0 ≡ 1 = ap (λ t. get_or t 0 0) h.1 in
    elim (reason_of text) [
      | well w ↦ absurd (omega (arith, w.flag, f))
      | firsts.long g l q ↦ absurd (omega (arith, g, f))
      | compressed g q ↦ q
      | flagged g q ↦ absurd (omega (arith, g, f))
    ]
shown_reason text Flag h =
    let f : get_or text 0 0 ≡ h.0 = ap (λ t. get_or t 0 0) h.3 in
    elim (reason_of text) [
      | well w ↦ absurd (omega (arith, w.flag, f, h.2))
      | firsts.long g l q ↦ absurd (omega (arith, g, f, h.2))
      | compressed g q ↦ absurd (omega (arith, g, f, h.2))
      | flagged g q ↦ q
    ]
shown_reason text TooLong h =
    let f : get_or text 0 0 ≡ 0 = ap (λ t. get_or t 0 0) h.1 in
    let n : 4194304 < length_of text = omega (arith, h.2 [], ap length_of (append-nil text)) in
    elim (reason_of text) [
      | well w ↦ absurd (omega (arith, w.small, n))
      | firsts.long g l q ↦ q
      | compressed g q ↦ absurd (omega (arith, g, f))
      | flagged g q ↦ absurd (omega (arith, g, f))
    ]

pub bad_reason : (text : List ℕ) (r : MessageReason) → first_message text ≡ Bad r → HasReason text r
bad_reason text r e = elim (seen_of text) [
  | short s f ↦ absurd (cc)
  | firsts.long s f ↦ absurd (cc)
  | bad q s f ↦ reason_shown text r (let z : q ≡ r = cc in s ∙ ap Some z)
]

pub reason_bad : (text : List ℕ) (r : MessageReason) → HasReason text r → first_message text ≡ Bad r
reason_bad text r h = first_bad text r (shown_reason text r h)

-- ---- what follows

reason_more : (text more : List ℕ) (r : MessageReason) → HasReason text r → HasReason (text ++ more) r
reason_more text more Compressed h = (h.0 ++ more, ap (λ t. t ++ more) h.1)
reason_more text more Flag h = (h.0, h.1 ++ more, h.2, ap (λ t. t ++ more) h.3)
reason_more text more TooLong h = (h.0 ++ more, ap (λ t. t ++ more) h.1, λ last. omega (arith, h.2 (more ++ last), ap length_of (append_assoc text more last)))

pub whole_stays : (text m rest more : List ℕ) → first_message text ≡ Whole m rest → first_message (text ++ more) ≡ Whole m (rest ++ more)
whole_stays text m rest more e =
    let a = spelling_of_whole text m rest e in
    ap first_message (ap (λ t. t ++ more) a.joined ∙ append_assoc a.front rest more) ∙ whole_of_spelling m a.front (rest ++ more) a.spells

pub bad_stays : (text more : List ℕ) (r : MessageReason) → first_message text ≡ Bad r → first_message (text ++ more) ≡ Bad r
bad_stays text more r e = reason_bad (text ++ more) r (reason_more text more r (bad_reason text r e))

pub bad_begins_none : (text : List ℕ) (r : MessageReason) → first_message text ≡ Bad r → BeginsNoMessage text
bad_begins_none text r e m front after more s j =
    let w = whole_of_spelling m front after s in
    let b = bad_stays text more r e in
    let z = ap first_message j in
    cc

-- the front of less than a message is less
pub less_front : (text more : List ℕ) → first_message (text ++ more) ≡ Less → first_message text ≡ Less
less_front text more e = elim (seen_of text) [
  | short s f ↦ f
  | firsts.long s f ↦ absurd (let w = whole_stays text _ _ more f in cc)
  | bad r s f ↦ absurd (let w = bad_stays text more r f in cc)
]

-- the byte that makes a message whole is its last
pub whole_at_last : (text m rest : List ℕ) (x : ℕ) → first_message text ≡ Less → first_message (text ++ x ∷ []) ≡ Whole m rest → rest ≡ []
whole_at_last text m rest x e w =
    let s = short_of text e in
    let t = text ++ x ∷ [] in
    let n = length_of-append-le text (x ∷ []) in
    let k : length t ≡ length text + 1 = length-append text (x ∷ []) in
    elim (seen_of t) [
      | short s f ↦ absurd (cc)
      | firsts.long l f ↦ let z : drop (5 + length_of t) t ≡ rest = cc in sym z ∙ drop_all (5 + length_of t) t (omega (arith, n, k, s.short))
      | bad r s f ↦ absurd (cc)
    ]

-- ---- what is written

pub spelled_spells : (m : List ℕ) → length m ≤ 4194304 → IsSpelling m (spelled m)
unfolding spelled length_of
spelled_spells m h = record { flag = refl; small = omega arith; len = omega arith; body = refl }
