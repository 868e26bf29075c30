-- What a reader takes and holds over all its calls.
use Rattle.std.proofs.Common.{◌≡◌, ℕ, ◌+◌, ◌-◌, ◌≤◌, false, List, [], ◌∷◌, ◌++◌, length, take, arith, refl, sym, ap, ◌∙◌, subst, append_assoc, length-append, inl, inr, Some, None}
use Rattle.std.proofs.lemmas.List.{append-nil}
use Rattle.kn_grpc.specs.declared.fault.MessageReason.{MessageReason}
use Rattle.kn_grpc.specs.declared.fault.MessageFault.{MessageFault}
use Rattle.kn_grpc.specs.Messages.{Spells, AreMessages}
use Rattle.kn_grpc.specs.Readers.{Less, Whole, Bad, first_message, is_less, message_in, Reading, taken, fed, popped, popped_by, fault_by, fault_in, count_up}
use Rattle.kn_grpc.specs.Courses.{Act, Feeds, Pops, Course, begins, listed, after_act, after_acts_from, IsHeld, HasCourse}
use Rattle.kn_grpc.proofs.Firsts.{short, long, bad, seen_of, first_short, nothing_short}
use Rattle.kn_grpc.proofs.Taking.{taken_more, taken_none}
use Rattle.kn_grpc.proofs.Feeding.{fed_stays}
use Rattle.kn_grpc.proofs.Spellings.{spelling_of_whole, whole_of_spelling, partial_less, whole_stays, bad_stays, less_front, whole_at_last}

-- what is held after a piece
abbrev pub kept_after : List ℕ → List ℕ → List ℕ
kept_after kept piece = kept ++ take (taken kept piece) piece

after_more : (kept : List ℕ) (x : ℕ) (xs : List ℕ) → first_message kept ≡ Less → kept_after kept (x ∷ xs) ≡ kept_after (kept ++ x ∷ []) xs
after_more kept x xs e =
    ap (λ n. kept ++ take n (x ∷ xs)) (taken_more kept x xs e) ∙ sym (append_assoc kept (x ∷ []) (take (taken (kept ++ x ∷ []) xs) xs))

after_none : (kept xs : List ℕ) → is_less (first_message kept) ≡ false → kept_after kept xs ≡ kept
after_none kept xs e = ap (λ n. kept ++ take n xs) (taken_none kept xs e) ∙ append-nil kept

-- ---- in any pieces

-- no more is taken behind these
both_none : (kept : List ℕ) (x : ℕ) (xs ys : List ℕ) → is_less (first_message kept) ≡ false →
    (kept_after kept (x ∷ (xs ++ ys)) ≡ kept_after (kept_after kept (x ∷ xs)) ys) × (taken kept (x ∷ (xs ++ ys)) ≡ taken kept (x ∷ xs) + taken (kept_after kept (x ∷ xs)) ys)
both_none kept x xs ys e =
    let a = after_none kept (x ∷ xs) e in
    let one = taken_none kept (x ∷ (xs ++ ys)) e in
    let two = taken_none kept (x ∷ xs) e in
    let three : taken (kept_after kept (x ∷ xs)) ys ≡ 0 = ap (λ k. taken k ys) a ∙ taken_none kept ys e in
    (after_none kept (x ∷ (xs ++ ys)) e ∙ sym (ap (λ k. kept_after k ys) a ∙ after_none kept ys e), omega (arith, one, two, three))

pub pieces : (kept xs ys : List ℕ) → (kept_after kept (xs ++ ys) ≡ kept_after (kept_after kept xs) ys) × (taken kept (xs ++ ys) ≡ taken kept xs + taken (kept_after kept xs) ys)
pieces kept [] ys =
    let n : kept_after kept [] ≡ kept = append-nil kept in
    let t = ap (λ k. taken k ys) n in
    (sym (ap (λ k. kept_after k ys) n), omega (arith, t))
pieces kept (x ∷ xs) ys = elim (seen_of kept) [
  | short s f ↦
      let on = pieces (kept ++ x ∷ []) xs ys in
      let a = after_more kept x xs f in
      let one = taken_more kept x (xs ++ ys) f in
      let two = taken_more kept x xs f in
      let three = ap (λ k. taken k ys) a in
      (after_more kept x (xs ++ ys) f ∙ on.0 ∙ sym (ap (λ k. kept_after k ys) a), omega (arith, one, two, three, on.1))
  | long s f ↦ both_none kept x xs ys (ap is_less f)
  | bad r s f ↦ both_none kept x xs ys (ap is_less f)
]

pub fed_pieces : (r : Reading) (xs ys : List ℕ) → fed r (xs ++ ys) ≡ fed (fed r xs) ys
fed_pieces r xs ys = ap (λ (k : List ℕ). let q : Reading = record { kept = k; offset = r.offset } in q) (pieces r.kept xs ys).0

-- ---- up to the end of a message

pub taken_less : (kept piece : List ℕ) → first_message (kept ++ piece) ≡ Less → taken kept piece ≡ length piece
taken_less kept [] e = refl
taken_less kept (x ∷ xs) e =
    let l = less_front kept (x ∷ xs) e in
    let t = taken_more kept x xs l in
    let on = taken_less (kept ++ x ∷ []) xs (ap first_message (append_assoc kept (x ∷ []) xs) ∙ e) in
    omega (arith, t, on)

-- the message's last byte is taken, and none behind it
pub record EndsWhole (kept piece m rest : List ℕ) : Type 0 where
  pub count : taken kept piece + length rest ≡ length piece
  pub held : first_message (kept_after kept piece) ≡ Whole m []

pub taken_whole : (kept piece m rest : List ℕ) → first_message kept ≡ Less → first_message (kept ++ piece) ≡ Whole m rest → EndsWhole kept piece m rest
taken_whole kept [] m rest l e = absurd (let n = ap first_message (append-nil kept) in cc)
taken_whole kept (x ∷ xs) m rest l e =
    let t = kept ++ x ∷ [] in
    let j : first_message (t ++ xs) ≡ Whole m rest = ap first_message (append_assoc kept (x ∷ []) xs) ∙ e in
    let one = taken_more kept x xs l in
    let a = after_more kept x xs l in
    elim (seen_of t) [
      | short s f ↦ let on = taken_whole t xs m rest f j in record { count = omega (arith, one, on.count); held = ap first_message a ∙ on.held }
      | long s f ↦
          let w = whole_stays t _ _ xs f in
          let z = whole_at_last kept _ _ x l f in
          let none = taken_none t xs (ap is_less f) in
          let b = after_none t xs (ap is_less f) in
          let r : rest ≡ xs = let q = ap (λ p. p ++ xs) z in cc in
          let n = ap length r in
          record { count = omega (arith, one, none, n); held = ap first_message (a ∙ b) ∙ (let q = ap (λ p. p ++ xs) z in cc) }
      | bad r s f ↦ absurd (let w = bad_stays t xs r f in cc)
    ]

pub taken_bad : (kept piece : List ℕ) (r : MessageReason) → first_message kept ≡ Less → first_message (kept ++ piece) ≡ Bad r → first_message (kept_after kept piece) ≡ Bad r
taken_bad kept [] r l e = absurd (let n = ap first_message (append-nil kept) in cc)
taken_bad kept (x ∷ xs) r l e =
    let t = kept ++ x ∷ [] in
    let j : first_message (t ++ xs) ≡ Bad r = ap first_message (append_assoc kept (x ∷ []) xs) ∙ e in
    let a = after_more kept x xs l in
    elim (seen_of t) [
      | short s f ↦ ap first_message a ∙ taken_bad t xs r f j
      | long s f ↦ absurd (let w = whole_stays t _ _ xs f in cc)
      | bad q s f ↦
          let w = bad_stays t xs q f in
          let b = after_none t xs (ap is_less f) in
          ap first_message (a ∙ b) ∙ (cc)
    ]

pub none_whole : (r : Reading) (piece m rest : List ℕ) → first_message r.kept ≡ Whole m rest → (taken r.kept piece ≡ 0) × (fed r piece ≡ r)
none_whole r piece m rest e = (taken_none r.kept piece (ap is_less e), fed_stays r piece (ap is_less e))

pub none_bad : (r : Reading) (piece : List ℕ) (fault : MessageFault) → fault_in r ≡ Some fault → (taken r.kept piece ≡ 0) × (fed r piece ≡ r)
none_bad r piece fault e = elim (seen_of r.kept) [
  | short s f ↦ absurd (let z = ap (λ q. fault_by q r.offset) f in cc)
  | long s f ↦ absurd (let z = ap (λ q. fault_by q r.offset) f in cc)
  | bad q s f ↦ (taken_none r.kept piece (ap is_less f), fed_stays r piece (ap is_less f))
]

-- ---- what is held

held_after : (kept piece : List ℕ) → first_message kept ≡ Less → IsHeld (kept_after kept piece)
held_after kept [] e = inl (ap first_message (append-nil kept) ∙ e)
held_after kept (x ∷ xs) e =
    let t = kept ++ x ∷ [] in
    let a = after_more kept x xs e in
    subst IsHeld (sym a) (elim (seen_of t) [
      | short s f ↦ held_after t xs f
      | long s f ↦ subst IsHeld (sym (after_none t xs (ap is_less f))) (inr (kept, x, refl, e))
      | bad r s f ↦ subst IsHeld (sym (after_none t xs (ap is_less f))) (inr (kept, x, refl, e))
    ])

held_fed : (kept piece : List ℕ) → IsHeld kept → IsHeld (kept_after kept piece)
held_fed kept piece h = elim (seen_of kept) [
  | short s f ↦ held_after kept piece f
  | long s f ↦ subst IsHeld (sym (after_none kept piece (ap is_less f))) h
  | bad r s f ↦ subst IsHeld (sym (after_none kept piece (ap is_less f))) h
]

alone_of : (kept m rest : List ℕ) → IsHeld kept → first_message kept ≡ Whole m rest → rest ≡ []
alone_of kept m rest h e = elim h [
  | inl l ↦ absurd (cc)
  | inr p ↦ whole_at_last p.0 m rest p.1 p.3 (ap first_message (sym p.2) ∙ e)
]

-- ---- the bytes that were taken

spells_more : (bytes rest more : List ℕ) (ms : List (List ℕ)) → Spells bytes ms rest → Spells (bytes ++ more) ms (rest ++ more)
spells_more bytes rest more [] s = ap (λ t. t ++ more) s
spells_more bytes rest more (m ∷ ms) s = (s.0, s.1 ++ more, ap (λ t. t ++ more) s.2 ∙ append_assoc s.0 s.1 more, s.3, spells_more s.1 rest more ms s.4)

spells_popped : (bytes kept m rest : List ℕ) (ms : List (List ℕ)) → Spells bytes ms kept → first_message kept ≡ Whole m rest → Spells bytes (ms ++ m ∷ []) rest
spells_popped bytes kept m rest [] s e = let a = spelling_of_whole kept m rest e in (a.front, rest, s ∙ a.joined, a.spells, refl)
spells_popped bytes kept m rest (n ∷ ms) s e = (s.0, s.1, s.2, s.3, spells_popped s.1 kept m rest ms s.4 e)

spells_total : (bytes rest : List ℕ) (ms : List (List ℕ)) → Spells bytes ms rest → length rest ≤ length bytes
spells_total bytes rest [] s = omega (arith, ap length s)
spells_total bytes rest (m ∷ ms) s = omega (arith, ap length s.2, length-append s.0 s.1, spells_total s.1 rest ms s.4)

pub one_reading : (bytes rest other : List ℕ) (ms ns : List (List ℕ)) → AreMessages bytes ms rest → AreMessages bytes ns other → (ms ≡ ns) × (rest ≡ other)
one_reading bytes rest other [] [] a b = (refl, sym a.0 ∙ b.0)
one_reading bytes rest other [] (n ∷ ns) a b = absurd (
    let l = ap first_message a.0 ∙ partial_less rest a.1 in
    let w = ap first_message b.0.2 ∙ whole_of_spelling n b.0.0 b.0.1 b.0.3 in
    cc)
one_reading bytes rest other (m ∷ ms) [] a b = absurd (
    let l = ap first_message b.0 ∙ partial_less other b.1 in
    let w = ap first_message a.0.2 ∙ whole_of_spelling m a.0.0 a.0.1 a.0.3 in
    cc)
one_reading bytes rest other (m ∷ ms) (n ∷ ns) a b =
    let v = ap first_message a.0.2 ∙ whole_of_spelling m a.0.0 a.0.1 a.0.3 in
    let w = ap first_message b.0.2 ∙ whole_of_spelling n b.0.0 b.0.1 b.0.3 in
    let first : m ≡ n = cc in
    let more : b.0.1 ≡ a.0.1 = cc in
    let on = one_reading a.0.1 rest other ms ns (a.0.4, a.1) (subst (λ t. Spells t ns other) more b.0.4, b.1) in
    (ap (λ x. x ∷ ms) first ∙ ap (λ xs. n ∷ xs) on.0, on.1)

-- ---- all calls

pub begins_course : HasCourse begins
begins_course =
    let e : first_message [] ≡ Less = first_short [] nothing_short in
    record { spelled = refl; held = inl e; alone = λ m rest w. absurd (cc); offset = refl }

feeds_course : (c : Course) (piece : List ℕ) → HasCourse c → HasCourse (after_act c (Feeds piece))
feeds_course c piece h =
    let z = take (taken c.reading.kept piece) piece in
    let held = held_fed c.reading.kept piece h.held in
    record {
      spelled = spells_more c.taken c.reading.kept z c.popped h.spelled;
      held = held;
      alone = λ m rest. alone_of (kept_after c.reading.kept piece) m rest held;
      offset = h.offset ∙ ap (count_up 0) (omega (arith, length-append c.taken z, length-append c.reading.kept z));
    }

-- the same course, with its parts found equal
same_course : (t : List ℕ) (p q : List (List ℕ)) (r s : Reading) → p ≡ q → r ≡ s →
    HasCourse (record { taken = t; popped = p; reading = r }) → HasCourse (record { taken = t; popped = q; reading = s })
same_course t p q r s e f h =
    subst (λ (z : Reading). HasCourse (record { taken = t; popped = q; reading = z })) f (subst (λ (z : List (List ℕ)). HasCourse (record { taken = t; popped = z; reading = r })) e h)

-- nothing is held whole
pops_none : (c : Course) → message_in (first_message c.reading.kept) ≡ None → popped c.reading ≡ c.reading → HasCourse c → HasCourse (after_act c Pops)
pops_none c e p h =
    let q : c.popped ≡ c.popped ++ listed (message_in (first_message c.reading.kept)) = sym (ap (λ o. c.popped ++ listed o) e ∙ append-nil c.popped) in
    same_course c.taken c.popped (c.popped ++ listed (message_in (first_message c.reading.kept))) c.reading (popped c.reading) q (sym p) h

-- a message is popped
pops_whole : (c : Course) (m rest : List ℕ) → first_message c.reading.kept ≡ Whole m rest → HasCourse c → HasCourse (after_act c Pops)
pops_whole c m rest e h =
    let kept = c.reading.kept in
    let z = h.alone m rest e in
    let n = ap length z in
    let less : first_message rest ≡ Less = ap first_message z ∙ first_short [] nothing_short in
    let new : Reading = record { kept = rest; offset = count_up c.reading.offset (length kept - length rest) } in
    let total = spells_total c.taken kept c.popped h.spelled in
    same_course c.taken (c.popped ++ m ∷ []) (c.popped ++ listed (message_in (first_message kept))) new (popped c.reading)
    (ap (λ o. c.popped ++ listed o) (sym (ap message_in e))) (sym (ap (λ q. popped_by q c.reading) e))
    (record {
      spelled = spells_popped c.taken kept m rest c.popped h.spelled e;
      held = inl less;
      alone = λ k r w. absurd (cc);
      offset = omega (arith, h.offset, total, n);
    })

pops_course : (c : Course) → HasCourse c → HasCourse (after_act c Pops)
pops_course c h = elim (seen_of c.reading.kept) [
  | short s f ↦ pops_none c (ap message_in f) (ap (λ q. popped_by q c.reading) f) h
  | long s f ↦ pops_whole c _ _ f h
  | bad r s f ↦ pops_none c (ap message_in f) (ap (λ q. popped_by q c.reading) f) h
]

one_act : (c : Course) (a : Act) → HasCourse c → HasCourse (after_act c a)
one_act c (Feeds piece) h = feeds_course c piece h
one_act c Pops h = pops_course c h

pub all_acts : (c : Course) (acts : List Act) → HasCourse c → HasCourse (after_acts_from c acts)
all_acts c [] h = h
all_acts c (a ∷ acts) h = all_acts (after_act c a) acts (one_act c a h)
