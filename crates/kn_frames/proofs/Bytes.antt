-- What more bytes do to a reader that is in its frames.
use Rattle.std.proofs.Common.{◌≡◌, ℕ, ◌+◌, ◌<◌, ◌≤◌, true, false, List, [], ◌∷◌, ◌++◌, length, drop, nat_le, nat_eq, arith, refl, sym, ap, ◌∙◌, subst, append_assoc, length-append, inl, inr}
use Rattle.std.proofs.lemmas.List.{append-nil}
use Rattle.std.proofs.lemmas.Bool.{cases_lt, le-ltb, lt-ltb, le-leb, eq-eqb, ne_eqb, and_right, and_from}
use Rattle.kn_frames.specs.declared.frame.Frame.{Frame}
use Rattle.kn_frames.specs.declared.fault.FrameReason.TheVariants.{TooLong}
use Rattle.kn_frames.specs.declared.fault.FrameFault.{FrameFault}
use Rattle.kn_frames.specs.declared.fault.Phase.TheVariants.{Failed}
use Rattle.kn_frames.specs.Frames.{length_of, frame_of}
use Rattle.kn_frames.specs.Readers.{Reading, in_frames, failed, is_too_long, is_whole, count_up, after_byte, after_bytes, frame_at, frames_in}

-- the length only grows with the bytes of a head that come
pub length_of-append-le : (p q : List ℕ) → length_of p ≤ length_of (p ++ q)
unfolding length_of
length_of-append-le [] q = omega arith
length_of-append-le (a ∷ []) q = omega arith
length_of-append-le (a ∷ b ∷ []) q = omega arith
length_of-append-le (a ∷ b ∷ c ∷ p) q = omega arith

-- three bytes say it
pub length_of-append : (p q : List ℕ) → 3 ≤ length p → length_of (p ++ q) ≡ length_of p
unfolding length_of
length_of-append [] q h = absurd (omega arith)
length_of-append (a ∷ []) q h = absurd (omega arith)
length_of-append (a ∷ b ∷ []) q h = absurd (omega arith)
length_of-append (a ∷ b ∷ c ∷ p) q h = refl

-- the bytes are less than a whole frame, and can become one
pub record IsShort (t : List ℕ) : Type 0 where
  pub small : length_of t ≤ 16384
  pub short : length t < 9 + length_of t

-- the bytes are a whole frame
pub record IsWholeText (t : List ℕ) : Type 0 where
  pub small : length_of t ≤ 16384
  pub len : length t ≡ 9 + length_of t

pub short_front : (p q : List ℕ) → IsShort (p ++ q) → IsShort p
short_front p q s = elim (cases_lt (length p) 3) [
  | inl h ↦ record { small = omega (arith, length_of-append-le p q, s.small); short = omega arith }
  | inr h ↦ record {
    small = omega (arith, length_of-append-le p q, s.small);
    short = omega (arith, length_of-append p q h, length-append p q, s.short);
  }
]

pub whole_front : (p q : List ℕ) → 0 < length q → IsWholeText (p ++ q) → IsShort p
whole_front p q more w = elim (cases_lt (length p) 3) [
  | inl h ↦ record { small = omega (arith, length_of-append-le p q, w.small); short = omega arith }
  | inr h ↦ record {
    small = omega (arith, length_of-append-le p q, w.small);
    short = omega (arith, length_of-append p q h, length-append p q, w.len);
  }
]

pub not_too_long : (t : List ℕ) → length_of t ≤ 16384 → is_too_long t ≡ false
not_too_long t h = le-ltb 16384 (length_of t) h

pub not_whole : (t : List ℕ) → length t < 9 + length_of t → is_whole t ≡ false
not_whole t h = and_right (nat_le 9 (length t)) (nat_eq (length t) (9 + length_of t)) (ne_eqb (length t) (9 + length_of t) (λ e. omega (arith, h, e)))

pub whole : (t : List ℕ) → length t ≡ 9 + length_of t → is_whole t ≡ true
whole t h = and_from (nat_le 9 (length t)) (nat_eq (length t) (9 + length_of t)) (le-leb 9 (length t) (omega arith)) (eq-eqb (length t) (9 + length_of t) h)

-- bytes lead from one reading to another, and make these frames whole
pub record Leads (r : Reading) (bytes : List ℕ) (s : Reading) (fs : List Frame) : Type 0 where
  pub after : after_bytes r bytes ≡ s
  pub frames : frames_in r bytes ≡ fs

pub step_short : (rest : List ℕ) (x o : ℕ) → IsShort (rest ++ x ∷ []) → (after_byte (in_frames rest o) x ≡ in_frames (rest ++ x ∷ []) o) × (frame_at (in_frames rest o) x ≡ [])
unfolding after_byte frame_at
step_short rest x o s =
    let t = rest ++ x ∷ [] in
    let e1 : is_too_long t ≡ false = not_too_long t s.small in
    let e2 : is_whole t ≡ false = not_whole t s.short in
    (rw (e1, e2), rw (e1, e2))

pub step_whole : (rest : List ℕ) (x o : ℕ) → IsWholeText (rest ++ x ∷ []) →
    (after_byte (in_frames rest o) x ≡ in_frames [] (count_up o (length (rest ++ x ∷ []))))
    × (frame_at (in_frames rest o) x ≡ frame_of (rest ++ x ∷ []) (drop 9 (rest ++ x ∷ [])) ∷ [])
unfolding after_byte frame_at
step_whole rest x o w =
    let t = rest ++ x ∷ [] in
    let e1 : is_too_long t ≡ false = not_too_long t w.small in
    let e2 : is_whole t ≡ true = whole t w.len in
    (rw (e1, e2), rw (e1, e2))

pub step_long : (rest : List ℕ) (x o : ℕ) → 16384 < length_of (rest ++ x ∷ []) →
    (after_byte (in_frames rest o) x ≡ failed (record { offset = o; reason = TooLong }) o) × (frame_at (in_frames rest o) x ≡ [])
unfolding after_byte frame_at
step_long rest x o h =
    let e : is_too_long (rest ++ x ∷ []) ≡ true = lt-ltb 16384 (length_of (rest ++ x ∷ [])) h in
    (rw e, rw e)

pub leads_more : (r s : Reading) (x : ℕ) (xs : List ℕ) (gs fs : List Frame) (end : Reading) → after_byte r x ≡ s → frame_at r x ≡ gs → Leads s xs end fs → Leads r (x ∷ xs) end (gs ++ fs)
leads_more r s x xs gs fs end e f l = record {
  after = ap (λ q. after_bytes q xs) e ∙ l.after;
  frames = ap (λ g. g ++ frames_in (after_byte r x) xs) f ∙ ap (λ q. gs ++ frames_in q xs) e ∙ ap (λ g. gs ++ g) l.frames;
}

-- bytes one after another
pub after_bytes-append : (r : Reading) (xs ys : List ℕ) → after_bytes r (xs ++ ys) ≡ after_bytes (after_bytes r xs) ys
after_bytes-append r [] ys = refl
after_bytes-append r (x ∷ xs) ys = after_bytes-append (after_byte r x) xs ys

pub frames_in-append : (r : Reading) (xs ys : List ℕ) → frames_in r (xs ++ ys) ≡ frames_in r xs ++ frames_in (after_bytes r xs) ys
frames_in-append r [] ys = refl
frames_in-append r (x ∷ xs) ys =
    ap (λ fs. frame_at r x ++ fs) (frames_in-append (after_byte r x) xs ys) ∙ sym (append_assoc (frame_at r x) (frames_in (after_byte r x) xs) (frames_in (after_bytes (after_byte r x) xs) ys))

-- what holds of where the bytes lead
pub by_leads : (P : Reading → List Frame → Type 0) (r : Reading) (bytes : List ℕ) (s : Reading) (fs : List Frame) → Leads r bytes s fs → P s fs → P (after_bytes r bytes) (frames_in r bytes)
by_leads P r bytes s fs l h = subst (λ q. P q (frames_in r bytes)) (sym l.after) (subst (λ g. P s g) (sym l.frames) h)

-- the first byte leads on
pub by_first : (r s : Reading) (x : ℕ) (xs : List ℕ) (gs : List Frame) → (after_byte r x ≡ s) × (frame_at r x ≡ gs) → Leads r (x ∷ xs) (after_bytes s xs) (gs ++ frames_in s xs)
by_first r s x xs gs one = leads_more r s x xs gs (frames_in s xs) (after_bytes s xs) one.0 one.1 (record { after = refl; frames = refl })

pub leads_on : (r s t : Reading) (xs ys : List ℕ) (fs gs : List Frame) → Leads r xs s fs → Leads s ys t gs → Leads r (xs ++ ys) t (fs ++ gs)
leads_on r s t xs ys fs gs l m = record {
  after = after_bytes-append r xs ys ∙ ap (λ q. after_bytes q ys) l.after ∙ m.after;
  frames = frames_in-append r xs ys ∙ ap (λ g. g ++ frames_in (after_bytes r xs) ys) l.frames ∙ ap (λ q. fs ++ frames_in q ys) l.after ∙ ap (λ g. fs ++ g) m.frames;
}

-- after bytes that leave a frame partial
pub short_on : (rest piece : List ℕ) (o : ℕ) → IsShort (rest ++ piece) → Leads (in_frames rest o) piece (in_frames (rest ++ piece) o) []
short_on rest [] o s = record { after = ap (λ t. in_frames t o) (sym (append-nil rest)); frames = refl }
short_on rest (x ∷ piece) o s =
    let e : (rest ++ x ∷ []) ++ piece ≡ rest ++ x ∷ piece = append_assoc rest (x ∷ []) piece in
    let t : IsShort ((rest ++ x ∷ []) ++ piece) = subst IsShort (sym e) s in
    let one = step_short rest x o (short_front (rest ++ x ∷ []) piece t) in
    let on : Leads (in_frames (rest ++ x ∷ []) o) piece (in_frames (rest ++ x ∷ piece) o) [] =
    subst (λ u. Leads (in_frames (rest ++ x ∷ []) o) piece (in_frames u o) []) e (short_on (rest ++ x ∷ []) piece o t) in
    leads_more _ _ x piece [] [] _ one.0 one.1 on

-- after bytes that make a frame whole
pub whole_on : (rest : List ℕ) (x : ℕ) (piece : List ℕ) (o : ℕ) → IsWholeText (rest ++ x ∷ piece) →
    Leads (in_frames rest o) (x ∷ piece) (in_frames [] (count_up o (length (rest ++ x ∷ piece)))) (frame_of (rest ++ x ∷ piece) (drop 9 (rest ++ x ∷ piece)) ∷ [])
whole_on rest x [] o w = let one = step_whole rest x o w in leads_more _ _ x [] _ [] _ one.0 one.1 (record { after = refl; frames = refl })
whole_on rest x (y ∷ piece) o w =
    let e : (rest ++ x ∷ []) ++ y ∷ piece ≡ rest ++ x ∷ y ∷ piece = append_assoc rest (x ∷ []) (y ∷ piece) in
    let t : IsWholeText ((rest ++ x ∷ []) ++ y ∷ piece) = subst IsWholeText (sym e) w in
    let one = step_short rest x o (whole_front (rest ++ x ∷ []) (y ∷ piece) (omega arith) t) in
    let on : Leads (in_frames (rest ++ x ∷ []) o) (y ∷ piece) (in_frames [] (count_up o (length (rest ++ x ∷ y ∷ piece)))) (frame_of (rest ++ x ∷ y ∷ piece) (drop 9 (rest ++ x ∷ y ∷ piece)) ∷ []) =
    subst (λ u. Leads (in_frames (rest ++ x ∷ []) o) (y ∷ piece) (in_frames [] (count_up o (length u))) (frame_of u (drop 9 u) ∷ [])) e (whole_on (rest ++ x ∷ []) y piece o t) in
    leads_more _ _ x (y ∷ piece) [] _ _ one.0 one.1 on

-- a reader that failed stays as it is
pub failed_on : (f : FrameFault) (rest : List ℕ) (o : ℕ) (bytes : List ℕ) →
    Leads (record { phase = Failed f; rest = rest; offset = o }) bytes (record { phase = Failed f; rest = rest; offset = o }) []
unfolding after_byte frame_at
failed_on f rest o [] = record { after = refl; frames = refl }
failed_on f rest o (x ∷ bytes) = record { after = (failed_on f rest o bytes).after; frames = (failed_on f rest o bytes).frames }

pub whole_part : (rest piece : List ℕ) (o : ℕ) → 0 < length piece → IsWholeText (rest ++ piece) →
    Leads (in_frames rest o) piece (in_frames [] (count_up o (length (rest ++ piece)))) (frame_of (rest ++ piece) (drop 9 (rest ++ piece)) ∷ [])
whole_part rest [] o h w = absurd (omega arith)
whole_part rest (x ∷ piece) o h w = whole_on rest x piece o w
