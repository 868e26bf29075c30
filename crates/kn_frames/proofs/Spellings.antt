-- What a reader cuts from the bytes is what they spell.
use Rattle.std.proofs.Common.{◌≡◌, ℕ, zero, suc, ◌+◌, ◌-◌, ◌^◌, ◌<◌, ◌≤◌, List, [], ◌∷◌, ◌++◌, length, drop, get_or, replicate, arith, refl, sym, ap, ◌∙◌, subst, append_assoc, length-append, inl, inr, Some, None}
use Rattle.std.proofs.lemmas.List.{append-nil, length-replicate, length-drop}
use Rattle.std.proofs.lemmas.Bool.{cases_lt}
use Rattle.kn_frames.specs.declared.frame.Frame.{Frame}
use Rattle.kn_frames.specs.declared.fault.FrameReason.TheVariants.{TooLong}
use Rattle.kn_frames.specs.declared.fault.FrameFault.{FrameFault}
use Rattle.kn_frames.specs.Frames.{length_of, frame_of, IsSpelling, IsPartialFrame, Spells, BeginsNoFrame, spelled_length}
use Rattle.kn_frames.specs.Readers.{Reading, in_frames, failed, count_up, after_bytes, frames_in, fault_in}
use Rattle.kn_frames.proofs.Bytes.{IsShort, IsWholeText, whole_front, length_of-append-le, length_of-append, Leads, step_short, step_whole, step_long, short_on, whole_on, failed_on, by_leads, by_first, leads_more, leads_on}

get_or-zeros : (k i : ℕ) → get_or {A = ℕ} (replicate k 0) i 0 ≡ 0
get_or-zeros zero i = refl
get_or-zeros (suc k) zero = refl
get_or-zeros (suc k) (suc i) = get_or-zeros k i

-- bytes that did not come yet count as 0
length_of-zeros : (p : List ℕ) (k : ℕ) → length_of (p ++ replicate k 0) ≡ length_of p
unfolding length_of
length_of-zeros [] k = rw (get_or-zeros k 0, get_or-zeros k 1, get_or-zeros k 2)
length_of-zeros (a ∷ []) k = rw (get_or-zeros k 0, get_or-zeros k 1)
length_of-zeros (a ∷ b ∷ []) k = rw (get_or-zeros k 0)
length_of-zeros (a ∷ b ∷ c ∷ p) k = refl

pub partial_from_short : (rest : List ℕ) → IsShort rest → IsPartialFrame rest
partial_from_short rest s =
    let k = 9 + length_of rest - length rest in
    let more = replicate k 0 in
    let e : length_of (rest ++ more) ≡ length_of rest = length_of-zeros rest k in
    let l : length more ≡ k = length-replicate k 0 in (
      frame_of (rest ++ more) (drop 9 (rest ++ more)),
      more,
      record { len = omega (arith, e, l, s.short, length-append rest more); small = omega (arith, e, s.small); frame = refl },
      omega (arith, l, s.short),
    )

pub short_from_partial : (rest : List ℕ) → IsPartialFrame rest → IsShort rest
short_from_partial rest p = whole_front rest p.1 p.3 (record { small = p.2.small; len = p.2.len })

pub nothing_short : IsShort []
unfolding length_of
nothing_short = record { small = omega arith; short = omega arith }

-- what bytes become with one more
data Next (t : List ℕ) : Type 0 where
  short : IsShort t → Next t
  whole : IsWholeText t → Next t
  long : 16384 < length_of t → Next t

next : (rest : List ℕ) (x : ℕ) → IsShort rest → Next (rest ++ x ∷ [])
next rest x s =
    let t = rest ++ x ∷ [] in
    let l : length t ≡ length rest + 1 = length-append rest (x ∷ []) in
    elim (cases_lt 16384 (length_of t)) [
      | inl h ↦ long h
      | inr h ↦ elim (cases_lt (length t) (9 + length_of t)) [
        | inl g ↦ short (record { small = h; short = g })
        | inr g ↦ whole (record { small = h; len = omega (arith, g, l, s.short, length_of-append-le rest (x ∷ [])) })
      ]
    ]

-- a head that says too much begins no frame
long_begins_none : (t : List ℕ) → 16384 < length_of t → BeginsNoFrame t
long_begins_none t h f text after more s e =
    let a : length_of (text ++ after) ≡ length_of text = length_of-append text after (omega (arith, s.len)) in
    let b : length_of (text ++ after) ≡ length_of (t ++ more) = ap length_of e in
    let c : length_of t ≤ length_of (t ++ more) = length_of-append-le t more in
    omega (arith, a, b, c, h, s.small)

-- the same bytes after a further one
longer_begins_none : (t more : List ℕ) → BeginsNoFrame t → BeginsNoFrame (t ++ more)
longer_begins_none t more b f text after rest s e = b f text after (more ++ rest) s (e ∙ append_assoc t more rest)

-- the bytes, seen by what a reader that has not failed made of them
abbrev pub Cuts : List ℕ → Reading → List Frame → Type 0
Cuts bytes r fs = fault_in r.phase ≡ None → Spells bytes fs r.rest

-- what is cut is spelled so
pub sound : (rest bytes : List ℕ) (o : ℕ) → IsShort rest → Cuts (rest ++ bytes) (after_bytes (in_frames rest o) bytes) (frames_in (in_frames rest o) bytes)
sound rest [] o s = λ e. (append-nil rest, partial_from_short rest s)
sound rest (x ∷ xs) o s = elim (next rest x s) [
  | short n ↦ by_leads (Cuts (rest ++ x ∷ xs)) (in_frames rest o) (x ∷ xs) _ _ (by_first (in_frames rest o) (in_frames (rest ++ x ∷ []) o) x xs [] (step_short rest x o n))
      (subst (λ t. Cuts t (after_bytes (in_frames (rest ++ x ∷ []) o) xs) (frames_in (in_frames (rest ++ x ∷ []) o) xs)) (append_assoc rest (x ∷ []) xs) (sound (rest ++ x ∷ []) xs o n))
  | whole n ↦
      let o' = count_up o (length (rest ++ x ∷ [])) in
      by_leads (Cuts (rest ++ x ∷ xs)) (in_frames rest o) (x ∷ xs) _ _ (by_first (in_frames rest o) (in_frames [] o') x xs _ (step_whole rest x o n))
      (λ e. (rest ++ x ∷ [], xs, sym (append_assoc rest (x ∷ []) xs), record { len = n.len; small = n.small; frame = refl }, sound [] xs o' nothing_short e))
  | long n ↦
      let f : FrameFault = record { offset = o; reason = TooLong } in
      by_leads (Cuts (rest ++ x ∷ xs)) (in_frames rest o) (x ∷ xs) _ _ (by_first (in_frames rest o) (failed f o) x xs [] (step_long rest x o n))
      (λ e. let e' : Some f ≡ None = ap (λ q. fault_in q.phase) (sym (failed_on f [] o xs).after) ∙ e in absurd (cc))
]

-- where a reader fails, a head says too much
pub record Overlong (bytes : List ℕ) (fs : List Frame) (o : ℕ) (fault : FrameFault) : Type 0 where
  pub front : List ℕ
  pub more : List ℕ
  pub joined : bytes ≡ front ++ more
  pub spelled : Spells front fs []
  pub begins : BeginsNoFrame more
  pub place : fault ≡ record { offset = count_up o (length front); reason = TooLong }

-- the bytes, seen by what a reader that failed made of them
abbrev pub Fails : List ℕ → ℕ → FrameFault → Reading → List Frame → Type 0
Fails bytes o fault r fs = fault_in r.phase ≡ Some fault → Overlong bytes fs o fault

pub faults : (rest bytes : List ℕ) (o : ℕ) (fault : FrameFault) → o < 2 ^ 64 → IsShort rest →
    Fails (rest ++ bytes) o fault (after_bytes (in_frames rest o) bytes) (frames_in (in_frames rest o) bytes)
faults rest [] o fault low s = λ e. absurd (cc)
faults rest (x ∷ xs) o fault low s = elim (next rest x s) [
  | short n ↦ by_leads (Fails (rest ++ x ∷ xs) o fault) (in_frames rest o) (x ∷ xs) _ _ (by_first (in_frames rest o) (in_frames (rest ++ x ∷ []) o) x xs [] (step_short rest x o n))
      (subst (λ t. Fails t o fault (after_bytes (in_frames (rest ++ x ∷ []) o) xs) (frames_in (in_frames (rest ++ x ∷ []) o) xs)) (append_assoc rest (x ∷ []) xs) (faults (rest ++ x ∷ []) xs o fault low n))
  | whole n ↦
      let t = rest ++ x ∷ [] in
      let o' = count_up o (length t) in
      by_leads (Fails (rest ++ x ∷ xs) o fault) (in_frames rest o) (x ∷ xs) _ _ (by_first (in_frames rest o) (in_frames [] o') x xs _ (step_whole rest x o n))
      (λ e. let on = faults [] xs o' fault (omega arith) nothing_short e in record {
        front = t ++ on.front;
        more = on.more;
        joined = sym (append_assoc rest (x ∷ []) xs) ∙ ap (λ u. t ++ u) on.joined ∙ sym (append_assoc t on.front on.more);
        spelled = (t, on.front, refl, record { len = n.len; small = n.small; frame = refl }, on.spelled);
        begins = on.begins;
        place = on.place ∙ ap (λ (k : ℕ). record { offset = k; reason = TooLong }) (omega (arith, length-append t on.front));
      })
  | long n ↦
      let f : FrameFault = record { offset = o; reason = TooLong } in
      let one = step_long rest x o n in
      by_leads (Fails (rest ++ x ∷ xs) o fault) (in_frames rest o) (x ∷ xs) (failed f o) [] (leads_more _ _ x xs [] [] _ one.0 one.1 (failed_on f [] o xs))
      (λ e. record {
        front = [];
        more = rest ++ x ∷ xs;
        joined = refl;
        spelled = (refl, partial_from_short [] nothing_short);
        begins = subst BeginsNoFrame (append_assoc rest (x ∷ []) xs) (longer_begins_none (rest ++ x ∷ []) xs (long_begins_none (rest ++ x ∷ []) n));
        place = let same : f ≡ fault = cc in sym same ∙ ap (λ (k : ℕ). record { offset = k; reason = TooLong }) (omega arith);
      })
]

pub spelling_length : (f : Frame) (text : List ℕ) → IsSpelling f text → length text ≡ 9 + length f.payload
spelling_length f text s = omega (arith, ap (λ (g : Frame). length g.payload) s.frame, length-drop 9 text, s.len)

-- the frames and the rest are all of the bytes
pub spelled_total : (fs : List Frame) (bytes rest : List ℕ) → Spells bytes fs rest → spelled_length fs + length rest ≡ length bytes
spelled_total [] bytes rest s = omega (arith, ap length s.0)
spelled_total (f ∷ fs) bytes rest s =
    let on = spelled_total fs s.1 rest s.4 in
    let first = spelling_length f s.0 s.3 in
    let joined = ap length s.2 ∙ length-append s.0 s.1 in
    omega (arith, on, first, joined)

-- a frame's spelling is cut into the frame
pub spelled_on : (f : Frame) (text : List ℕ) (o : ℕ) → IsSpelling f text → Leads (in_frames [] o) text (in_frames [] (count_up o (9 + length f.payload))) (f ∷ [])
spelled_on f [] o s = absurd (omega (arith, s.len))
spelled_on f (x ∷ xs) o s =
    let t = x ∷ xs in
    let l : length t ≡ 9 + length f.payload = spelling_length f t s in
    subst (λ g. Leads (in_frames [] o) t (in_frames [] (count_up o (9 + length f.payload))) (g ∷ [])) s.frame
    (subst (λ k. Leads (in_frames [] o) t (in_frames [] (count_up o k)) (frame_of t (drop 9 t) ∷ [])) l (whole_on [] x xs o (record { small = s.small; len = s.len })))

-- what is spelled is cut so
pub only : (fs : List Frame) (bytes rest : List ℕ) (o : ℕ) → o < 2 ^ 64 → Spells bytes fs rest → Leads (in_frames [] o) bytes (in_frames rest (count_up o (spelled_length fs))) fs
only [] bytes rest o low s =
    let on = short_on [] rest o (short_from_partial rest s.1) in
    let e : o ≡ count_up o 0 = omega arith in
    subst (λ b. Leads (in_frames [] o) b (in_frames rest (count_up o 0)) []) (sym s.0) (subst (λ k. Leads (in_frames [] o) rest (in_frames rest k) []) e on)
only (f ∷ fs) bytes rest o low s =
    let n = 9 + length f.payload in
    let e : count_up (count_up o n) (spelled_length fs) ≡ count_up o (n + spelled_length fs) = omega arith in
    let on = leads_on _ _ _ s.0 s.1 (f ∷ []) fs (spelled_on f s.0 o s.3) (only fs s.1 rest (count_up o n) (omega arith) s.4) in
    subst (λ b. Leads (in_frames [] o) b (in_frames rest (count_up o (n + spelled_length fs))) (f ∷ fs)) (sym s.2)
    (subst (λ k. Leads (in_frames [] o) (s.0 ++ s.1) (in_frames rest k) (f ∷ fs)) e on)

-- where the bytes go on as a frame in no way, the reader fails
pub fails_at : (rest bytes : List ℕ) (o : ℕ) → IsShort rest → BeginsNoFrame (rest ++ bytes) → Leads (in_frames rest o) bytes (failed (record { offset = o; reason = TooLong }) o) []
fails_at rest [] o s b =
    let p = partial_from_short rest s in
    absurd (b p.0 (rest ++ p.1) [] p.1 p.2 (append-nil (rest ++ p.1) ∙ ap (λ t. t ++ p.1) (sym (append-nil rest))))
fails_at rest (x ∷ xs) o s b =
    let t = rest ++ x ∷ [] in
    let e : t ++ xs ≡ rest ++ x ∷ xs = append_assoc rest (x ∷ []) xs in
    elim (next rest x s) [
      | short n ↦
          let one = step_short rest x o n in
          leads_more _ _ x xs [] [] _ one.0 one.1 (fails_at t xs o n (subst BeginsNoFrame (sym e) b))
      | whole n ↦ absurd (b (frame_of t (drop 9 t)) t xs [] (record { len = n.len; small = n.small; frame = refl }) (e ∙ sym (append-nil (rest ++ x ∷ xs))))
      | long n ↦
          let one = step_long rest x o n in
          leads_more _ _ x xs [] [] _ one.0 one.1 (failed_on (record { offset = o; reason = TooLong }) [] o xs)
    ]
