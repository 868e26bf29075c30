-- What a piece does that is as long as what a reader lacks, or shorter.
use Rattle.std.proofs.Common.{◌≡◌, ℕ, ◌+◌, ◌-◌, ◌<◌, ◌≤◌, ◌==◌, true, false, List, [], ◌∷◌, ◌++◌, length, slice_index, nat_le, nat_eq, arith, refl, sym, ap, ◌∙◌, subst, append_assoc, length-append, inl, inr, ◌⊎◌, Some, None}
use Rattle.std.proofs.lemmas.Bool.{cases_Bool, cases_lt, lt-ltb, le-ltb, eq-eqb, ne_eqb, lt-leb, and_left}
use Rattle.kn_frames.specs.declared.frame.Frame.{Frame}
use Rattle.kn_frames.specs.declared.fault.FrameReason.TheVariants.{Preface, TooLong}
use Rattle.kn_frames.specs.declared.fault.FrameFault.{FrameFault}
use Rattle.kn_frames.specs.declared.fault.Phase.{Phase}
use Rattle.kn_frames.specs.declared.fault.Phase.TheVariants.{InPreface, InFrames, Failed}
use Rattle.kn_frames.specs.Frames.{length_of, preface}
use Rattle.kn_frames.specs.Readers.{Reading, in_frames, in_preface, failed, is_too_long, is_whole, count_up, after_byte, after_bytes, frame_at, frames_in, fault_in}
use Rattle.kn_frames.specs.Missing.{missing_of_frame, missing_in, missing, Ended}
use Rattle.kn_frames.proofs.Bytes.{length_of-append, IsShort, IsWholeText, Leads, leads_more, by_leads, step_long, step_short, not_whole, failed_on, short_on, whole_part}

-- a byte with which nothing is whole goes on, or the head says too much
step_on : (rest : List ℕ) (x o : ℕ) → is_whole (rest ++ x ∷ []) ≡ false →
    (frame_at (in_frames rest o) x ≡ []) × ((after_byte (in_frames rest o) x ≡ in_frames (rest ++ x ∷ []) o)
    ⊎ (after_byte (in_frames rest o) x ≡ failed (record { offset = o; reason = TooLong }) o))
unfolding after_byte frame_at
step_on rest x o w = elim (cases_Bool (is_too_long (rest ++ x ∷ []))) [
  | inl h ↦ (rw h, inr (rw h))
  | inr h ↦ (rw (h, w), inl (rw (h, w)))
]

-- no frame comes, where none comes of what follows
on_with : (r : Reading) (x : ℕ) (xs : List ℕ) (s : Reading) → frame_at r x ≡ [] → after_byte r x ≡ s → frames_in s xs ≡ [] → frames_in r (x ∷ xs) ≡ []
on_with r x xs s none e on = ap (λ g. g ++ frames_in (after_byte r x) xs) none ∙ ap (λ q. frames_in q xs) e ∙ on

head_more : (rest : List ℕ) (x : ℕ) (xs : List ℕ) → length (rest ++ x ∷ []) + length xs ≡ length rest + length (x ∷ xs)
head_more rest x xs = omega (arith, length-append rest (x ∷ []))

unwhole_head : (t : List ℕ) → length t < 9 → is_whole t ≡ false
unwhole_head t h = and_left (nat_le 9 (length t)) (nat_eq (length t) (9 + length_of t)) (lt-leb 9 (length t) h)

-- bytes that end no head make no frame
none_in_head : (rest piece : List ℕ) (o : ℕ) → length rest + length piece < 9 → frames_in (in_frames rest o) piece ≡ []
none_in_head rest [] o h = refl
none_in_head rest (x ∷ piece) o h =
    let t = rest ++ x ∷ [] in
    let l : length t + length piece ≡ length rest + length (x ∷ piece) = head_more rest x piece in
    let one = step_on rest x o (unwhole_head t (omega (arith, l, h))) in
    elim one.1 [
      | inl e ↦ on_with (in_frames rest o) x piece (in_frames t o) one.0 e (none_in_head t piece o (omega (arith, l, h)))
      | inr e ↦ on_with (in_frames rest o) x piece _ one.0 e (failed_on (record { offset = o; reason = TooLong }) [] o piece).frames
    ]

none_in_body : (rest piece : List ℕ) (o : ℕ) → 9 ≤ length rest → length rest + length piece < 9 + length_of rest → frames_in (in_frames rest o) piece ≡ []
none_in_body rest [] o head h = refl
none_in_body rest (x ∷ piece) o head h =
    let t = rest ++ x ∷ [] in
    let l : length t + length piece ≡ length rest + length (x ∷ piece) = head_more rest x piece in
    let k : length t ≡ length rest + 1 = length-append rest (x ∷ []) in
    let n : length_of t ≡ length_of rest = length_of-append rest (x ∷ []) (omega (arith, head)) in
    let one = step_on rest x o (not_whole t (omega (arith, l, h, n))) in
    elim one.1 [
      | inl e ↦ on_with (in_frames rest o) x piece (in_frames t o) one.0 e (none_in_body t piece o (omega (arith, k, head)) (omega (arith, l, h, n)))
      | inr e ↦ on_with (in_frames rest o) x piece _ one.0 e (failed_on (record { offset = o; reason = TooLong }) [] o piece).frames
    ]

missing_head : (rest : List ℕ) → length rest < 9 → missing_of_frame rest ≡ 9 - length rest
missing_head rest h = rw (lt-ltb (length rest) 9 h)

pub missing_body : (rest : List ℕ) → 9 ≤ length rest → missing_of_frame rest ≡ 9 + length_of rest - length rest
missing_body rest h = rw (le-ltb (length rest) 9 h)

none_in_frame : (rest piece : List ℕ) (o : ℕ) → length piece < missing_of_frame rest → frames_in (in_frames rest o) piece ≡ []
none_in_frame rest piece o h = elim (cases_lt (length rest) 9) [
  | inl l ↦ none_in_head rest piece o (omega (arith, missing_head rest l, h))
  | inr l ↦ none_in_body rest piece o l (omega (arith, missing_body rest l, h))
]

-- a byte of the preface before its last
step_preface : (rest : List ℕ) (x o : ℕ) → length rest < 23 → (frame_at (in_preface rest o) x ≡ []) × ((after_byte (in_preface rest o) x ≡ in_preface (rest ++ x ∷ []) o)
    ⊎ (after_byte (in_preface rest o) x ≡ failed (record { offset = count_up o (length rest); reason = Preface }) o))
unfolding after_byte frame_at
step_preface rest x o h =
    let l : (length rest == 23) ≡ false = ne_eqb (length rest) 23 (λ e. omega (arith, h, e)) in
    elim (cases_Bool (x == slice_index preface (length rest))) [
      | inl e ↦ (refl, inl (rw (e, l)))
      | inr e ↦ (refl, inr (rw e))
    ]

-- its last byte
step_last : (rest : List ℕ) (x o : ℕ) → length rest ≡ 23 → (frame_at (in_preface rest o) x ≡ []) × ((after_byte (in_preface rest o) x ≡ in_frames [] (count_up o 24))
    ⊎ (after_byte (in_preface rest o) x ≡ failed (record { offset = count_up o (length rest); reason = Preface }) o))
unfolding after_byte frame_at
step_last rest x o h =
    let l : (length rest == 23) ≡ true = eq-eqb (length rest) 23 h in
    elim (cases_Bool (x == slice_index preface (length rest))) [
      | inl e ↦ (refl, inl (rw (e, l)))
      | inr e ↦ (refl, inr (rw e))
    ]

none_in_preface : (rest piece : List ℕ) (o : ℕ) → length rest + length piece < 24 → frames_in (in_preface rest o) piece ≡ []
none_in_preface rest [] o h = refl
none_in_preface rest (x ∷ piece) o h =
    let t = rest ++ x ∷ [] in
    let one = step_preface rest x o (omega (arith, h)) in
    elim one.1 [
      | inl e ↦ on_with (in_preface rest o) x piece (in_preface t o) one.0 e (none_in_preface t piece o (omega (arith, head_more rest x piece, h)))
      | inr e ↦ on_with (in_preface rest o) x piece _ one.0 e (failed_on (record { offset = count_up o (length rest); reason = Preface }) [] o piece).frames
    ]

fewer_in : (p : Phase) (rest piece : List ℕ) (o : ℕ) → length piece < missing_in p rest → frames_in (record { phase = p; rest = rest; offset = o }) piece ≡ []
fewer_in InPreface rest piece o h = none_in_preface rest piece o (omega (arith, h))
fewer_in InFrames rest piece o h = none_in_frame rest piece o h
fewer_in (Failed f) rest piece o h = (failed_on f rest o piece).frames

pub fewer_bytes : (r : Reading) (piece : List ℕ) → length piece < missing r → frames_in r piece ≡ []
unfolding missing
fewer_bytes r piece h = fewer_in r.phase r.rest piece r.offset h

-- ---- as many as are missing

-- a byte that fails leaves no way to go on
no_fault : (r : Reading) (x : ℕ) (xs : List ℕ) (f : FrameFault) (o : ℕ) → after_byte r x ≡ failed f o → fault_in (after_bytes r (x ∷ xs)).phase ≡ None → ⊥
no_fault r x xs f o e well =
    let a : after_bytes (after_byte r x) xs ≡ failed f o = ap (λ q. after_bytes q xs) e ∙ (failed_on f [] o xs).after in
    let b : fault_in (after_bytes (after_byte r x) xs).phase ≡ Some f = ap (λ q. fault_in q.phase) a in
    cc

well_on : (r s : Reading) (x : ℕ) (xs : List ℕ) → after_byte r x ≡ s → fault_in (after_bytes r (x ∷ xs)).phase ≡ None → fault_in (after_bytes s xs).phase ≡ None
well_on r s x xs e well = ap (λ q. fault_in (after_bytes q xs).phase) (sym e) ∙ well

preface_on : (rest piece : List ℕ) (o : ℕ) → 0 < length piece → length rest + length piece ≡ 24 → fault_in (after_bytes (in_preface rest o) piece).phase ≡ None →
    Leads (in_preface rest o) piece (in_frames [] (count_up o 24)) []
preface_on rest [] o some l well = absurd (omega (arith, some))
preface_on rest (x ∷ []) o some l well =
    let one = step_last rest x o (omega (arith, l)) in
    elim one.1 [
      | inl e ↦ leads_more _ _ x [] [] [] _ e one.0 (record { after = refl; frames = refl })
      | inr e ↦ absurd (no_fault (in_preface rest o) x [] _ o e well)
    ]
preface_on rest (x ∷ y ∷ piece) o some l well =
    let t = rest ++ x ∷ [] in
    let one = step_preface rest x o (omega (arith, l)) in
    elim one.1 [
      | inl e ↦ leads_more _ _ x (y ∷ piece) [] [] _ e one.0
          (preface_on t (y ∷ piece) o (omega arith) (omega (arith, head_more rest x (y ∷ piece), l)) (well_on (in_preface rest o) (in_preface t o) x (y ∷ piece) e well))
      | inr e ↦ absurd (no_fault (in_preface rest o) x (y ∷ piece) _ o e well)
    ]

-- a head that is whole without a fault says no more than is accepted
small_on : (rest : List ℕ) (x : ℕ) (piece : List ℕ) (o : ℕ) → fault_in (after_bytes (in_frames rest o) (x ∷ piece)).phase ≡ None → length_of (rest ++ x ∷ []) ≤ 16384
small_on rest x piece o well = elim (cases_lt 16384 (length_of (rest ++ x ∷ []))) [
  | inl h ↦ absurd (no_fault (in_frames rest o) x piece _ o (step_long rest x o h).0 well)
  | inr h ↦ h
]

small_head : (rest piece : List ℕ) (o : ℕ) → 0 < length piece → length rest + length piece ≡ 9 → fault_in (after_bytes (in_frames rest o) piece).phase ≡ None →
    length_of (rest ++ piece) ≤ 16384
small_head rest [] o some l well = absurd (omega (arith, some))
small_head rest (x ∷ []) o some l well = small_on rest x [] o well
small_head rest (x ∷ y ∷ piece) o some l well =
    let t = rest ++ x ∷ [] in
    let m : length t + length (y ∷ piece) ≡ length rest + length (x ∷ y ∷ piece) = head_more rest x (y ∷ piece) in
    let short : IsShort t = record { small = small_on rest x (y ∷ piece) o well; short = omega (arith, m, l) } in
    let on = small_head t (y ∷ piece) o (omega arith) (omega (arith, m, l)) (well_on (in_frames rest o) (in_frames t o) x (y ∷ piece) (step_short rest x o short).0 well) in
    subst (λ u. length_of u ≤ 16384) (append_assoc rest (x ∷ []) (y ∷ piece)) on

small_body : (rest piece : List ℕ) (o : ℕ) → 0 < length piece → fault_in (after_bytes (in_frames rest o) piece).phase ≡ None → 9 ≤ length rest → length_of rest ≤ 16384
small_body rest [] o some well h = absurd (omega (arith, some))
small_body rest (x ∷ piece) o some well h = omega (arith, small_on rest x piece o well, length_of-append rest (x ∷ []) (omega (arith, h)))

-- what holds of an end holds of what the bytes lead to
ended_by : (p : Phase) (t : List ℕ) (r : Reading) (piece : List ℕ) (s : Reading) (fs : List Frame) (o : ℕ) → Leads r piece s fs → Ended p t o s fs → Ended p t o (after_bytes r piece) (frames_in r piece)
ended_by p t r piece s fs o l h = by_leads (Ended p t o) r piece s fs l h

ended_whole : (rest piece : List ℕ) (o : ℕ) → 0 < length piece → IsWholeText (rest ++ piece) →
    Ended InFrames (rest ++ piece) o (after_bytes (in_frames rest o) piece) (frames_in (in_frames rest o) piece)
ended_whole rest piece o some w = ended_by InFrames (rest ++ piece) _ piece _ _ o (whole_part rest piece o some w) (inr (refl, refl))

ended_head : (rest piece : List ℕ) (o : ℕ) → 0 < length piece → length rest + length piece ≡ 9 → fault_in (after_bytes (in_frames rest o) piece).phase ≡ None →
    Ended InFrames (rest ++ piece) o (after_bytes (in_frames rest o) piece) (frames_in (in_frames rest o) piece)
ended_head rest piece o some l well =
    let t = rest ++ piece in
    let k : length t ≡ 9 = length-append rest piece ∙ l in
    let small : length_of t ≤ 16384 = small_head rest piece o some l well in
    elim (cases_lt 0 (length_of t)) [
      | inl h ↦ ended_by InFrames t _ piece _ _ o (short_on rest piece o (record { small = small; short = omega (arith, k, h) })) (inl (k, refl, refl))
      | inr h ↦ ended_whole rest piece o some (record { small = small; len = omega (arith, k, h) })
    ]

ended_body : (rest piece : List ℕ) (o : ℕ) → 0 < length piece → 9 ≤ length rest → length rest + length piece ≡ 9 + length_of rest → fault_in (after_bytes (in_frames rest o) piece).phase ≡ None →
    Ended InFrames (rest ++ piece) o (after_bytes (in_frames rest o) piece) (frames_in (in_frames rest o) piece)
ended_body rest piece o some head l well =
    let n : length_of (rest ++ piece) ≡ length_of rest = length_of-append rest piece (omega (arith, head)) in
    let small = small_body rest piece o some well head in
    ended_whole rest piece o some (record { small = omega (arith, n, small); len = omega (arith, length-append rest piece, l, n) })

as_many_in : (p : Phase) (rest piece : List ℕ) (o : ℕ) → 0 < length piece → length piece ≡ missing_in p rest →
    fault_in (after_bytes (record { phase = p; rest = rest; offset = o }) piece).phase ≡ None →
    Ended p (rest ++ piece) o (after_bytes (record { phase = p; rest = rest; offset = o }) piece) (frames_in (record { phase = p; rest = rest; offset = o }) piece)
as_many_in InPreface rest piece o some l well =
    ended_by InPreface (rest ++ piece) _ piece _ _ o (preface_on rest piece o some (omega (arith, some, l)) well) (refl, refl)
as_many_in InFrames rest piece o some l well = elim (cases_lt (length rest) 9) [
  | inl h ↦ ended_head rest piece o some (omega (arith, missing_head rest h, l, h)) well
  | inr h ↦ ended_body rest piece o some h (omega (arith, missing_body rest h, l, some)) well
]
as_many_in (Failed f) rest piece o some l well = (failed_on f rest o piece).frames

pub as_many_bytes : (r : Reading) (piece : List ℕ) → 0 < length piece → length piece ≡ missing r → fault_in (after_bytes r piece).phase ≡ None →
    Ended r.phase (r.rest ++ piece) r.offset (after_bytes r piece) (frames_in r piece)
unfolding missing
as_many_bytes r piece some l well = as_many_in r.phase r.rest piece r.offset some l well
