-- What a reader makes of a whole stream, with the preface before the frames or without.
use Rattle.std.proofs.Common.{◌≡◌, ◌≢◌, ℕ, ◌+◌, ◌-◌, ◌<◌, ◌==◌, Bool, true, false, List, [], ◌∷◌, ◌++◌, length, drop, get_or, slice_index, arith, refl, sym, ap, ◌∙◌, subst, append_assoc, length-append, inl, inr, Some, None}
use Rattle.std.proofs.lemmas.List.{append-nil, get_or_at}
use Rattle.std.proofs.lemmas.Bool.{cases_eq, eq-eqb, ne_eqb}
use Rattle.kn_frames.specs.declared.frame.Frame.{Frame}
use Rattle.kn_frames.specs.declared.fault.FrameReason.TheVariants.{Preface, TooLong}
use Rattle.kn_frames.specs.declared.fault.FrameFault.{FrameFault}
use Rattle.kn_frames.specs.declared.fault.Phase.{Phase}
use Rattle.kn_frames.specs.declared.fault.Phase.TheVariants.{InPreface, InFrames, Failed}
use Rattle.kn_frames.specs.Frames.{AreFrames, preface, IsStream, spelled_length}
use Rattle.kn_frames.specs.Readers.{IsTooLongAfter, DiffersFromPreface, Reading, in_frames, in_preface, start, failed, count_up, after_byte, after_bytes, frame_at, frames_in, fault_in, IsFaultOf}
use Rattle.kn_frames.proofs.Bytes.{Leads, by_leads, by_first, leads_more, leads_on, failed_on, after_bytes-append}
use Rattle.kn_frames.proofs.Spellings.{fails_at, spelled_total, sound, faults, only, nothing_short}

pub length-preface : length preface ≡ 24
unfolding preface
length-preface = refl

-- the byte that is due
due : (rest : List ℕ) (y : ℕ) (ys : List ℕ) → rest ++ y ∷ ys ≡ preface → slice_index preface (length rest) ≡ y
due rest y ys e = ap (λ p. get_or p (length rest) 0) (sym e) ∙ get_or_at rest y ys 0 (length rest) refl

-- how many are due
due_count : (rest : List ℕ) (y : ℕ) (ys : List ℕ) → rest ++ y ∷ ys ≡ preface → length rest + length ys ≡ 23
due_count rest y ys e = omega (arith, length-append rest (y ∷ ys), ap length e, length-preface)

step_differs : (rest : List ℕ) (x y : ℕ) (ys : List ℕ) → rest ++ y ∷ ys ≡ preface → (x ≡ y → ⊥) →
    (after_byte (in_preface rest 0) x ≡ failed (record { offset = count_up 0 (length rest); reason = Preface }) 0) × (frame_at (in_preface rest 0) x ≡ [])
unfolding after_byte frame_at
step_differs rest x y ys e n =
    let t : (x == slice_index preface (length rest)) ≡ false = ne_eqb x (slice_index preface (length rest)) (λ h. n (h ∙ due rest y ys e)) in
    (rw t, refl)

step_last : (rest : List ℕ) (y : ℕ) → rest ++ y ∷ [] ≡ preface →
    (after_byte (in_preface rest 0) y ≡ in_frames [] 24) × (frame_at (in_preface rest 0) y ≡ [])
unfolding after_byte frame_at
step_last rest y e =
    let t : (y == slice_index preface (length rest)) ≡ true = eq-eqb y (slice_index preface (length rest)) (sym (due rest y [] e)) in
    let l : (length rest == 23) ≡ true = eq-eqb (length rest) 23 (omega (arith, due_count rest y [] e)) in
    (rw (t, l), refl)

step_next : (rest : List ℕ) (y z : ℕ) (ys : List ℕ) → rest ++ y ∷ z ∷ ys ≡ preface →
    (after_byte (in_preface rest 0) y ≡ in_preface (rest ++ y ∷ []) 0) × (frame_at (in_preface rest 0) y ≡ [])
unfolding after_byte frame_at
step_next rest y z ys e =
    let t : (y == slice_index preface (length rest)) ≡ true = eq-eqb y (slice_index preface (length rest)) (sym (due rest y (z ∷ ys) e)) in
    let l : (length rest == 23) ≡ false = ne_eqb (length rest) 23 (λ h. omega (arith, due_count rest y (z ∷ ys) e, h)) in
    (rw (t, l), refl)

-- the bytes of a client, seen by what a reader that has not failed made of them
abbrev pub StreamCuts : List ℕ → Reading → List Frame → Type 0
StreamCuts bytes r fs = fault_in r.phase ≡ None → IsStream true bytes fs r.rest

-- the same for a reader that failed
abbrev pub StreamFails : List ℕ → FrameFault → Reading → List Frame → Type 0
StreamFails bytes fault r fs = fault_in r.phase ≡ Some fault → IsFaultOf true bytes fs fault

module _ (P : List ℕ → Reading → List Frame → Type 0)
    (ends : (rest : List ℕ) (y : ℕ) (ys : List ℕ) → rest ++ y ∷ ys ≡ preface → P rest (in_preface rest 0) [])
    (differs : (rest : List ℕ) (x y : ℕ) (ys xs : List ℕ) → rest ++ y ∷ ys ≡ preface → (x ≡ y → ⊥) →
    P (rest ++ x ∷ xs) (failed (record { offset = count_up 0 (length rest); reason = Preface }) 0) [])
    (frames : (xs : List ℕ) → P (preface ++ xs) (after_bytes (in_frames [] 24) xs) (frames_in (in_frames [] 24) xs)) where
  -- what holds at each end of the preface
  by_preface : (rest : List ℕ) (y : ℕ) (ys bytes : List ℕ) → rest ++ y ∷ ys ≡ preface →
      P (rest ++ bytes) (after_bytes (in_preface rest 0) bytes) (frames_in (in_preface rest 0) bytes)
  by_preface rest y ys [] e = subst (λ t. P t (in_preface rest 0) []) (sym (append-nil rest)) (ends rest y ys e)
  by_preface rest y [] (x ∷ xs) e = elim (cases_eq x y) [
    | inl same ↦ subst (λ z. P (rest ++ z ∷ xs) (after_bytes (in_preface rest 0) (z ∷ xs)) (frames_in (in_preface rest 0) (z ∷ xs))) (sym same)
        (by_leads (P (rest ++ y ∷ xs)) (in_preface rest 0) (y ∷ xs) _ _ (by_first (in_preface rest 0) (in_frames [] 24) y xs [] (step_last rest y e))
        (subst (λ t. P t (after_bytes (in_frames [] 24) xs) (frames_in (in_frames [] 24) xs)) (ap (λ p. p ++ xs) (sym e) ∙ append_assoc rest (y ∷ []) xs) (frames xs)))
    | inr n ↦ let one = step_differs rest x y [] e n in
        by_leads (P (rest ++ x ∷ xs)) (in_preface rest 0) (x ∷ xs) _ [] (leads_more _ _ x xs [] [] _ one.0 one.1 (failed_on _ [] 0 xs)) (differs rest x y [] xs e n)
  ]
  by_preface rest y (z ∷ ys) (x ∷ xs) e = elim (cases_eq x y) [
    | inl same ↦ subst (λ z. P (rest ++ z ∷ xs) (after_bytes (in_preface rest 0) (z ∷ xs)) (frames_in (in_preface rest 0) (z ∷ xs))) (sym same)
        (by_leads (P (rest ++ y ∷ xs)) (in_preface rest 0) (y ∷ xs) _ _ (by_first (in_preface rest 0) (in_preface (rest ++ y ∷ []) 0) y xs [] (step_next rest y z ys e))
        (subst (λ t. P t (after_bytes (in_preface (rest ++ y ∷ []) 0) xs) (frames_in (in_preface (rest ++ y ∷ []) 0) xs)) (append_assoc rest (y ∷ []) xs)
        (by_preface (rest ++ y ∷ []) z ys xs (append_assoc rest (y ∷ []) (z ∷ ys) ∙ e))))
    | inr n ↦ let one = step_differs rest x y (z ∷ ys) e n in
        by_leads (P (rest ++ x ∷ xs)) (in_preface rest 0) (x ∷ xs) _ [] (leads_more _ _ x xs [] [] _ one.0 one.1 (failed_on _ [] 0 xs)) (differs rest x y (z ∷ ys) xs e n)
  ]

preface_parts : (y : ℕ) × (ys : List ℕ) × (y ∷ ys ≡ preface)
unfolding preface
preface_parts = (get_or preface 0 0, drop 1 preface, refl)

-- what is cut is the stream
pub stream_sound : (c : Bool) (bytes : List ℕ) → fault_in (after_bytes (start c) bytes).phase ≡ None →
    IsStream c bytes (frames_in (start c) bytes) (after_bytes (start c) bytes).rest
stream_sound false bytes = sound [] bytes 0 nothing_short
stream_sound true bytes =
    let p = preface_parts in
    by_preface StreamCuts
    (λ rest y ys e _. inl (refl, refl, (y ∷ ys, e, omega arith)))
    (λ rest x y ys xs e n h. absurd (cc))
    (λ xs h. inr (xs, refl, sound [] xs 24 nothing_short h))
    [] p.0 p.1 bytes p.2

-- a fault is where the bytes stop to be a stream
pub stream_faults : (c : Bool) (bytes : List ℕ) (fault : FrameFault) → fault_in (after_bytes (start c) bytes).phase ≡ Some fault →
    IsFaultOf c bytes (frames_in (start c) bytes) fault
stream_faults false bytes fault = λ h.
    let o = faults [] bytes 0 fault (omega arith) nothing_short h in
    (o.front, o.more, o.joined, o.spelled, o.begins, o.place)
stream_faults true bytes fault =
    let p = preface_parts in
    by_preface (λ t r fs. StreamFails t fault r fs)
    (λ rest y ys e h. absurd (cc))
    (λ rest x y ys xs e n h.
    let f : FrameFault = record { offset = count_up 0 (length rest); reason = Preface } in
    let same : f ≡ fault = cc in
    let l : count_up 0 (length rest) ≡ length rest = omega (arith, due_count rest y ys e) in
    inl (rest, x, xs, refl, refl, (y ∷ ys, e, omega arith), (λ k. n (k ∙ due rest y ys e)), sym same ∙ ap (λ (k : ℕ). record { offset = k; reason = Preface }) l))
    (λ xs h.
    let o = faults [] xs 24 fault (omega arith) nothing_short h in
    let l : count_up 24 (length o.front) ≡ count_up 0 (length (preface ++ o.front)) = omega (arith, length-append preface o.front, length-preface) in
    inr (
      preface ++ o.front,
      o.more,
      ap (λ t. preface ++ t) o.joined ∙ sym (append_assoc preface o.front o.more),
      (o.front, refl, o.spelled),
      o.begins,
      o.place ∙ ap (λ (k : ℕ). record { offset = k; reason = TooLong }) l,
    ))
    [] p.0 p.1 bytes p.2

partial_on : (seen bytes : List ℕ) (z : ℕ) (zs : List ℕ) → seen ++ (bytes ++ z ∷ zs) ≡ preface → Leads (in_preface seen 0) bytes (in_preface (seen ++ bytes) 0) []
partial_on seen [] z zs e = record { after = ap (λ t. in_preface t 0) (sym (append-nil seen)); frames = refl }
partial_on seen (x ∷ []) z zs e = let one = step_next seen x z zs e in leads_more _ _ x [] [] [] _ one.0 one.1 (record { after = refl; frames = refl })
partial_on seen (x ∷ w ∷ bytes) z zs e =
    let one = step_next seen x w (bytes ++ z ∷ zs) e in
    let on = partial_on (seen ++ x ∷ []) (w ∷ bytes) z zs (append_assoc seen (x ∷ []) (w ∷ bytes ++ z ∷ zs) ∙ e) in
    leads_more _ _ x (w ∷ bytes) [] [] _ one.0 one.1 (subst (λ t. Leads (in_preface (seen ++ x ∷ []) 0) (w ∷ bytes) (in_preface t 0) []) (append_assoc seen (x ∷ []) (w ∷ bytes)) on)

all_on : (seen : List ℕ) (y : ℕ) (ys : List ℕ) → seen ++ y ∷ ys ≡ preface → Leads (in_preface seen 0) (y ∷ ys) (in_frames [] 24) []
all_on seen y [] e = let one = step_last seen y e in leads_more _ _ y [] [] [] _ one.0 one.1 (record { after = refl; frames = refl })
all_on seen y (z ∷ ys) e =
    let one = step_next seen y z ys e in
    leads_more _ _ y (z ∷ ys) [] [] _ one.0 one.1 (all_on (seen ++ y ∷ []) z ys (append_assoc seen (y ∷ []) (z ∷ ys) ∙ e))

-- a reader that has not failed, with these bytes held and these frames cut
pub record HasCut (c : Bool) (bytes : List ℕ) (fs : List Frame) (rest : List ℕ) : Type 0 where
  pub well : fault_in (after_bytes (start c) bytes).phase ≡ None
  pub frames : frames_in (start c) bytes ≡ fs
  pub held : (after_bytes (start c) bytes).rest ≡ rest
  pub offset : (after_bytes (start c) bytes).offset ≡ count_up 0 (length bytes - length rest)

has_cut : (c : Bool) (bytes : List ℕ) (fs : List Frame) (rest : List ℕ) (s : Reading) → fault_in s.phase ≡ None → s.rest ≡ rest → s.offset ≡ count_up 0 (length bytes - length rest) → Leads (start c) bytes s fs → HasCut c bytes fs rest
has_cut c bytes fs rest s w r o l = record { well = ap (λ q. fault_in q.phase) l.after ∙ w; frames = l.frames; held = ap (λ q. q.rest) l.after ∙ r; offset = ap (λ q. q.offset) l.after ∙ o }

part_on : (rest more : List ℕ) → rest ++ more ≡ preface → 0 < length more → Leads (in_preface [] 0) rest (in_preface rest 0) []
part_on rest [] e h = absurd (omega arith)
part_on rest (z ∷ zs) e h = partial_on [] rest z zs e

-- what is a stream is cut so
pub stream_only : (c : Bool) (bytes : List ℕ) (fs : List Frame) (rest : List ℕ) → IsStream c bytes fs rest → HasCut c bytes fs rest
stream_only false bytes fs rest s =
    let l = spelled_total fs bytes rest s in
    let o : count_up 0 (spelled_length fs) ≡ count_up 0 (length bytes - length rest) = omega (arith, l) in
    has_cut false bytes fs rest (in_frames rest (count_up 0 (spelled_length fs))) refl refl o (only fs bytes rest 0 (omega arith) s)
stream_only true bytes fs rest s = elim s [
  | inl h ↦ has_cut true bytes fs rest (in_preface rest 0) refl refl (omega (arith, ap length h.0))
      (subst (λ t. Leads (in_preface [] 0) t (in_preface rest 0) fs) (sym h.0)
      (subst (λ gs. Leads (in_preface [] 0) rest (in_preface rest 0) gs) (sym h.1) (part_on rest h.2.0 h.2.1 h.2.2)))
  | inr h ↦
      let p = preface_parts in
      let all : Leads (in_preface [] 0) preface (in_frames [] 24) [] = subst (λ t. Leads (in_preface [] 0) t (in_frames [] 24) []) p.2 (all_on [] p.0 p.1 p.2) in
      let l = spelled_total fs h.0 rest h.2 in
      let k = ap length h.1 ∙ length-append preface h.0 in
      let o : count_up 24 (spelled_length fs) ≡ count_up 0 (length bytes - length rest) = omega (arith, l, k, length-preface) in
      has_cut true bytes fs rest (in_frames rest (count_up 24 (spelled_length fs))) refl refl o
      (subst (λ t. Leads (in_preface [] 0) t (in_frames rest (count_up 24 (spelled_length fs))) fs) (sym h.1) (leads_on _ _ _ preface h.0 [] fs all (only fs h.0 rest 24 (omega arith) h.2)))
]

stays_in : (p : Phase) (rest : List ℕ) (o : ℕ) (more : List ℕ) (fault : FrameFault) → fault_in p ≡ Some fault →
    fault_in (after_bytes (record { phase = p; rest = rest; offset = o }) more).phase ≡ Some fault
stays_in InPreface rest o more fault e = absurd (cc)
stays_in InFrames rest o more fault e = absurd (cc)
stays_in (Failed f) rest o more fault e = ap (λ q. fault_in q.phase) (failed_on f rest o more).after ∙ e

-- a fault stays
pub stays : (r : Reading) (more : List ℕ) (fault : FrameFault) → fault_in r.phase ≡ Some fault → fault_in (after_bytes r more).phase ≡ Some fault
stays r more fault e = stays_in r.phase r.rest r.offset more fault e

-- after a fault no bytes could follow to make a stream
pub stream_first : (c : Bool) (bytes : List ℕ) (fault : FrameFault) → fault_in (after_bytes (start c) bytes).phase ≡ Some fault →
    (more rest : List ℕ) (fs : List Frame) → IsStream c (bytes ++ more) fs rest → ⊥
stream_first c bytes fault e more rest fs s =
    let well : fault_in (after_bytes (start c) (bytes ++ more)).phase ≡ None = (stream_only c (bytes ++ more) fs rest s).well in
    let on : fault_in (after_bytes (start c) (bytes ++ more)).phase ≡ Some fault = ap (λ q. fault_in q.phase) (after_bytes-append (start c) bytes more) ∙ stays (after_bytes (start c) bytes) more fault e in
    cc

-- whole frames leave nothing held
frames_lead : (c : Bool) (bytes : List ℕ) (fs : List Frame) → AreFrames c bytes fs → Leads (start c) bytes (in_frames [] (count_up 0 (length bytes))) fs
frames_lead false bytes fs s =
    let l = spelled_total fs bytes [] s in
    let o : count_up 0 (spelled_length fs) ≡ count_up 0 (length bytes) = omega (arith, l) in
    subst (λ k. Leads (in_frames [] 0) bytes (in_frames [] k) fs) o (only fs bytes [] 0 (omega arith) s)
frames_lead true bytes fs s =
    let p = preface_parts in
    let all : Leads (in_preface [] 0) preface (in_frames [] 24) [] = subst (λ t. Leads (in_preface [] 0) t (in_frames [] 24) []) p.2 (all_on [] p.0 p.1 p.2) in
    let l = spelled_total fs s.0 [] s.2 in
    let k = ap length s.1 ∙ length-append preface s.0 in
    let o : count_up 24 (spelled_length fs) ≡ count_up 0 (length bytes) = omega (arith, l, k, length-preface) in
    subst (λ n. Leads (in_preface [] 0) bytes (in_frames [] n) fs) o
    (subst (λ t. Leads (in_preface [] 0) t (in_frames [] (count_up 24 (spelled_length fs))) fs) (sym s.1)
    (leads_on _ _ _ preface s.0 [] fs all (only fs s.0 [] 24 (omega arith) s.2)))

-- a reader that failed so, with these frames cut
pub record HasFailed (c : Bool) (bytes : List ℕ) (fs : List Frame) (fault : FrameFault) : Type 0 where
  pub failed : fault_in (after_bytes (start c) bytes).phase ≡ Some fault
  pub frames : frames_in (start c) bytes ≡ fs

-- after whole frames nothing goes on as a frame
pub long_fails : (c : Bool) (bytes : List ℕ) (fs : List Frame) (fault : FrameFault) → IsTooLongAfter c bytes fs fault → HasFailed c bytes fs fault
long_fails c bytes fs fault h =
    let o = count_up 0 (length h.0) in
    let l = leads_on _ _ _ h.0 h.1 fs [] (frames_lead c h.0 fs h.3) (fails_at [] h.1 o nothing_short h.4) in
    record {
      failed = ap (λ b. fault_in (after_bytes (start c) b).phase) h.2 ∙ ap (λ q. fault_in q.phase) l.after ∙ ap (λ f. Some f) (sym h.5);
      frames = ap (frames_in (start c)) h.2 ∙ l.frames ∙ append-nil fs;
    }

differs_at : (front : List ℕ) (x : ℕ) (more after : List ℕ) → front ++ after ≡ preface → 0 < length after → x ≢ slice_index preface (length front) →
    Leads (in_preface [] 0) (front ++ x ∷ more) (failed (record { offset = count_up 0 (length front); reason = Preface }) 0) []
differs_at front x more [] e h n = absurd (omega arith)
differs_at front x more (y ∷ ys) e h n =
    let one = step_differs front x y ys e (λ k. n (k ∙ sym (due front y ys e))) in
    leads_on _ _ _ front (x ∷ more) [] [] (part_on front (y ∷ ys) e h)
    (leads_more _ _ x more [] [] _ one.0 one.1 (failed_on (record { offset = count_up 0 (length front); reason = Preface }) [] 0 more))

preface_fails : (bytes : List ℕ) (fs : List Frame) (fault : FrameFault) → DiffersFromPreface bytes fs fault → HasFailed true bytes fs fault
preface_fails bytes fs fault d =
    let l = differs_at d.0 d.1 d.2 d.5.0 d.5.1 d.5.2 d.6 in
    let short : count_up 0 (length d.0) ≡ length d.0 = omega (arith, ap length d.5.1, length-append d.0 d.5.0, length-preface) in
    let f : FrameFault = record { offset = count_up 0 (length d.0); reason = Preface } in
    let g : f ≡ fault = ap (λ (k : ℕ). record { offset = k; reason = Preface }) short ∙ sym d.7 in
    record {
      failed = ap (λ b. fault_in (after_bytes (start true) b).phase) d.3 ∙ ap (λ q. fault_in q.phase) l.after ∙ ap (λ q. Some q) g;
      frames = ap (frames_in (start true)) d.3 ∙ l.frames ∙ sym d.4;
    }

-- where the bytes break the format, the reader fails
pub stream_fails : (c : Bool) (bytes : List ℕ) (fs : List Frame) (fault : FrameFault) → IsFaultOf c bytes fs fault → HasFailed c bytes fs fault
stream_fails false bytes fs fault h = long_fails false bytes fs fault h
stream_fails true bytes fs fault h = elim h [ inl d ↦ preface_fails bytes fs fault d | inr l ↦ long_fails true bytes fs fault l ]
