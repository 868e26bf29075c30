-- What a step over the front of a piece leaves to be read.
use Rattle.std.proofs.Common.{◌≡◌, ℕ, ◌+◌, ◌<◌, List, [], ◌∷◌, ◌++◌, length, take, drop, get_or, arith, refl, sym, ap, ◌∙◌, subst, append_assoc, length-append, Some}
use Rattle.std.proofs.lemmas.List.{append-nil, drop_at, get_or_append_left}
use Rattle.kn_frames.specs.declared.frame.Frame.{Frame}
use Rattle.kn_frames.specs.declared.fault.FrameFault.{FrameFault}
use Rattle.kn_frames.specs.declared.fault.Phase.{Phase}
use Rattle.kn_frames.specs.declared.fault.Phase.TheVariants.{InPreface, InFrames, Failed}
use Rattle.kn_frames.specs.declared.state.State.{State}
use Rattle.kn_frames.specs.Frames.{length_of, stream_of, frame_of}
use Rattle.kn_frames.specs.Readers.{Reading, in_frames, count_up, after_byte, after_bytes, frame_at, frames_in, fault_in}
use Rattle.kn_frames.specs.Cutters.{seen}
use Rattle.kn_frames.proofs.Bytes.{length_of-append, IsShort, IsWholeText, Leads, failed_on, short_on, whole_part, after_bytes-append, frames_in-append}
use Rattle.kn_frames.proofs.States.{IsAtBody}

-- what is left to be read after these bytes of a piece
pub record Leaves (old new : Reading) (piece left : List ℕ) (before after : List Frame) : Type 0 where
  pub state : after_bytes new left ≡ after_bytes old piece
  pub frames : after ++ frames_in new left ≡ before ++ frames_in old piece

pub leaves_rest : (old new : Reading) (piece front left : List ℕ) (before fs : List Frame) → piece ≡ front ++ left → Leads old front new fs → Leaves old new piece left before (before ++ fs)
leaves_rest old new piece front left before fs e l = record {
  state = ap (λ q. after_bytes q left) (sym l.after) ∙ sym (after_bytes-append old front left) ∙ ap (after_bytes old) (sym e);
  frames = append_assoc before fs (frames_in new left)
      ∙ ap (λ gs. before ++ gs) (ap (λ g. g ++ frames_in new left) (sym l.frames) ∙ ap (λ q. frames_in old front ++ frames_in q left) (sym l.after)
      ∙ sym (frames_in-append old front left) ∙ ap (frames_in old) (sym e));
}

-- a piece that does not end the payload
pub body_short : (s : State) (piece : List ℕ) → IsAtBody s → length s.body + length piece < length_of s.front →
    Leads (seen s) piece (in_frames (s.front ++ (s.body ++ piece)) s.offset) []
body_short s piece h l =
    let t = (s.front ++ s.body) ++ piece in
    let e : t ≡ s.front ++ (s.body ++ piece) = append_assoc s.front s.body piece in
    let n : length_of t ≡ length_of s.front = ap length_of e ∙ length_of-append s.front (s.body ++ piece) (omega (arith, h.front)) in
    let m : length t ≡ length s.front + length s.body + length piece = omega (arith, length-append (s.front ++ s.body) piece, length-append s.front s.body) in
    let short : IsShort t = record { small = omega (arith, n, h.small); short = omega (arith, n, m, l, h.front) } in
    subst (λ r. Leads r piece (in_frames (s.front ++ (s.body ++ piece)) s.offset) []) (sym h.seen)
    (subst (λ u. Leads (in_frames (s.front ++ s.body) s.offset) piece (in_frames u s.offset) []) e (short_on (s.front ++ s.body) piece s.offset short))

-- a whole frame is that of its head and of what follows
frame_of-append : (front payload : List ℕ) → length front ≡ 9 → frame_of (front ++ payload) (drop 9 (front ++ payload)) ≡ frame_of front payload
unfolding stream_of
frame_of-append front payload h =
    let at : (i : ℕ) → i < 9 → get_or (front ++ payload) i 0 ≡ get_or front i 0 = λ i l. get_or_append_left front payload 0 i (omega arith) in
    rw (at 3 (omega arith), at 4 (omega arith), at 5 (omega arith), at 6 (omega arith), at 7 (omega arith), at 8 (omega arith), drop_at front payload 9 h)

-- a piece that ends it
pub body_whole : (s : State) (piece : List ℕ) → IsAtBody s → length s.body + length piece ≡ length_of s.front →
    Leads (seen s) piece (in_frames [] (count_up s.offset (9 + length (s.body ++ piece)))) (frame_of s.front (s.body ++ piece) ∷ [])
body_whole s piece h l =
    let payload = s.body ++ piece in
    let t = (s.front ++ s.body) ++ piece in
    let e : t ≡ s.front ++ payload = append_assoc s.front s.body piece in
    let n : length_of t ≡ length_of s.front = ap length_of e ∙ length_of-append s.front payload (omega (arith, h.front)) in
    let m : length t ≡ 9 + length payload = ap length e ∙ length-append s.front payload ∙ ap (λ k. k + length payload) h.front in
    let k : length payload ≡ length_of s.front = length-append s.body piece ∙ l in
    let whole : IsWholeText t = record { small = omega (arith, n, h.small); len = omega (arith, n, m, k) } in
    let f : frame_of t (drop 9 t) ≡ frame_of s.front payload = ap (λ u. frame_of u (drop 9 u)) e ∙ frame_of-append s.front payload h.front in
    subst (λ r. Leads r piece (in_frames [] (count_up s.offset (9 + length payload))) (frame_of s.front payload ∷ [])) (sym h.seen)
    (subst (λ g. Leads (in_frames (s.front ++ s.body) s.offset) piece (in_frames [] (count_up s.offset (9 + length payload))) (g ∷ [])) f
    (subst (λ j. Leads (in_frames (s.front ++ s.body) s.offset) piece (in_frames [] (count_up s.offset j)) (frame_of t (drop 9 t) ∷ [])) m
    (whole_part (s.front ++ s.body) piece s.offset (omega (arith, l, h.body)) whole)))

-- the first byte of a piece
pub first_byte : (old : Reading) (piece : List ℕ) → 0 < length piece → Leads old (take 1 piece) (after_byte old (get_or piece 0 0)) (frame_at old (get_or piece 0 0))
first_byte old [] h = absurd (omega arith)
first_byte old (x ∷ piece) h = record { after = refl; frames = append-nil (frame_at old x) }

failed_in : (p : Phase) (rest : List ℕ) (o : ℕ) (bytes : List ℕ) (f : FrameFault) → fault_in p ≡ Some f →
    Leads (record { phase = p; rest = rest; offset = o }) bytes (record { phase = p; rest = rest; offset = o }) []
failed_in InPreface rest o bytes f e = absurd (cc)
failed_in InFrames rest o bytes f e = absurd (cc)
failed_in (Failed g) rest o bytes f e = failed_on g rest o bytes

-- a reader that failed stays as it is
pub failed_reading : (r : Reading) (bytes : List ℕ) (f : FrameFault) → fault_in r.phase ≡ Some f → Leads r bytes r []
failed_reading r bytes f e = failed_in r.phase r.rest r.offset bytes f e

-- where the first byte of a piece fails, the piece does
pub first_fails : (old : Reading) (piece : List ℕ) (f : FrameFault) → 0 < length piece → fault_in (after_byte old (get_or piece 0 0)).phase ≡ Some f →
    Leads old piece (after_byte old (get_or piece 0 0)) (frame_at old (get_or piece 0 0))
first_fails old [] f h e = absurd (omega arith)
first_fails old (x ∷ piece) f h e =
    let on = failed_reading (after_byte old x) piece f e in
    record { after = on.after; frames = ap (λ g. frame_at old x ++ g) on.frames ∙ append-nil (frame_at old x) }

-- a byte of the preface makes no frame
pub no_frame : (r : Reading) (x : ℕ) → r.phase ≡ InPreface → frame_at r x ≡ []
unfolding frame_at
no_frame r x e = rw e
