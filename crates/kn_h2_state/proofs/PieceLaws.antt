-- Pieces of bytes, and the first frame that fails a connection.
use Rattle.std.proofs.Common.{◌≡◌, inl, inr, ℕ, true, List, [], ◌∷◌, ◌++◌, Option, Some, None, is_some, refl, ap, sym, ◌∙◌, append_assoc, if◌then◌else◌}
use Rattle.kn_frames.specs.declared.frame.Frame.{Frame}
use Rattle.kn_frames.specs.declared.fault.FrameFault.{FrameFault}
use Rattle.kn_frames.specs.Readers.{Reading, after_byte, frame_at, after_bytes, frames_in, fault_in}
use Rattle.kn_h2_state.specs.declared.state.State.{State}
use Rattle.kn_h2_state.specs.Rules.{verdict}
use Rattle.kn_h2_state.specs.Effects.{fail, effect}
use Rattle.kn_h2_state.specs.Feeding.{without_blocks, judged, after_frame, after_frames, frame_code, after_fault, Connection, after_piece}
use Rattle.kn_h2_state.specs.Laws.{AnyPieces, Fells, FailsAt, FailsFirst}

-- ---- readers of joined bytes

pub bytes-append : (r : Reading) (xs ys : List ℕ) → after_bytes r (xs ++ ys) ≡ after_bytes (after_bytes r xs) ys
bytes-append r [] ys = refl
bytes-append r (x ∷ xs) ys = bytes-append (after_byte r x) xs ys

pub frames-append : (r : Reading) (xs ys : List ℕ) → frames_in r (xs ++ ys) ≡ frames_in r xs ++ frames_in (after_bytes r xs) ys
frames-append r [] ys = refl
frames-append r (x ∷ xs) ys =
    ap (λ (fs : List Frame). frame_at r x ++ fs) (frames-append (after_byte r x) xs ys)
    ∙ sym (append_assoc (frame_at r x) (frames_in (after_byte r x) xs) (frames_in (after_bytes (after_byte r x) xs) ys))

-- ---- frames one after another

pub after_frames-none : (s : State) → after_frames s [] ≡ s
unfolding after_frames
after_frames-none s = refl

pub after_frames-cons : (s : State) (f : Frame) (fs : List Frame) → after_frames s (f ∷ fs) ≡ after_frames (after_frame s f) fs
unfolding after_frames
after_frames-cons s f fs = refl

pub after_frames-append : (s : State) (fs gs : List Frame) → after_frames s (fs ++ gs) ≡ after_frames (after_frames s fs) gs
unfolding after_frames
after_frames-append s [] gs = refl
after_frames-append s (f ∷ fs) gs = after_frames-append (after_frame s f) fs gs

-- nothing more is read once the connection has failed
pub after_frame-failed : (s : State) (f : Frame) (code : ℕ) → s.failed ≡ Some code → after_frame s f ≡ s
unfolding after_frame
after_frame-failed s f code e = rw e refl

pub after_frames-failed : (s : State) (fs : List Frame) (code : ℕ) → s.failed ≡ Some code → after_frames s fs ≡ s
unfolding after_frames
after_frames-failed s [] code e = refl
after_frames-failed s (f ∷ fs) code e = rw (after_frame-failed s f code e) (after_frames-failed s fs code e)

pub after_frame-judged : (s : State) (f : Frame) → s.failed ≡ None → after_frame s f ≡ judged s f (verdict s f)
unfolding after_frame
after_frame-judged s f e = rw e refl

fail-failed : (code : ℕ) (s : State) → (fail code s).failed ≡ Some code
unfolding fail
fail-failed code s = refl

-- ---- pieces

none_is_some : (code : ℕ) (o : Option ℕ) → o ≡ Some code → o ≡ None → ⊥
none_is_some code o e f = (cc)

when_some : (o : Option ℕ) (code : ℕ) (x y : State) → o ≡ Some code → (if is_some o then x else y) ≡ x
when_some None code x y e = absurd (none_is_some code None e refl)
when_some (Some found) code x y e = refl

when_none : (o : Option ℕ) (x y : State) → o ≡ None → (if is_some o then x else y) ≡ y
when_none None x y e = refl
when_none (Some found) x y e = absurd (none_is_some found (Some found) refl e)

-- a fault ends the connection, so where it goes on there was none
fault_none : (s : State) (o : Option FrameFault) → (after_fault s o).failed ≡ None → after_fault s o ≡ s
fault_none s None e = refl
fault_none s (Some fault) e = by_failed s.failed refl
  where
    by_failed : (code : Option ℕ) → s.failed ≡ code → after_fault s (Some fault) ≡ s
    by_failed (Some code) f = when_some s.failed code s (fail (frame_code fault.reason) s) f
    by_failed None f =
        let fails : (after_fault s (Some fault)).failed ≡ Some (frame_code fault.reason) =
        ap (λ (t : State). t.failed) (when_none s.failed s (fail (frame_code fault.reason) s) f) ∙ fail-failed (frame_code fault.reason) s in
        absurd (none_is_some (frame_code fault.reason) (after_fault s (Some fault)).failed fails e)

piece_going : (c : Connection) (piece : List ℕ) → c.state.failed ≡ None → after_piece c piece ≡ record {
  cutter = after_bytes c.cutter piece;
  state = after_fault (after_frames c.state (frames_in c.cutter piece)) (fault_in (after_bytes c.cutter piece).phase);
}
unfolding after_piece
piece_going c piece e = rw e refl

piece_over : (c : Connection) (piece : List ℕ) (code : ℕ) → c.state.failed ≡ Some code → after_piece c piece ≡ c
unfolding after_piece
piece_over c piece code e = rw e refl

pub any_pieces : AnyPieces
any_pieces c a b e = by_failed c.state.failed refl
  where
    r : Reading
    r = after_bytes c.cutter a

    s : State
    s = after_frames c.state (frames_in c.cutter a)

    by_failed : (code : Option ℕ) → c.state.failed ≡ code → after_piece (after_piece c a) b ≡ after_piece c (a ++ b)
    by_failed (Some code) f = absurd (none_is_some code c.state.failed f (rw (piece_over c a code f) at e))
    by_failed None f =
        let first : after_piece c a ≡ record { cutter = r; state = after_fault s (fault_in r.phase) } = piece_going c a f in
        let goes : (after_fault s (fault_in r.phase)).failed ≡ None = rw first at e in
        let same : after_fault s (fault_in r.phase) ≡ s = fault_none s (fault_in r.phase) goes in
        let on : s.failed ≡ None = rw same at goes in
        let here : after_piece c a ≡ record { cutter = r; state = s } = first ∙ ap (λ (t : State). record { cutter = r; state = t }) same in
        ap (λ (d : Connection). after_piece d b) here
        ∙ (piece_going (record { cutter = r; state = s }) b on
        ∙ (rw (bytes-append c.cutter a b, frames-append c.cutter a b, after_frames-append c.state (frames_in c.cutter a) (frames_in r b)) at (sym (piece_going c (a ++ b) f))))

-- ---- the first frame that fails it

fells : (s : State) (f : Frame) (code : ℕ) → s.failed ≡ None → (after_frame s f).failed ≡ Some code → Fells s f code
fells s f code g e = by_verdict (verdict s f) refl
  where
    by_verdict : (o : Option ℕ) → verdict s f ≡ o → Fells s f code
    by_verdict (Some found) v =
        let fails : (after_frame s f).failed ≡ Some found = rw (after_frame-judged s f g, v) (fail-failed found (without_blocks s)) in
        inl (v ∙ (sym fails ∙ e))
    by_verdict None v =
        let ends : (effect (record s { began = true }) f).failed ≡ Some code = rw (after_frame-judged s f g, v) at e in
        inr (v, ends)

felled : (s : State) (f : Frame) (code : ℕ) → s.failed ≡ None → Fells s f code → (after_frame s f).failed ≡ Some code
felled s f code g (inl v) = rw (after_frame-judged s f g, v) (fail-failed code (without_blocks s))
felled s f code g (inr (v, e)) = rw (after_frame-judged s f g, v) e

fails_somewhere : (s : State) (fs : List Frame) (code : ℕ) → s.failed ≡ None → (after_frames s fs).failed ≡ Some code → FailsAt s fs code
fails_somewhere s [] code g e = absurd (none_is_some code s.failed (rw after_frames-none at e) g)
fails_somewhere s (f ∷ fs) code g e = by_failed (after_frame s f).failed refl (λ on. fails_somewhere (after_frame s f) fs code on (rw after_frames-cons at e))
  where
    by_failed : (o : Option ℕ) → (after_frame s f).failed ≡ o → ((after_frame s f).failed ≡ None → FailsAt (after_frame s f) fs code) → FailsAt s (f ∷ fs) code
    by_failed (Some found) o next =
        let over : after_frames s (f ∷ fs) ≡ after_frame s f = after_frames-cons s f fs ∙ after_frames-failed (after_frame s f) fs found o in
        let here : (after_frame s f).failed ≡ Some code = rw over at e in
        ([], f, fs, refl, (rw after_frames-none g), (rw after_frames-none (fells s f code g here)))
    by_failed None o next =
        let at' : FailsAt (after_frame s f) fs code = next o in
        (f ∷ at'.0, at'.1, at'.2, ap (λ (gs : List Frame). f ∷ gs) at'.3, (rw after_frames-cons at'.4), (rw after_frames-cons at'.5))

fails_then : (s : State) (fs : List Frame) (code : ℕ) → FailsAt s fs code → (after_frames s fs).failed ≡ Some code
fails_then s fs code (before, f, after, e, g, fells') =
    let here : (after_frame (after_frames s before) f).failed ≡ Some code = felled (after_frames s before) f code g fells' in
    rw (
      e,
      after_frames-append s before (f ∷ after),
      after_frames-cons (after_frames s before) f after,
      after_frames-failed (after_frame (after_frames s before) f) after code here,
    ) here

pub fails_first : FailsFirst
fails_first s fs code g = (fails_somewhere s fs code g, fails_then s fs code)
