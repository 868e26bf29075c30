-- What a piece brings that is as long as what is missing, or shorter.
use Rattle.std.proofs.Common.{◌≡◌, ◌⊎◌, ℕ, ◌<◌, true, false, List, [], ◌∷◌, length, arith, refl, sym, ap, ◌∙◌, inl, inr, Option, Some, None, is_some}
use Rattle.std.proofs.lemmas.Bool.{cases_Bool}
use Rattle.kn_frames.specs.declared.frame.Frame.{Frame}
use Rattle.kn_frames.specs.declared.fault.FrameFault.{FrameFault}
use Rattle.kn_frames.specs.declared.fault.Phase.{Phase}
use Rattle.kn_frames.specs.declared.fault.Phase.TheVariants.{InPreface, InFrames, Failed}
use Rattle.kn_frames.specs.Readers.{Reading, after_bytes, frames_in, fault_in}
use Rattle.kn_frames.specs.Missing.{Ended}
use Rattle.kn_frames.specs.Missing as frames
use Rattle.kn_frames.proofs.MissingBytes.{fewer_bytes, as_many_bytes}
use Rattle.kn_h2_state.specs.declared.state.State.{State}
use Rattle.kn_h2_state.specs.Feeding.{Connection, after_frame, after_frames, after_fault, after_piece}
use Rattle.kn_h2.specs.Missing.{missing, FewerChangeNothing, AsManyBringOne}

-- a connection that has failed stays as it is
failed_stays : (s : State) (fault : Option FrameFault) → is_some s.failed ≡ true → after_fault s fault ≡ s
failed_stays s None h = refl
failed_stays s (Some fault) h = rw h

missing_going : (c : Connection) → is_some c.state.failed ≡ false → missing c ≡ frames.missing c.cutter
unfolding missing
missing_going c h = rw h

piece_going : (c : Connection) (piece : List ℕ) → is_some c.state.failed ≡ false →
    (after_piece c piece).state ≡ after_fault (after_frames c.state (frames_in c.cutter piece)) (fault_in (after_bytes c.cutter piece).phase)
unfolding after_piece
piece_going c piece h = rw h

piece_failed : (c : Connection) (piece : List ℕ) → is_some c.state.failed ≡ true → (after_piece c piece).state ≡ c.state
unfolding after_piece
piece_failed c piece h = rw h

no_frames : (s : State) (fs : List Frame) → fs ≡ [] → after_frames s fs ≡ s
unfolding after_frames
no_frames s fs e = rw e

one_frame : (s : State) (f : Frame) (fs : List Frame) → fs ≡ f ∷ [] → after_frames s fs ≡ after_frame s f
unfolding after_frames
one_frame s f fs e = rw e

no_fault : (s : State) (fault : Option FrameFault) → fault ≡ None → after_fault s fault ≡ s
no_fault s fault e = rw e

pub fewer_change_nothing : FewerChangeNothing
fewer_change_nothing c piece h = elim (cases_Bool (is_some c.state.failed)) [
  | inl failed ↦ piece_failed c piece failed ∙ sym (failed_stays c.state (fault_in (after_bytes c.cutter piece).phase) failed)
  | inr going ↦
      let l : length piece < frames.missing c.cutter = omega (arith, missing_going c going, h) in
      piece_going c piece going ∙ ap (λ s. after_fault s (fault_in (after_bytes c.cutter piece).phase)) (no_frames c.state (frames_in c.cutter piece) (fewer_bytes c.cutter piece l))
]

-- at most one frame comes with the end of what was under way
abbrev OneAtMost : List Frame → Type 0
OneAtMost fs = (fs ≡ []) ⊎ ((f : Frame) × (fs ≡ f ∷ []))

one_at_most : (p : Phase) (bytes : List ℕ) (offset : ℕ) (after : Reading) (fs : List Frame) → Ended p bytes offset after fs → OneAtMost fs
one_at_most InPreface bytes offset after fs h = inl h.1
one_at_most InFrames bytes offset after fs (inl h) = inl h.2
one_at_most InFrames bytes offset after fs (inr h) = inr (_, h.1)
one_at_most (Failed fault) bytes offset after fs h = inl h

pub as_many_bring_one : AsManyBringOne
as_many_bring_one c piece going some l well =
    let e : length piece ≡ frames.missing c.cutter = l ∙ missing_going c going in
    let fs = frames_in c.cutter piece in
    let fault = fault_in (after_bytes c.cutter piece).phase in
    let end = as_many_bytes c.cutter piece some e well in
    let same = piece_going c piece going in
    elim (one_at_most c.cutter.phase _ _ _ fs end) [
      | inl none ↦ inl (none, same ∙ no_fault _ fault well ∙ no_frames c.state fs none)
      | inr one ↦ inr (one.0, one.1, same ∙ no_fault _ fault well ∙ one_frame c.state one.0 fs one.1)
    ]
