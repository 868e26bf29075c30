-- Frames one behind the other, and pieces of what is on its way.
use Rattle.std.proofs.Common.{◌≡◌, ℕ, List, [], ◌∷◌, ◌++◌, Option, None, is_some, refl, sym, ap, ◌∙◌, subst, append_assoc, if◌then◌else◌}
use Rattle.kn_frames.specs.declared.fault.FrameFault.{FrameFault}
use Rattle.kn_frames.specs.declared.fault.Phase.{Phase}
use Rattle.kn_frames.specs.declared.fault.Phase.TheVariants.{InPreface, InFrames, Failed}
use Rattle.kn_frames.specs.Readers.{Reading, in_frames, after_byte, after_byte_in, after_bytes, frames_in, fault_in}
use Rattle.kn_h2_state.specs.Feeding.{Connection, after_frame, after_frames, after_fault, after_piece}
use Rattle.kn_h2_state.specs.Preorder.{Accepts, MoreIsAccepted}
use Rattle.kn_h2_state.specs.Wire.{IsBetweenFrames}
use Rattle.kn_h2_state.proofs.PieceLaws.{bytes-append, frames-append}
use Rattle.kn_facing.specs.Ways.{wire}
use Rattle.kn_facing.specs.Laws.{AcceptsJoin, AcceptsPart, NoFaultBefore, ReadsOn, OwnStepsTake}

pub accepts_join : AcceptsJoin
unfolding Accepts after_frames
accepts_join s [] gs a b = b
accepts_join s (f ∷ fs) gs a b = (a.0, accepts_join (after_frame s f) fs gs a.1 b)

pub accepts_part : AcceptsPart
unfolding Accepts after_frames
accepts_part s [] gs a = (tt, a)
accepts_part s (f ∷ fs) gs a = let rest = accepts_part (after_frame s f) fs gs a.1 in ((a.0, rest.0), rest.1)

-- ---- a reader that has failed stays so

failed_byte : (r : Reading) (x : ℕ) (fault : FrameFault) → r.phase ≡ Failed fault → after_byte r x ≡ r
unfolding after_byte
failed_byte r x fault e = subst (λ (p : Phase). after_byte_in p r x ≡ r) (sym e) refl

failed_bytes : (r : Reading) (xs : List ℕ) (fault : FrameFault) → r.phase ≡ Failed fault → after_bytes r xs ≡ r
failed_bytes r [] fault e = refl
failed_bytes r (x ∷ xs) fault e = ap (λ (s : Reading). after_bytes s xs) (failed_byte r x fault e) ∙ failed_bytes r xs fault e

-- where it stands between two frames in the end, it had not failed before
no_fault : (r : Reading) (xs : List ℕ) → IsBetweenFrames (after_bytes r xs) → fault_in r.phase ≡ None
no_fault r xs between = by_phase r.phase refl
  where
    by_phase : (p : Phase) → r.phase ≡ p → fault_in r.phase ≡ None
    by_phase InPreface e = ap fault_in e
    by_phase InFrames e = ap fault_in e
    by_phase (Failed fault) e =
        let stuck : r ≡ in_frames [] between.0 = sym (failed_bytes r xs fault e) ∙ between.1 in
        let both : Failed fault ≡ InFrames = sym e ∙ ap (λ (s : Reading). s.phase) stuck in
        absurd cc

pub no_fault_before : NoFaultBefore
no_fault_before w piece rest cut whole =
    let out : List ℕ = w.from.state.out.bytes in
    let all : after_bytes w.to.cutter (wire w) ≡ after_bytes (after_bytes w.to.cutter piece) (rest ++ out) =
    ap (λ (l : List ℕ). after_bytes w.to.cutter (l ++ out)) cut ∙ (ap (λ (l : List ℕ). after_bytes w.to.cutter l) (append_assoc piece rest out) ∙ bytes-append w.to.cutter piece (rest ++ out)) in
    no_fault (after_bytes w.to.cutter piece) (rest ++ out) (subst IsBetweenFrames all whole)

-- ---- a piece that comes

pub piece_on : (c : Connection) (piece : List ℕ) → c.state.failed ≡ None
    → after_piece c piece ≡ record { cutter = after_bytes c.cutter piece; state = after_fault (after_frames c.state (frames_in c.cutter piece)) (fault_in (after_bytes c.cutter piece).phase) }
unfolding after_piece
piece_on c piece e = subst (λ (o : Option ℕ). (if is_some o then c else record { cutter = after_bytes c.cutter piece; state = after_fault (after_frames c.state (frames_in c.cutter piece)) (fault_in (after_bytes c.cutter piece).phase) })
    ≡ record { cutter = after_bytes c.cutter piece; state = after_fault (after_frames c.state (frames_in c.cutter piece)) (fault_in (after_bytes c.cutter piece).phase) }) (sym e) refl

pub reads_on : ReadsOn
reads_on w piece rest cut on =
    let out : List ℕ = w.from.state.out.bytes in
    ap (λ (l : List ℕ). frames_in w.to.cutter (l ++ out)) cut
    ∙ (ap (λ (l : List ℕ). frames_in w.to.cutter l) (append_assoc piece rest out)
    ∙ (frames-append w.to.cutter piece (rest ++ out)
    ∙ ap (λ (c : Connection). frames_in w.to.cutter piece ++ frames_in c.cutter (rest ++ out)) (sym (piece_on w.to piece on))))

-- ---- own steps

pub own_steps_take : MoreIsAccepted → OwnStepsTake
own_steps_take more s t fs holds_s holds_t hears room_s room_t accepts = let its = more s t fs holds_s holds_t hears room_s room_t accepts in record { accepts = its.accepts; more = its.more }
