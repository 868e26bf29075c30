use Rattle.std.proofs.Common.{◌++◌, take, drop, get_or, arith, sym, ap, ◌∙◌}
use Rattle.std.proofs.lemmas.List.{append-nil, take-append-drop}
use Rattle.kn_frames.specs.Readers.{after_byte, after_bytes, frames_in, fault_in}
use Rattle.kn_frames.specs.Cutters.{seen}
use Rattle.kn_frames.proofs.Pieces.{leaves_rest, first_byte, first_fails, failed_reading, no_frame}
use Rattle.kn_frames.proofs.steps.step.Goals as goal

pub returns-in-Ok-clause-takes : goal.returns-in-Ok-clause-takes
returns-in-Ok-clause-takes c =
    let old = seen c.args.state.now in
    let new = seen c.preface_byte.new.state in
    let p = c.args.piece.now in
    let before = c.args.frames.now.items in
    let e = c.in-Ok.ensures in
    let next = after_byte old (get_or p 0 0) in
    let r = leaves_rest old next p (take 1 p) (drop 1 p) before _ (sym (take-append-drop 1 p)) (first_byte old p c.requires.piece) in
    let none = no_frame old (get_or p 0 0) c.in-InPreface.is in (
      omega arith,
      omega (arith, c.requires.piece),
      ap (λ q. after_bytes q (drop 1 p)) e.state ∙ r.state,
      ap (λ q. before ++ frames_in q (drop 1 p)) e.state ∙ ap (λ g. g ++ frames_in next (drop 1 p)) (sym (append-nil before) ∙ ap (λ g. before ++ g) (sym none)) ∙ r.frames,
      sym e.fault,
    )

pub returns-in-Err-Fault-clause-takes : goal.returns-in-Err-Fault-clause-takes
returns-in-Err-Fault-clause-takes c =
    let old = seen c.args.state.now in
    let p = c.args.piece.now in
    let before = c.args.frames.now.items in
    let state = rw c.in-Err-Fault.field-0-is at c.in-Err-Fault.ensures.state in
    let fault = rw c.in-Err-Fault.field-0-is at c.in-Err-Fault.ensures.fault in
    let r = first_fails old p c.in-Err-Fault.fault c.requires.piece (ap (λ q. fault_in q.phase) (sym state) ∙ sym fault) in
    let none = no_frame old (get_or p 0 0) c.in-InPreface.is in
    (state ∙ sym r.after, sym (append-nil before) ∙ ap (λ g. before ++ g) (sym none ∙ sym r.frames), sym fault)

pub returns-in-Failed-clause-takes : goal.returns-in-Failed-clause-takes
returns-in-Failed-clause-takes c =
    let old = seen c.args.state.now in
    let p = c.args.piece.now in
    let before = c.args.frames.now.items in
    let r = failed_reading old p c.in-Failed.fault (ap fault_in c.in-Failed.is) in
    (sym r.after, sym (append-nil before) ∙ ap (λ g. before ++ g) (sym r.frames), ap fault_in c.in-Failed.is)
