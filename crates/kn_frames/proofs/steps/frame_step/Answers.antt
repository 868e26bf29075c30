use Rattle.std.proofs.Common.{◌++◌, sym, ap, ◌∙◌}
use Rattle.kn_frames.specs.Readers.{fault_in}
use Rattle.kn_frames.specs.Cutters.{seen}
use Rattle.kn_frames.proofs.Pieces.{first_fails}
use Rattle.kn_frames.proofs.steps.frame_step.Goals as goal

pub returns-in-Err-Fault-clause-takes : goal.returns-in-Err-Fault-clause-takes
returns-in-Err-Fault-clause-takes c =
    let state = rw c.in-Err-Fault.field-0-is at c.in-Err-Fault.ensures.state in
    let frames = rw c.in-Err-Fault.field-0-is at c.in-Err-Fault.ensures.frames in
    let fault = rw c.in-Err-Fault.field-0-is at c.in-Err-Fault.ensures.fault in
    let r = first_fails (seen c.args.state.now) c.args.piece.now c.in-Err-Fault.fault c.requires.piece (ap (λ q. fault_in q.phase) (sym state) ∙ sym fault) in
    (state ∙ sym r.after, frames ∙ ap (λ g. c.args.frames.now.items ++ g) (sym r.frames), sym fault)
