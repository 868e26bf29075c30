use Rattle.std.proofs.Common.{◌++◌, ap, ◌∙◌}
use Rattle.kn_frames.specs.Readers.{frames_in}
use Rattle.kn_h2.proofs.PieceLemmas.{read_whole, read_fault}
use Rattle.kn_h2.proofs.feeding.read.Goals as goal

pub returns-in-Ok-clause-after : goal.returns-in-Ok-clause-after
returns-in-Ok-clause-after c =
    let r = c.args.cutter.now in
    let piece = c.args.piece.now in
    read_whole r c.feed.new.self c.args.state.now c.on_frames.new.state piece c.as_slice.result.now c.requires.going c.in-Ok.ensures.read
    (c.as_slice.ensures.value ∙ c.in-Ok.ensures.frames ∙ ap (λ l. l ++ frames_in r piece) c.new-frames.ensures.items)
    c.in-Ok.ensures.fault c.in_ok-on_frames-in-Ok.ensures.after

pub returns-in-Err-Fault-clause-after : goal.returns-in-Err-Fault-clause-after
returns-in-Err-Fault-clause-after c =
    let r = c.args.cutter.now in
    let piece = c.args.piece.now in
    let cut = rw c.in-Err-Fault.field-0-is at c.in-Err-Fault.ensures.read in
    let whole = rw c.in-Err-Fault.field-0-is at c.in-Err-Fault.ensures.frames in
    let broke = rw c.in-Err-Fault.field-0-is at c.in-Err-Fault.ensures.fault in
    read_fault r c.feed.new.self c.args.state.now c.on_frames-in-Err-Fault.new.state c.on_fault.new.state piece c.as_slice-in-Err-Fault.result.now c.in-Err-Fault.fault
    c.requires.going cut (c.as_slice-in-Err-Fault.ensures.value ∙ whole ∙ ap (λ l. l ++ frames_in r piece) c.new-frames.ensures.items)
    broke c.in_ok-on_frames-in-Err-Fault.ensures.after c.in_ok-on_fault-in-Err-Fault.ensures.after
