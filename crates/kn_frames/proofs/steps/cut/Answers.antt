use Rattle.std.proofs.Common.{◌++◌, sym, ap, ◌∙◌}
use Rattle.std.proofs.lemmas.List.{append-nil}
use Rattle.kn_frames.specs.Readers.{fault_in}
use Rattle.kn_frames.specs.Cutters.{seen}
use Rattle.kn_frames.proofs.Pieces.{failed_reading}
use Rattle.kn_frames.proofs.steps.cut.Goals as goal

pub returns-in-Failed-clause-read : goal.returns-in-Failed-clause-read
returns-in-Failed-clause-read c = sym (failed_reading (seen c.args.state.now) c.args.piece.now c.in-Failed.fault (ap fault_in c.in-Failed.is)).after

pub returns-in-Failed-clause-frames : goal.returns-in-Failed-clause-frames
returns-in-Failed-clause-frames c =
    let before = c.args.frames.now.items in
    sym (append-nil before) ∙ ap (λ g. before ++ g) (sym (failed_reading (seen c.args.state.now) c.args.piece.now c.in-Failed.fault (ap fault_in c.in-Failed.is)).frames)
