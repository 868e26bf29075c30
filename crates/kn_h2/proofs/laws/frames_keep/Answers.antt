use Rattle.kn_h2.proofs.FrameBounds.{holds_after_frame}
use Rattle.kn_h2.proofs.laws.frames_keep.Goals as goal

pub returns : goal.returns
returns c = λ s f h limits. holds_after_frame s f h limits
