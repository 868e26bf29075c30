use Rattle.kn_frames.proofs.Bytes.{after_bytes-append, frames_in-append}
use Rattle.kn_frames.proofs.laws.any_pieces.Goals as goal

pub returns-clause-state : goal.returns-clause-state
returns-clause-state c = after_bytes-append

pub returns-clause-frames : goal.returns-clause-frames
returns-clause-frames c = frames_in-append
