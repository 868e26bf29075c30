use Rattle.kn_frames.proofs.Spellings.{spelled_on}
use Rattle.kn_frames.proofs.Written.{spelling_of}
use Rattle.kn_frames.proofs.laws.read_as_written.Goals as goal

pub returns-clause-spelling : goal.returns-clause-spelling
returns-clause-spelling c = spelling_of

pub returns-clause-frames : goal.returns-clause-frames
returns-clause-frames c kind flags stream offset payload low small = (spelled_on _ _ offset (spelling_of kind flags stream payload low small)).frames

pub returns-clause-state : goal.returns-clause-state
returns-clause-state c kind flags stream offset payload low small = (spelled_on _ _ offset (spelling_of kind flags stream payload low small)).after
