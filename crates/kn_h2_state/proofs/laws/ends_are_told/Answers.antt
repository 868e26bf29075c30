use Rattle.kn_h2_state.proofs.TellLaws.{frames_tell, calls_tell, moves_are_quiet}
use Rattle.kn_h2_state.proofs.laws.ends_are_told.Goals as goal

pub returns-clause-frames : goal.returns-clause-frames
returns-clause-frames c = frames_tell

pub returns-clause-calls : goal.returns-clause-calls
returns-clause-calls c = calls_tell

pub returns-clause-moves : goal.returns-clause-moves
returns-clause-moves c = moves_are_quiet
