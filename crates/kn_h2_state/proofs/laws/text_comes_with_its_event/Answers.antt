use Rattle.kn_h2_state.proofs.BroughtLaws.{frames_bring_text, pieces_bring_text}
use Rattle.kn_h2_state.proofs.laws.text_comes_with_its_event.Goals as goal

pub returns-clause-frames : goal.returns-clause-frames
returns-clause-frames c = frames_bring_text

pub returns-clause-pieces : goal.returns-clause-pieces
returns-clause-pieces c = pieces_bring_text
