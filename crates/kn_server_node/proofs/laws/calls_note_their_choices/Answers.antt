-- Each step is gone through.
use Rattle.kn_server_node.proofs.ChoiceLemmas.{calls_note}
use Rattle.kn_server_node.proofs.laws.calls_note_their_choices.Goals as goal

pub returns : goal.returns
returns c = calls_note
