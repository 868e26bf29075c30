use Rattle.kn_server_node.proofs.NoteLemmas.{none_has}
use Rattle.kn_server_node.proofs.settling.has_front.Goals as goal

pub returns-in-Some : goal.returns-in-Some
returns-in-Some c = λ none s. rw c.in-Some.ensures (c.end_has.ensures none s)

pub returns-in-None : goal.returns-in-None
returns-in-None c = λ none s. rw c.in-None.ensures (none_has s)
