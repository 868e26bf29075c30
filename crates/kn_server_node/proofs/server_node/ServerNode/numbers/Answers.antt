use Rattle.kn_server_node.proofs.TopLemmas.{gone_answers}
use Rattle.kn_server_node.proofs.server_node.ServerNode.numbers.Goals as goal

pub returns-clause-others : goal.returns-clause-others
returns-clause-others c = λ n none. rw (← c.self.view_is) (gone_answers c.self.inside.node n (c.numbers.ensures.others n none))
