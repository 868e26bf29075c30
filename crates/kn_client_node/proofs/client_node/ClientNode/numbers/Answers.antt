use Rattle.kn_client_node.proofs.OtherLemmas.{others_rest}
use Rattle.kn_client_node.proofs.client_node.ClientNode.numbers.Goals as goal

pub returns-clause-others : goal.returns-clause-others
returns-clause-others c = rw (← c.self.view_is) (λ n absent other. others_rest c.self.inside.node n (c.holds.ensures.others n (rw (← c.numbers.ensures) absent)) other)
