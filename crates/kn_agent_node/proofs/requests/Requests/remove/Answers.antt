use Rattle.std.proofs.Common.{rules}
use Rattle.std.proofs.lemmas.Fn.{filter_same}
use Rattle.kn_agent_node.specs.Waiting.{is_other_dial}
use Rattle.kn_agent_node.proofs.requests.Requests.remove.Goals as goal

pub returns : goal.returns
returns c = rw (← c.self.view_is) (filter_same _ (is_other_dial c.args.ticket) _ (λ x b f' k. search rules) _ _ c.retain.ensures.filtered)
