use Rattle.std.proofs.Common.{ap, ◌∙◌}
use Rattle.kn_agent_node.specs.Steps.{events_of, heard}
use Rattle.kn_agent_node.proofs.StepLemmas.{hear_reaches}
use Rattle.kn_agent_node.proofs.settling.hear_next.Goals as goal

pub returns-in_ok-heard-in-Some-clause-made : goal.returns-in_ok-heard-in-Some-clause-made
returns-in_ok-heard-in-Some-clause-made c =
    hear_reaches c.args.node.now c.heard.new.node c.in-Some.event (events_of c.next_event.new.node) c.requires.followed c.in-Some.ensures.0
    (c.in_ok-heard-in-Some.ensures ∙ ap (λ n. heard c.in-Some.event n) c.in-Some.ensures.1)
