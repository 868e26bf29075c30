use Rattle.std.proofs.Common.{sym, ◌∙◌}
use Rattle.kn_agent_node.proofs.StepLemmas.{handle_reaches}
use Rattle.kn_agent_node.proofs.settling.handle_next.Goals as goal

pub returns-in_ok-handle-in-Some-clause-made : goal.returns-in_ok-handle-in-Some-clause-made
returns-in_ok-handle-in-Some-clause-made c =
    handle_reaches c.args.node.now c.handle.new.node c.in-Some.arrival c.requires.followed c.requires.heard (sym c.in_ok-arrival.ensures ∙ c.in-Some.is) c.in_ok-handle-in-Some.ensures
