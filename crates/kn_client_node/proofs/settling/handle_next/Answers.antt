use Rattle.std.proofs.Common.{sym}
use Rattle.kn_client_node.proofs.StepLemmas.{handle_reaches}
use Rattle.kn_client_node.proofs.settling.handle_next.Goals as goal

pub returns-in_ok-handle_at-in-Some-clause-made : goal.returns-in_ok-handle_at-in-Some-clause-made
returns-in_ok-handle_at-in-Some-clause-made c =
    handle_reaches c.args.node.now c.handle_at.new.node c.in-Some.arrival c.requires.heard (sym (rw c.in-Some.is at c.in_ok-arrival.ensures)) c.in_ok-handle_at-in-Some.ensures
