use Rattle.std.proofs.Common.{sym, ◌∙◌}
use Rattle.kn_server_node.proofs.NoteLemmas.{streams_none, door_none}
use Rattle.kn_server_node.proofs.settling.end_has.Goals as goal

pub returns-in-Streams : goal.returns-in-Streams
returns-in-Streams c = λ none s. streams_none c.args.end.now _ _ c.as_slice.result.now c.in-Streams.is c.as_slice.ensures (λ t. c.any_has.ensures none t) s

pub returns-in-Connect : goal.returns-in-Connect
returns-in-Connect c = λ none s. door_none c.args.end.now _ c.in-Connect.is (sym c.has_early.ensures ∙ none) s
