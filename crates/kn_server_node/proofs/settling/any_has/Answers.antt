use Rattle.std.proofs.Common.{sym, ◌∙◌}
use Rattle.kn_server_node.proofs.NoteLemmas.{any_none}
use Rattle.kn_server_node.proofs.settling.any_has.Goals as goal

pub returns : goal.returns
returns c = λ none s. any_none c.args.inlets.now (sym c.any_in.ensures ∙ none) s
