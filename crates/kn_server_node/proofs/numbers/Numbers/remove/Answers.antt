use Rattle.std.proofs.Common.{rules}
use Rattle.std.proofs.lemmas.Fn.{filter_same}
use Rattle.kn_server_node.specs.Noting.{is_another}
use Rattle.kn_server_node.proofs.numbers.Numbers.remove.Goals as goal

pub returns : goal.returns
returns c = rw (← c.self.view_is) (filter_same _ (is_another c.args.number) _ (λ x b f' k. search rules) _ _ c.retain.ensures.filtered)
