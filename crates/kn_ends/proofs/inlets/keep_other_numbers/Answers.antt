use Rattle.std.proofs.Common.{rules, not, eqb}
use Rattle.std.proofs.lemmas.Fn.{filter_same}
use Rattle.kn_ends.proofs.inlets.keep_other_numbers.Goals as goal

pub returns : goal.returns
returns c = filter_same _ (λ k. not (eqb k c.args.number)) _ (λ x b f' k. search rules) _ _ c.retain.ensures.filtered
