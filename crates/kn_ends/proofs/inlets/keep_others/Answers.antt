use Rattle.std.proofs.Common.{rules}
use Rattle.std.proofs.lemmas.Fn.{filter_same}
use Rattle.kn_ends.specs.Numbers.{is_other}
use Rattle.kn_ends.proofs.InletLemmas.{stream_of}
use Rattle.kn_ends.proofs.inlets.keep_others.Goals as goal

pub returns : goal.returns
returns c = filter_same _ (is_other stream_of c.args.stream) _ (λ x b f' k. search rules) _ _ c.retain.ensures.filtered
