use Rattle.std.proofs.Common.{rules, not}
use Rattle.std.proofs.lemmas.Fn.{filter_same}
use Rattle.kn_route.specs.LinkLists.{is_link}
use Rattle.kn_route.proofs.links.remove_link.Goals as goal

pub returns : goal.returns
returns c =
    filter_same _ (λ l. not (is_link c.args.number l)) _ (λ x b f' k. search rules) _ _
    c.retain.ensures.filtered
