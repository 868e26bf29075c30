use Rattle.std.proofs.Common.{◌∙◌}
use Rattle.kn_route.proofs.RangeLemmas.{range_in-complete, IfSome-range_in}
use Rattle.kn_route.proofs.address.range_of.Goals as goal

pub returns-clause-spelled : goal.returns-clause-spelled
returns-clause-spelled c = IfSome-range_in _ _ c.read_range.ensures

pub returns-clause-only : goal.returns-clause-only
returns-clause-only c = λ a h. c.read_range.ensures ∙ range_in-complete _ a h
