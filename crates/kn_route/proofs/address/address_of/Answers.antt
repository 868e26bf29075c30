use Rattle.std.proofs.Common.{◌∙◌}
use Rattle.kn_route.proofs.AddressLemmas.{address_in-complete, IfSome-address_in}
use Rattle.kn_route.proofs.address.address_of.Goals as goal

pub returns-clause-spelled : goal.returns-clause-spelled
returns-clause-spelled c = IfSome-address_in _ _ c.read_address.ensures

pub returns-clause-only : goal.returns-clause-only
returns-clause-only c = λ a h. c.read_address.ensures ∙ address_in-complete _ a h
