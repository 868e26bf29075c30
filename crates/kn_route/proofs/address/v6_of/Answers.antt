use Rattle.std.proofs.Common.{sym, ◌∙◌}
use Rattle.kn_route.proofs.AddressLemmas.{v6_in-complete, v6_in-none, ipv6_bits-number}
use Rattle.kn_route.proofs.address.v6_of.Goals as goal

pub returns-in-Ok : goal.returns-in-Ok
returns-in-Ok c =
    sym (v6_in-complete _ _ (_, c.in-Ok.ensures.value, c.to_bits.ensures ∙ ipv6_bits-number _ _ c.in-Ok.ensures.value))

pub returns-in-Err : goal.returns-in-Err
returns-in-Err c = v6_in-none _ c.in-Err.ensures.value
