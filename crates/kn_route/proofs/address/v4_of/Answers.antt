use Rattle.std.proofs.Common.{sym, ◌∙◌}
use Rattle.kn_route.proofs.AddressLemmas.{v4_in-complete, v4_in-none, ipv4_bits-number}
use Rattle.kn_route.proofs.address.v4_of.Goals as goal

pub returns-in-Ok : goal.returns-in-Ok
returns-in-Ok c =
    sym (v4_in-complete _ _ (_, c.in-Ok.ensures.value, c.to_bits.ensures ∙ ipv4_bits-number _ _ c.in-Ok.ensures.value))

pub returns-in-Err : goal.returns-in-Err
returns-in-Err c = v4_in-none _ c.in-Err.ensures.value
