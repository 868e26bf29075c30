use Rattle.kn_route.proofs.RangeLemmas.{bits_in-parsed, bits_in-refused}
use Rattle.kn_route.proofs.address.byte_of.Goals as goal

pub returns-in-Ok : goal.returns-in-Ok
returns-in-Ok c = bits_in-parsed _ _ c.requires c.in-Ok.ensures.value.0

pub returns-in-Err : goal.returns-in-Err
returns-in-Err c = bits_in-refused _ c.requires c.in-Err.ensures.value.0
