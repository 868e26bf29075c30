use Rattle.kn_route.proofs.RangeLemmas.{bits_in-unlike}
use Rattle.kn_route.proofs.address.bits_of.Goals as goal

pub returns-else-is_plain : goal.returns-else-is_plain
returns-else-is_plain c = rw (← c.as_bytes.ensures.value) (bits_in-unlike _ c.if-is_plain.ensures)
