use Rattle.std.proofs.Common.{refl}
use Rattle.kn_world.proofs.arrivals.refuse.Goals as goal

pub returns : goal.returns
returns c = rw (c.end.ensures, c.in_ok-error.ensures) refl
