use Rattle.kn_facing.proofs.WireLemmas.{writes_behind, enters_alike}
use Rattle.kn_facing.proofs.laws.wires_carry_frames.Goals as goal

pub returns : goal.returns
returns c = record { writes = writes_behind c.written_is_read.ensures; enters = enters_alike }
