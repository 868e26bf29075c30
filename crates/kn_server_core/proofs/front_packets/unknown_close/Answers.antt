use Rattle.std.proofs.Common.{w64}
use Rattle.std.proofs.Math.Facts.{to_z-of_z}
use Rattle.kn_server_core.proofs.front_packets.unknown_close.Goals as goal

pub returns : goal.returns
returns c = rw (to_z-of_z {w = w64} {z = c.args.connect_id} c.ranges.connect_id) at c.refuse_close.ensures
