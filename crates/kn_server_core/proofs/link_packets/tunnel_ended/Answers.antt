use Rattle.std.proofs.Common.{refl, w64}
use Rattle.std.proofs.Math.Facts.{to_z-of_z}
use Rattle.kn_tables.specs.Holding.{is_held}
use Rattle.kn_server_core.proofs.SoundLemmas.{fewer_held}
use Rattle.kn_server_core.proofs.link_packets.tunnel_ended.Goals as goal

pub returns-in_err-error-clause-sound : goal.returns-in_err-error-clause-sound
returns-in_err-error-clause-sound c =
    let left = rw (to_z-of_z {w = w64} {z = c.args.connect_id} c.ranges.connect_id) at c.remove.ensures.left in
    fewer_held c.args.state.now _ c.requires.sound (is_held c.args.link c.args.connect_id) refl refl left

pub returns-clause-sound : goal.returns-clause-sound
returns-clause-sound c =
    let left = rw (to_z-of_z {w = w64} {z = c.args.connect_id} c.ranges.connect_id) at c.remove.ensures.left in
    fewer_held c.args.state.now _ c.requires.sound (is_held c.args.link c.args.connect_id) refl refl left
