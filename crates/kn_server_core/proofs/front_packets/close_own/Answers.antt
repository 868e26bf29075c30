use Rattle.std.proofs.Common.{refl, rules, true, SFits, w64}
use Rattle.std.proofs.Math.Facts.{to_z-of_z}
use Rattle.kn_server_core.proofs.SoundLemmas.{closed_held}
use Rattle.kn_server_core.proofs.front_packets.close_own.Goals as goal

pub returns-in-Open-clause-sound : goal.returns-in-Open-clause-sound
returns-in-Open-clause-sound c =
    let f : SFits w64 c.args.entry.connect_id = search rules in
    let closed = rw (to_z-of_z {w = w64} {z = c.args.entry.connect_id} f) at c.close.ensures in
    closed_held c.args.state.now _ c.requires.sound c.args.entry.link c.args.entry.connect_id true refl refl closed
