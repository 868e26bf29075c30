use Rattle.std.proofs.Common.{refl, w64, SFits, rules}
use Rattle.std.proofs.Math.Facts.{to_z-of_z}
use Rattle.kn_edge_core.proofs.SoundLemmas.{dial_added}
use Rattle.kn_edge_core.proofs.agent_changes.add_dial.Goals as goal

pub returns-clause-sound : goal.returns-clause-sound
returns-clause-sound c =
    let f : SFits w64 c.args.random.now = search rules in
    let added = rw (to_z-of_z {w = w64} {z = c.args.random.now} f) at c.in_ok-insert.ensures.ok in
    dial_added c.args.state.now _ c.requires.sound (record { ticket = c.args.state.now.next_ticket; random = c.args.random.now }) refl c.requires.left added refl refl refl
