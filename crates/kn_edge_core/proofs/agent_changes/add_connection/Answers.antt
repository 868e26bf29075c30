use Rattle.std.proofs.Common.{refl}
use Rattle.kn_edge_core.specs.declared.connection.DestState.TheVariants.{Open}
use Rattle.kn_edge_core.proofs.SoundLemmas.{connection_added}
use Rattle.kn_edge_core.proofs.agent_changes.add_connection.Goals as goal

pub returns-clause-sound : goal.returns-clause-sound
returns-clause-sound c = connection_added c.args.state.now _ c.requires.sound (record { connect_id = c.args.state.now.next_connect_id; state = Open; unwritten = 0 }) refl c.requires.left c.in_ok-insert.ensures.ok refl refl refl
