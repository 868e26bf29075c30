use Rattle.std.proofs.Common.{refl}
use Rattle.kn_edge_core.proofs.SoundLemmas.{connection_gone}
use Rattle.kn_edge_core.proofs.agent_changes.end_connection.Goals as goal

pub returns-clause-sound : goal.returns-clause-sound
returns-clause-sound c = connection_gone c.args.state.now _ c.requires c.args.number c.remove.ensures refl refl refl
