use Rattle.std.proofs.Common.{refl}
use Rattle.kn_edge_core.proofs.SoundLemmas.{dial_gone}
use Rattle.kn_edge_core.proofs.agent_changes.end_dial.Goals as goal

pub returns-clause-sound : goal.returns-clause-sound
returns-clause-sound c = dial_gone c.args.state.now _ c.requires c.args.ticket c.remove.ensures refl refl refl
