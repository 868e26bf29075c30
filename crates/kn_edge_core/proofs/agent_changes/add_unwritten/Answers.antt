use Rattle.std.proofs.Common.{refl}
use Rattle.kn_edge_core.specs.AgentTables.{with_more}
use Rattle.kn_edge_core.proofs.SoundLemmas.{connection_kept}
use Rattle.kn_edge_core.proofs.agent_changes.add_unwritten.Goals as goal

pub returns-clause-sound : goal.returns-clause-sound
returns-clause-sound c = connection_kept c.args.state.now _ c.requires.sound c.args.number (with_more c.args.count) (λ x. refl) c.add_unwritten.ensures refl refl refl
