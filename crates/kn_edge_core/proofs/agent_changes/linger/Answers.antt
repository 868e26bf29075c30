use Rattle.std.proofs.Common.{refl}
use Rattle.kn_edge_core.specs.declared.connection.DestState.TheVariants.{Lingering}
use Rattle.kn_edge_core.specs.AgentTables.{turned}
use Rattle.kn_edge_core.proofs.SoundLemmas.{connection_kept}
use Rattle.kn_edge_core.proofs.agent_changes.linger.Goals as goal

pub returns-clause-sound : goal.returns-clause-sound
returns-clause-sound c = connection_kept c.args.state.now _ c.requires.sound c.args.number (turned Lingering) (λ x. refl) c.linger.ensures refl refl refl
