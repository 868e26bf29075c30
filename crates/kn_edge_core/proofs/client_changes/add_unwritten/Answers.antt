use Rattle.std.proofs.Common.{refl}
use Rattle.kn_edge_core.specs.ClientTables.{with_more}
use Rattle.kn_edge_core.proofs.SoundLemmas.{app_kept}
use Rattle.kn_edge_core.proofs.client_changes.add_unwritten.Goals as goal

pub returns-clause-sound : goal.returns-clause-sound
returns-clause-sound c = app_kept c.args.state.now _ c.requires.sound c.args.number (with_more c.args.count) (λ x. refl) c.add_unwritten.ensures refl
