use Rattle.std.proofs.Common.{refl}
use Rattle.kn_edge_core.specs.ClientTables.{lingering}
use Rattle.kn_edge_core.proofs.SoundLemmas.{app_kept}
use Rattle.kn_edge_core.proofs.client_changes.linger_app.Goals as goal

pub returns-clause-sound : goal.returns-clause-sound
returns-clause-sound c = app_kept c.args.state.now _ c.requires.sound c.args.number (lingering c.args.error) (λ x. refl) c.linger.ensures refl
