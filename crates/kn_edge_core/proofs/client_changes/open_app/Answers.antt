use Rattle.std.proofs.Common.{refl}
use Rattle.kn_edge_core.specs.ClientTables.{opened}
use Rattle.kn_edge_core.proofs.SoundLemmas.{app_kept}
use Rattle.kn_edge_core.proofs.client_changes.open_app.Goals as goal

pub returns-clause-sound : goal.returns-clause-sound
returns-clause-sound c = app_kept c.args.state.now _ c.requires.sound c.args.number (opened c.args.connect_id.now) (λ x. refl) c.in_ok-open.ensures.ok refl
