use Rattle.std.proofs.Common.{refl}
use Rattle.kn_edge_core.proofs.SoundLemmas.{app_gone}
use Rattle.kn_edge_core.proofs.client_changes.remove_app.Goals as goal

pub returns-clause-sound : goal.returns-clause-sound
returns-clause-sound c = app_gone c.args.state.now _ c.requires c.args.number c.remove.ensures.left refl
