use Rattle.std.proofs.Common.{refl, pos, []}
use Rattle.kn_edge_core.specs.declared.app.AppState.TheVariants.{Dialling}
use Rattle.kn_edge_core.proofs.SoundLemmas.{app_added}
use Rattle.kn_edge_core.proofs.client_changes.add_app.Goals as goal

pub returns-clause-sound : goal.returns-clause-sound
returns-clause-sound c = app_added c.args.state.now _ c.requires.sound (record { number = c.args.number; state = Dialling; connect_id = pos 0; unwritten = 0; error = [] }) c.requires.next c.requires.low (rw c.new.ensures at c.in_ok-insert.ensures.ok) refl
