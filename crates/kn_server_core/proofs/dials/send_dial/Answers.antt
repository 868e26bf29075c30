use Rattle.std.proofs.Common.{refl}
use Rattle.kn_server_core.proofs.SoundLemmas.{drawn}
use Rattle.kn_server_core.proofs.dials.send_dial.Goals as goal

pub returns-in_err-push-clause-sound : goal.returns-in_err-push-clause-sound
returns-in_err-push-clause-sound c = drawn c.args.state.now _ c.requires.sound c.requires.left refl _ c.in_ok-insert.ensures.ok refl refl

pub returns-in_err-push-2-clause-sound : goal.returns-in_err-push-2-clause-sound
returns-in_err-push-2-clause-sound c = drawn c.args.state.now _ c.requires.sound c.requires.left refl _ c.in_ok-insert.ensures.ok refl refl

pub returns-clause-sound : goal.returns-clause-sound
returns-clause-sound c = drawn c.args.state.now _ c.requires.sound c.requires.left refl _ c.in_ok-insert.ensures.ok refl refl
