use Rattle.std.proofs.Common.{refl}
use Rattle.kn_tables.specs.Awaiting.{is_dial}
use Rattle.kn_server_core.proofs.SoundLemmas.{fewer_awaited}
use Rattle.kn_server_core.proofs.link_packets.dial_failed.Goals as goal

pub returns-in_err-error-clause-sound : goal.returns-in_err-error-clause-sound
returns-in_err-error-clause-sound c = fewer_awaited c.args.state.now _ c.requires (is_dial c.args.entry.dial) refl c.remove.ensures.left refl

pub returns-clause-sound : goal.returns-clause-sound
returns-clause-sound c = fewer_awaited c.args.state.now _ c.requires (is_dial c.args.entry.dial) refl c.remove.ensures.left refl
