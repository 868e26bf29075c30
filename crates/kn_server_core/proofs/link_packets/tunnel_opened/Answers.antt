use Rattle.std.proofs.Common.{refl}
use Rattle.kn_tables.specs.Awaiting.{is_dial}
use Rattle.kn_server_core.proofs.SoundLemmas.{fewer_awaited, opened}
use Rattle.kn_server_core.proofs.link_packets.tunnel_opened.Goals as goal

pub returns-in_err-insert-clause-sound : goal.returns-in_err-insert-clause-sound
returns-in_err-insert-clause-sound c = fewer_awaited c.args.state.now _ c.requires.sound (is_dial c.args.entry.dial) refl c.remove.ensures.left c.in_err-insert.ensures.err

pub returns-clause-sound : goal.returns-clause-sound
returns-clause-sound c = opened c.args.state.now _ c.requires.sound c.args.entry c.requires.awaited refl c.remove.ensures.left c.remove.ensures.gone _ c.in_ok-insert.ensures.ok refl
