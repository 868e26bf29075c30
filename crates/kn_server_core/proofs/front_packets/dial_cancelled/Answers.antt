use Rattle.std.proofs.Common.{refl}
use Rattle.kn_tables.specs.Awaiting.{is_dial}
use Rattle.kn_server_core.proofs.SoundLemmas.{fewer_awaited}
use Rattle.kn_server_core.proofs.front_packets.dial_cancelled.Goals as goal

pub returns-in-Some-clause-sound : goal.returns-in-Some-clause-sound
returns-in-Some-clause-sound c = fewer_awaited c.args.state.now _ c.requires (is_dial c.in-Some.entry.dial) refl c.remove.ensures.left refl
