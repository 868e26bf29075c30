use Rattle.std.proofs.Common.{sym, ◌∙◌}
use Rattle.kn_server_core.proofs.SoundLemmas.{held_below}
use Rattle.kn_server_core.proofs.link_packets.data_down.Goals as goal

pub open_down-requires : goal.open_down-requires
open_down-requires c = held_below c.args.state.now c.requires _ c.in-Some.entry (sym c.find.ensures ∙ c.in-Some.is)
