use Rattle.std.proofs.Common.{sym, ◌∙◌}
use Rattle.kn_server_core.proofs.SoundLemmas.{held_below}
use Rattle.kn_server_core.proofs.link_packets.end_came.Goals as goal

pub tunnel_ended-requires-clause-low : goal.tunnel_ended-requires-clause-low
tunnel_ended-requires-clause-low c = held_below c.args.state.now c.requires _ c.in-Some.entry (sym c.find.ensures ∙ c.in-Some.is)
