use Rattle.std.proofs.Common.{sym, ◌∙◌}
use Rattle.kn_server_core.proofs.SoundLemmas.{dial_stands}
use Rattle.kn_server_core.proofs.link_packets.awaited_reply.Goals as goal

pub tunnel_opened-requires-clause-awaited : goal.tunnel_opened-requires-clause-awaited
tunnel_opened-requires-clause-awaited c = dial_stands c.args.link _ c.args.state.now.awaited c.in-Some.entry (sym c.awaited_by.ensures ∙ c.in-Some.is)
