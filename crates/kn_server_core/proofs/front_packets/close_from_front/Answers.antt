use Rattle.std.proofs.Common.{sym, ◌∙◌}
use Rattle.kn_server_core.proofs.SoundLemmas.{own_stands}
use Rattle.kn_server_core.proofs.front_packets.close_from_front.Goals as goal

pub close_own-requires-clause-held : goal.close_own-requires-clause-held
close_own-requires-clause-held c = own_stands c.args.front _ c.args.state.now.held c.in-Some.entry (sym c.own.ensures ∙ c.in-Some.is)
