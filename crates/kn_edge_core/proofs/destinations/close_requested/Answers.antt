use Rattle.std.proofs.Common.{sym, refl, ◌∙◌}
use Rattle.kn_edge_core.proofs.SoundLemmas.{connection_stands}
use Rattle.kn_edge_core.proofs.destinations.close_requested.Goals as goal

pub close_open-requires-clause-there : goal.close_open-requires-clause-there
close_open-requires-clause-there c =
    let found = sym c.find.ensures ∙ c.in-Some.is in
    let stands = connection_stands c.args.connect_id.now c.args.state.now.connections c.in-Some.connection found in
    rw stands refl
