use Rattle.std.proofs.Common.{sym, ◌∙◌}
use Rattle.kn_edge_core.proofs.SoundLemmas.{connection_stands}
use Rattle.kn_edge_core.proofs.destinations.dest_wrote.Goals as goal

pub take_unwritten-requires-clause-there : goal.take_unwritten-requires-clause-there
take_unwritten-requires-clause-there c =
    let found = sym c.find.ensures ∙ c.in-Some.is in
    let stands = connection_stands c.args.connect_id.now c.args.state.now.connections c.in-Some.connection found in
    rw stands (rw found at c.requires.there)

pub linger_wrote-requires-clause-there : goal.linger_wrote-requires-clause-there
linger_wrote-requires-clause-there c =
    let found = sym c.find.ensures ∙ c.in-Some.is in
    let stands = connection_stands c.args.connect_id.now c.args.state.now.connections c.in-Some.connection found in
    rw stands (rw found at c.requires.there)
