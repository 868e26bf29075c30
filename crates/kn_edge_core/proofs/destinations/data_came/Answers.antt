use Rattle.std.proofs.Common.{sym, ◌∙◌}
use Rattle.kn_edge_core.proofs.SoundLemmas.{connection_stands}
use Rattle.kn_edge_core.proofs.destinations.data_came.Goals as goal

pub bytes_came-requires-clause-room : goal.bytes_came-requires-clause-room
bytes_came-requires-clause-room c =
    let found = sym c.find.ensures ∙ c.in-Some.is in
    let stands = connection_stands c.args.connect_id.now c.args.state.now.connections c.in-Some.connection found in
    rw stands (rw found at c.requires.room)
