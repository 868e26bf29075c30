use Rattle.std.proofs.Common.{[], sym}
use Rattle.kn_server_node.proofs.front.front_of.Goals as goal

pub returns-in-Whole : goal.returns-in-Whole
returns-in-Whole c = c.packet_in.ensures c.args.messages.now.kept [] (sym c.in-Whole.ensures)
