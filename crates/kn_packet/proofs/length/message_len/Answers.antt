use Rattle.kn_packet.proofs.Lengths.{message_length_at}
use Rattle.kn_packet.proofs.length.message_len.Goals as goal

pub returns-clause-len : goal.returns-clause-len
returns-clause-len c = message_length_at c.args.number c.args.len c.varint_len.result c.requires.number c.varint_len.ensures.len
