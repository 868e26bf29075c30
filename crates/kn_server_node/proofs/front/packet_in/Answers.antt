use Rattle.kn_server_node.proofs.front.packet_in.Goals as goal

pub returns-in-Ok : goal.returns-in-Ok
returns-in-Ok c = λ text rest whole. (rest, c.first_packet_of.ensures.packet text c.args.message.now rest _ whole c.in-Ok.ensures.packet)

pub returns-in-Err : goal.returns-in-Err
returns-in-Err c = λ text rest whole. c.first_packet_of.ensures.no_packet text c.args.message.now rest _ whole c.in-Err.ensures.fault
