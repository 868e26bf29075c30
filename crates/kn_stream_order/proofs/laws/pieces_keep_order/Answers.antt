-- Each frame is gone through.
use Rattle.kn_stream_order.proofs.OrderLemmas.{piece_order, piece_queues}
use Rattle.kn_stream_order.proofs.laws.pieces_keep_order.Goals as goal

pub returns : goal.returns
returns c = record { order = piece_order; queues = piece_queues }
