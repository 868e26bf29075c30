use Rattle.std.proofs.Common.{arith, sym}
use Rattle.kn_ends.proofs.QueueLemmas.{is_more, goes_on, is_within}
use Rattle.kn_ends.proofs.packet_queue.PacketQueue.exceeds.Goals as goal

pub returns-then-len-left : goal.returns-then-len-left
returns-then-len-left c =
    is_more c.self.inside.inner.items c.args.self.now c.loop-index.index c.args.limit c.loop-index.left c.len-len.result c.index.result.now
    (sym c.self.view_is) (omega (arith, c.len-index-end.ensures, c.loop-index-test.true)) c.index.ensures c.len-len.ensures c.loop-index.invariant c.if-len-left.true

pub loop-index-preserved : goal.loop-index-preserved
loop-index-preserved c =
    goes_on c.self.inside.inner.items c.args.self.now c.loop-index.index c.args.limit c.loop-index.left c.len-len.result c.index.result.now
    (sym c.self.view_is) (omega (arith, c.len-index-end.ensures, c.loop-index-test.true)) c.index.ensures c.len-len.ensures c.loop-index.invariant c.if-len-left.false

pub returns : goal.returns
returns c =
    is_within c.self.inside.inner.items c.args.self.now c.loop-index.index c.args.limit c.loop-index.left
    (sym c.self.view_is) (omega (arith, c.len-index-end.ensures, c.loop-index-test.false)) c.loop-index.invariant
