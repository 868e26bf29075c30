use Rattle.std.proofs.Common.{min, arith}
use Rattle.kn_h2_state.specs.Calls.{unsent}
use Rattle.kn_h2.proofs.CallBounds.{unsent_next, unsent_whole}
use Rattle.kn_h2.proofs.stream_calls.unsent.Goals as goal

pub loop-stream-preserved : goal.loop-stream-preserved
loop-stream-preserved c = record {
  small = omega (arith, c.saturating_add-count.ensures);
  same = unsent_next c.as_slice-stream-items.result.now c.loop-stream.stream-index c.loop-stream.count c.len.result c.saturating_add-count.result (min (unsent c.args.streams.now) 18446744073709551615) c.stream-item.result c.loop-stream-test.true c.stream-item.is c.len.ensures c.saturating_add-count.ensures c.loop-stream.invariant.same;
}

pub returns : goal.returns
returns c = unsent_whole c.as_slice-stream-items.result.now c.loop-stream.stream-index c.loop-stream.count (min (unsent c.args.streams.now) 18446744073709551615) c.loop-stream-test.false c.loop-stream.invariant.small c.loop-stream.invariant.same
