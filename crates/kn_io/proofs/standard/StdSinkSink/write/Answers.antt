use Rattle.kn_io.proofs.Appending.{more_written}
use Rattle.kn_io.proofs.standard.StdSinkSink.write.Goals as goal

pub loop-rest-preserved : goal.loop-rest-preserved
loop-rest-preserved g c = record {
  written = rw c.split_at.ensures.back (more_written _ _ _ c.args.bytes.now _ c.in-Ok.count c.loop-rest.invariant.written c.in-Ok.ensures.bytes);
  faults = c.loop-rest.invariant.faults;
}
