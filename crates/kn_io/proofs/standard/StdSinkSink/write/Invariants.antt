-- A front of the bytes was written, without a fault.
use Rattle.std.proofs.Common.{◌≡◌, length}
use Rattle.kn_io.proofs.Appending.{Written}
use Rattle.kn_io.proofs.standard.StdSinkSink.write.Given as goal

abbrev pub invariant-loop-rest : goal.invariant-loop-rest
invariant-loop-rest g l = record {
  written : Written (g.W.Write.contents l.fn.self.writer) (g.W.Write.contents l.self.writer) l.bytes l.rest;
  faults : l.self.faults ≡ l.fn.self.faults;
}

abbrev pub decreases-loop-rest : goal.decreases-loop-rest
decreases-loop-rest g l = length l.rest
