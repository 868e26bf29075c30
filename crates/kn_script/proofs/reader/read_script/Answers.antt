use Rattle.std.proofs.Common.{◌+◌, arith}
use Rattle.kn_script.specs.Lines.{lines_of}
use Rattle.kn_script.specs.Script.{script_of}
use Rattle.kn_script.proofs.EventLemmas.{line_more}
use Rattle.kn_script.proofs.reader.read_script.Goals as goal

pub loop-rest-preserved : goal.loop-rest-preserved
loop-rest-preserved c = record {
  so_far =
      line_more (script_of c.args.bytes.now) c.loop-rest.reader.events.items c.add.new.self.events.items (c.loop-rest.number + 1)
      c.loop-rest.reader.made c.add.new.self.made c.next_line.result.0.now (lines_of c.next_line.result.1.now) (lines_of c.loop-rest.rest.now) c.in-Ok.found
      c.loop-rest.invariant.so_far c.next_line.ensures.lines c.in-Ok.ensures.value c.in-Ok-add.ensures.events c.in-Ok-add.ensures.made;
  within = c.in-Ok-add.ensures.within;
  bounded = omega arith;
}
