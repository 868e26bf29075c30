use Rattle.std.proofs.Common.{arith}
use Rattle.kn_world.specs.Views.{shown}
use Rattle.kn_script.specs.Report.{dial_line}
use Rattle.kn_script.proofs.ReportLemmas.{line_written, no_dial}
use Rattle.kn_script.proofs.reporting.push_dials.Goals as goal

pub loop-before-preserved : goal.loop-before-preserved
loop-before-preserved c =
    line_written dial_line (shown c.args.world.now).dials c.args.out.now c.loop-before.out c.push_dial.new.out c.loop-before.before no_dial
    (omega arith) c.loop-before.invariant (c.in_ok-push_dial.ensures no_dial)
