use Rattle.std.proofs.Common.{arith}
use Rattle.kn_world.specs.Views.{shown}
use Rattle.kn_script.specs.Report.{app_line}
use Rattle.kn_script.proofs.ReportLemmas.{line_written, no_app}
use Rattle.kn_script.proofs.reporting.push_apps.Goals as goal

pub loop-before-preserved : goal.loop-before-preserved
loop-before-preserved c =
    line_written app_line (shown c.args.world.now).apps c.args.out.now c.loop-before.out c.push_app.new.out c.loop-before.before no_app
    (omega arith) c.loop-before.invariant (c.in_ok-push_app.ensures no_app)
