-- The world that runs is one that events reach, so it keeps the promises, its sides sent their own bytes, no end is due, and it is at rest where it is called quiet.
use Rattle.std.proofs.lemmas.Result.{IfOk-weaker}
use Rattle.std.proofs.Common.{◌≡◌}
use Rattle.kn_world.specs.Views.{shown}
use Rattle.kn_script.specs.Report.{report_of}
use Rattle.kn_cmd.specs.Outcome.{ReportsRun}
use Rattle.kn_cmd.proofs.Reports.{reports_from}
use Rattle.kn_cmd.proofs.replay.replayed.Goals as goal

pub returns : goal.returns
returns c = IfOk-weaker c.report.result (λ text. text ≡ report_of (shown c.run.new.self) c.in_ok-idle.idle) (ReportsRun c.args.strategies c.args.events.now)
    (λ text told. reports_from c.worlds_keep_their_promises.ensures c.unanswered_apps_are_refused.ensures c.sides_send_their_own_bytes.ensures c.no_end_is_due.ensures c.quiet_worlds_are_at_rest.ensures c.args.strategies c.args.events.now c.new-world.result c.in_ok-idle.idle c.run.new.self text c.new-world.ensures c.in_ok-idle.ensures told)
    c.report.ensures
