use Rattle.std.proofs.Common.{codes}
use Rattle.std.proofs.lemmas.Result.{on_ok_weaker}
use Rattle.kn_script.specs.Report.{labelled, line_end, tables_line}
use Rattle.kn_script.proofs.ReportLemmas.{five_pieces}
use Rattle.kn_script.proofs.reporting.push_tables.Goals as goal

pub returns : goal.returns
unfolding tables_line
returns c =
    on_ok_weaker c.push_text.result
    (five_pieces c.args.out.now
    (labelled (codes "tables awaited ") c.args.awaited) (labelled (codes " held ") c.args.held)
    (labelled (codes " dials ") c.args.dials) (labelled (codes " connections ") c.args.connections) line_end
    c.push_number.new.out c.push_number-2.new.out c.push_number-3.new.out c.push_number-4.new.out c.push_text.new.out
    c.in_ok-push_number.ensures c.in_ok-push_number-2.ensures c.in_ok-push_number-3.ensures c.in_ok-push_number-4.ensures)
    c.push_text.ensures
