use Rattle.std.proofs.Common.{sym}
use Rattle.kn_script.proofs.LineLemmas.{line_here, line_alone}
use Rattle.kn_script.proofs.lines.next_line.Goals as goal

pub returns-in-Some-clause-lines : goal.returns-in-Some-clause-lines
returns-in-Some-clause-lines c = line_here c.args.bytes.now c.in-Some.at (sym c.in-Some.ensures)

pub returns-in-None-clause-lines : goal.returns-in-None-clause-lines
returns-in-None-clause-lines c = line_alone c.args.bytes.now c.requires (sym c.in-None.ensures)
