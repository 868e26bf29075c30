use Rattle.kn_port.proofs.NumberLemmas.{put_same}
use Rattle.kn_port.proofs.mem_net.come.Goals as goal

pub returns-in-Err-clause-err : goal.returns-in-Err-clause-err
returns-in-Err-clause-err c = rw c.in-Err.ensures.err (put_same c.args.conn c.args.lines.now c.in-Some.line.now c.in-Some.ensures.value)
