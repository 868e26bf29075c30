use Rattle.kn_net.proofs.run.run_net.Goals as goal

pub returns : goal.returns
returns g c = (c.run-end.result, c.number.ensures, c.run-end.ensures, c.tell.ensures)
