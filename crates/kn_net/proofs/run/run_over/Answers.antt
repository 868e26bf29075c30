use Rattle.kn_net.proofs.run.run_over.Goals as goal

pub returns : goal.returns
returns g c = let came = c.run_net.ensures in (came.0, came.1, (_, _, came.2), came.3)
