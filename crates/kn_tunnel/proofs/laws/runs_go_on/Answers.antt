-- One more event is one more of the list.
use Rattle.kn_tunnel.proofs.Runs.{reached_followed, reached_start}
use Rattle.kn_tunnel.proofs.laws.runs_go_on.Goals as goal

pub returns : goal.returns
returns c = record { begin = reached_start; go_on = reached_followed }
