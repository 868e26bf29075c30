-- It holds at every view that meets the facts.
use Rattle.kn_tunnel.proofs.AllSteps.{reached_facts}
use Rattle.kn_tunnel.proofs.Endings.{emptied}
use Rattle.kn_tunnel.proofs.laws.closed_tunnels_leave_nothing.Goals as goal

pub returns : goal.returns
returns c = record { emptied = λ t r q d. emptied t (reached_facts t r).link q d }
