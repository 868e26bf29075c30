-- It is one of the facts on bytes.
use Rattle.kn_tunnel.proofs.AllSteps.{reached_facts}
use Rattle.kn_tunnel.proofs.laws.delivered_is_a_prefix.Goals as goal

pub returns : goal.returns
returns c = record { to_app = λ t r. (reached_facts t r).bytes.app_got; to_destination = λ t r. (reached_facts t r).bytes.dest_got }
