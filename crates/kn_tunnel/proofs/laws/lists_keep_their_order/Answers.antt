-- It holds at every view that meets the facts.
use Rattle.kn_tunnel.proofs.AllSteps.{reached_facts}
use Rattle.kn_tunnel.proofs.OrderSteps.{appends_in_order}
use Rattle.kn_tunnel.proofs.laws.lists_keep_their_order.Goals as goal

pub returns : goal.returns
returns c = record { appended = λ e t r m. appends_in_order e t m (reached_facts t r).link (reached_facts t r).stream }
