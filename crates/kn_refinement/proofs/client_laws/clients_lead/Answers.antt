-- By the client and its core.
use Rattle.kn_packets.proofs.Runs.{keys_go_on}
use Rattle.kn_refinement.proofs.ClientChanges.{client_lost_leads}
use Rattle.kn_refinement.proofs.ClientPipes.{client_down_leads}
use Rattle.kn_refinement.proofs.client_laws.clients_lead.Goals as goal

pub returns : goal.returns
returns c = record {
  down = λ c s fits keys. (client_down_leads keys_go_on s c fits keys).leads;
  lost = λ c s there fits keys. (client_lost_leads s c fits keys there).leads;
}
