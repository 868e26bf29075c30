use Rattle.kn_packets.proofs.Runs.{keys_go_on}
use Rattle.kn_refinement.proofs.ConnectServed.{plain_serves}
use Rattle.kn_refinement.proofs.ConnectSettles.{settles_leads}
use Rattle.kn_refinement.proofs.LeadsFronts.{client_comes_leads, client_up_leads, loses_front_leads}
use Rattle.kn_refinement.proofs.LeadsLinks.{agent_comes_leads, loses_link_leads}
use Rattle.kn_refinement.proofs.LeadsUp.{agent_up_leads}
use Rattle.kn_refinement.proofs.server_event_laws.server_events_lead.Goals as goal

pub returns : goal.returns
returns c = record {
  agent_comes = agent_comes_leads;
  client_comes = client_comes_leads;
  link_lost = loses_link_leads;
  front_lost = loses_front_leads;
  agent_up = agent_up_leads (settles_leads keys_go_on plain_serves);
  client_up = λ client s fits keys. client_up_leads s client fits keys;
}
