-- By the dial that the step concerns, and its agent.
use Rattle.kn_packets.proofs.Runs.{keys_go_on}
use Rattle.kn_refinement.proofs.AgentDials.{dial_refused_leads, dial_won_leads}
use Rattle.kn_refinement.proofs.AgentLosses.{agent_lost_leads, drained_leads}
use Rattle.kn_refinement.proofs.AgentTakes.{agent_down_leads}
use Rattle.kn_refinement.proofs.agent_laws.agents_lead.Goals as goal

pub returns : goal.returns
returns c = record {
  won = λ dial s fits keys. dial_won_leads dial s fits keys;
  refused = λ dial s fits keys. dial_refused_leads dial s fits;
  down = λ link s fits keys. agent_down_leads keys_go_on link s fits keys;
  drained = λ link s can fits keys. drained_leads link s can fits;
  lost = λ link s can fits keys. agent_lost_leads link s can fits;
}
