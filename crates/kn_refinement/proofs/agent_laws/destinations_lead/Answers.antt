-- By the dial, its agent and its connection.
use Rattle.kn_packets.proofs.Runs.{keys_go_on}
use Rattle.kn_refinement.proofs.DestMoves.{dest_failed_leads, takes_freely_leads, takes_leads}
use Rattle.kn_refinement.proofs.DestSettles.{dest_ended_leads, dest_freed_leads, dest_held_leads, dest_sent_leads, settles_leads}
use Rattle.kn_refinement.proofs.agent_laws.destinations_lead.Goals as goal

pub returns : goal.returns
returns c = record {
  sent = λ bytes dial s can fits keys. dest_sent_leads keys_go_on bytes dial s can fits keys;
  ended = λ dial s fits keys. dest_ended_leads keys_go_on dial s fits keys;
  failed = λ dial s fits keys. dest_failed_leads dial s fits;
  held = λ dial s fits keys. dest_held_leads dial s fits;
  freed = λ dial s fits keys. dest_freed_leads keys_go_on dial s fits keys;
  takes = λ dial count s fits keys. takes_leads dial count s fits keys;
  takes_freely = λ dial s fits keys. takes_freely_leads dial s fits keys;
  settles = λ dial s fits keys. settles_leads keys_go_on dial s fits keys;
}
