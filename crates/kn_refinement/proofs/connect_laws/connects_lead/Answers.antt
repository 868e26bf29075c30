-- By whether its head is whole, its stage and whether the server has ended its tunnel.
use Rattle.kn_packets.proofs.Runs.{keys_go_on}
use Rattle.kn_refinement.proofs.ConnectFirst.{hears_lead, raw_leads}
use Rattle.kn_refinement.proofs.ConnectServed.{plain_serves}
use Rattle.kn_refinement.proofs.ConnectSettles.{settles_leads}
use Rattle.kn_refinement.proofs.ConnectTakes.{takes_freely_leads, takes_leads}
use Rattle.kn_refinement.proofs.connect_laws.connects_lead.Goals as goal

pub returns : goal.returns
returns c = record {
  comes = raw_leads keys_go_on;
  hears = hears_lead keys_go_on;
  settles = λ k s (a, there, at_door) fits keys. settles_leads keys_go_on plain_serves s k a fits keys there at_door;
  takes = λ k count s (a, there, at_door) fits. takes_leads s k count a fits there at_door;
  takes_freely = λ k s (a, there, at_door) fits. takes_freely_leads s k a fits there at_door;
}
