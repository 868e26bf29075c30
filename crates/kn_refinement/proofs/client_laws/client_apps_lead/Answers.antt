-- By the app, its client and what this knows of it.
use Rattle.kn_packets.proofs.Runs.{keys_go_on}
use Rattle.kn_refinement.proofs.AppComes.{app_comes_leads}
use Rattle.kn_refinement.proofs.AppSettles.{settles_leads}
use Rattle.kn_refinement.proofs.AppTakes.{app_ended_leads, app_freed_leads, app_held_leads, app_sent_leads, takes_freely_leads, takes_leads}
use Rattle.kn_refinement.proofs.client_laws.client_apps_lead.Goals as goal

pub returns : goal.returns
returns c = record {
  comes = λ c address s fits keys. app_comes_leads s c address fits keys;
  sent = λ bytes k s its fits keys. (app_sent_leads keys_go_on bytes s k fits keys its).leads;
  ended = λ k s its fits keys. (app_ended_leads keys_go_on s k fits keys its).leads;
  held = λ k s its fits keys. (app_held_leads s k fits its).leads;
  freed = λ k s its fits keys. (app_freed_leads keys_go_on s k fits keys its).leads;
  takes = λ k count s its fits keys. (takes_leads s k count fits keys its).leads;
  takes_freely = λ k s its fits keys. (takes_freely_leads s k fits keys its).leads;
  settles = λ k s its fits keys. (settles_leads keys_go_on s k fits keys its).leads;
}
