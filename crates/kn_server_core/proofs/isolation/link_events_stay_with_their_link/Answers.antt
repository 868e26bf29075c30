-- Each rule for a link's event is gone through.
use Rattle.kn_server_core.proofs.LinkIsolation.{link_changes, link_outs}
use Rattle.kn_server_core.proofs.isolation.link_events_stay_with_their_link.Goals as goal

pub returns : goal.returns
returns c = record { changes = link_changes; outs = link_outs }
