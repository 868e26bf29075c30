-- Each rule for a front's event is gone through.
use Rattle.kn_server_core.proofs.FrontIsolation.{front_changes, front_outs}
use Rattle.kn_server_core.proofs.isolation.front_events_stay_with_their_front.Goals as goal

pub returns : goal.returns
returns c = record { changes = front_changes; outs = front_outs }
