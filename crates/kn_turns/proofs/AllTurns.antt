-- Each turn leads by moves.
use Rattle.kn_refinement.proofs.AgentDials.{dial_refused_leads, dial_won_leads}
use Rattle.kn_refinement.proofs.AgentLosses.{drained_leads}
use Rattle.kn_refinement.proofs.AppComes.{app_comes_leads}
use Rattle.kn_refinement.proofs.AppTakes as apps
use Rattle.kn_refinement.proofs.ConnectArrives.{comes_leads}
use Rattle.kn_refinement.proofs.DestMoves.{dest_failed_leads, gives_end_leads, takes_leads}
use Rattle.kn_refinement.proofs.DestSettles.{holding_leads}
use Rattle.kn_refinement.proofs.LeadsFronts.{client_comes_leads, client_up_leads}
use Rattle.kn_refinement.proofs.LeadsLinks.{agent_comes_leads}
use Rattle.kn_turns.specs.Laws.{TurnsLead}
use Rattle.kn_turns.specs.Turns.{AgentComes, AgentDrains, AgentLoses, AgentTakes, AppComes, AppEnds, AppHands, AppHolds, AppSends, AppStops, AppTakes, ClientComes, ClientLoses, ClientTakes, DestEnds, DestFails, DestHands, DestHolds, DestSends, DestStops, DestTakes, DialFailed, DialWon, AppRefused, DoorAsks, DoorComes, DoorFaulted, DoorHands, DoorHears, DoorHolds, DoorIsLost, DoorJoins, DoorLeaves, DoorReads, DoorSends, DoorStops, DoorTakes, LosesFront, LosesLink, TakesIn, TakesUp}
use Rattle.kn_turns.proofs.AgentTurns.{down_turn, up_turn}
use Rattle.kn_turns.proofs.AppTurns as app
use Rattle.kn_turns.proofs.ClientTurns.{out_turn}
use Rattle.kn_turns.proofs.DestTurns as dest
use Rattle.kn_turns.proofs.DoorTurns as door
use Rattle.kn_turns.proofs.EndLosses.{agent_turn, client_turn}
use Rattle.kn_turns.proofs.ServerLosses.{front_turn, link_turn}

pub each_leads : TurnsLead
each_leads (AgentComes identifiers) s may fits keys = agent_comes_leads identifiers s fits keys
each_leads ClientComes s may fits keys = client_comes_leads s fits keys
each_leads (TakesUp link) s may fits keys = up_turn link s fits keys
each_leads (TakesIn client) s may fits keys = client_up_leads s client fits keys
each_leads (LosesLink link left) s may fits keys = link_turn link left s may fits keys
each_leads (LosesFront client left) s may fits keys = front_turn client left s may fits keys
each_leads (AgentTakes link) s may fits keys = down_turn link s fits keys
each_leads (AgentDrains link) s may fits keys = drained_leads link s may fits
each_leads (AgentLoses link left) s may fits keys = agent_turn link left s may fits
each_leads (DialWon dial) s may fits keys = dial_won_leads dial s fits keys
each_leads (DialFailed dial) s may fits keys = dial_refused_leads dial s fits
each_leads (DestSends dial bytes) s may fits keys = dest.sends_turn dial bytes s may fits
each_leads (DestStops dial) s may fits keys = dest.stops_turn dial s fits
each_leads (DestHands dial) s may fits keys = dest.hands_turn dial s may fits keys
each_leads (DestEnds dial) s may fits keys = gives_end_leads dial s fits
each_leads (DestTakes dial count) s may fits keys = takes_leads dial count s fits keys
each_leads (DestFails dial) s may fits keys = dest_failed_leads dial s fits
each_leads (DestHolds dial held) s may fits keys = holding_leads held dial s fits
each_leads (ClientTakes client) s may fits keys = out_turn client s fits keys
each_leads (ClientLoses client left error) s may fits keys = client_turn client left error s may.0 may.1 fits keys
each_leads (AppComes client address) s may fits keys = app_comes_leads s client address fits keys
each_leads (AppSends k bytes) s may fits keys = app.sends_turn k bytes s may fits
each_leads (AppStops k) s may fits keys = app.stops_turn k s may fits
each_leads (AppHands k) s may fits keys = app.hands_turn k s may fits keys
each_leads (AppEnds k) s may fits keys = app.ends_turn k s may fits keys
each_leads (AppTakes k count) s may fits keys = (apps.takes_leads s k count fits keys may).leads
each_leads (AppHolds k held) s may fits keys = app.holds_turn k held s may fits
each_leads (AppRefused error) s may fits keys = door.refused_turn error s fits keys
each_leads DoorComes s may fits keys = comes_leads s fits
each_leads (DoorReads k bytes) s may fits keys = door.reads_turn k bytes s may fits
each_leads (DoorFaulted k status) s may fits keys = door.faulted_turn k status s may fits
each_leads (DoorAsks k target early rest) s may fits keys = door.asks_turn k target early rest s may fits keys
each_leads (DoorSends k bytes) s may fits keys = door.sends_turn k bytes s may fits
each_leads (DoorHands k) s may fits keys = door.hands_turn k s may fits
each_leads (DoorJoins k) s may fits keys = door.joins_turn k s may fits
each_leads (DoorHears k) s may fits keys = door.hears_turn k s may fits keys
each_leads (DoorTakes k count) s may fits keys = door.takes_turn k count s may fits
each_leads (DoorHolds k held) s may fits keys = door.holds_turn k held s may fits
each_leads (DoorStops k) s may fits keys = door.stops_turn k s may fits
each_leads (DoorLeaves k) s may fits keys = door.leaves_turn k s may fits keys
each_leads (DoorIsLost k) s may fits keys = door.lost_turn k s may fits keys
