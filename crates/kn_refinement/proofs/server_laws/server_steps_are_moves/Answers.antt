-- List by list, and for the apps by CONNECT packet by packet.
use Rattle.kn_refinement.proofs.ServerReached.{server_reached}
use Rattle.kn_refinement.proofs.ServerSteps.{server_shown}
use Rattle.kn_refinement.proofs.server_laws.server_steps_are_moves.Goals as goal

pub returns : goal.returns
returns c = record { shown = server_shown; reached = server_reached }
