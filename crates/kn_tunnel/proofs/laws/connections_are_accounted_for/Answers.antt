-- It holds at every view that meets the facts.
use Rattle.kn_tunnel.specs.Kinds.{is_listed}
use Rattle.kn_tunnel.specs.Outcome.{is_accounted}
use Rattle.kn_tunnel.proofs.AllSteps.{reached_facts}
use Rattle.kn_tunnel.proofs.Claims.{accounted}
use Rattle.kn_tunnel.proofs.Lists.{says}
use Rattle.kn_tunnel.proofs.laws.connections_are_accounted_for.Goals as goal

pub returns : goal.returns
returns c = record { accounted = λ t r l. says (is_listed t.far) (is_accounted t) (accounted t (reached_facts t r).link) l }
