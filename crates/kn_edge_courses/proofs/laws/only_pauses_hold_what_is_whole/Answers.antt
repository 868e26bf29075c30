-- At the end of a call no step may be made.
use Rattle.kn_edge_courses.proofs.HoldLemmas.{agents_hold, clients_hold}
use Rattle.kn_edge_courses.proofs.laws.only_pauses_hold_what_is_whole.Goals as goal

pub returns : goal.returns
returns c = record { agents = agents_hold; clients = clients_hold }
