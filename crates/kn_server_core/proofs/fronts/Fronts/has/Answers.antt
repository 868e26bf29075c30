use Rattle.kn_server_core.proofs.FrontLemmas.{found_same}
use Rattle.kn_server_core.proofs.fronts.Fronts.has.Goals as goal

pub returns : goal.returns
returns c = rw (c.contains.ensures, ← c.self.view_is) (found_same c.args.front c.self.inside.numbers.keys)
