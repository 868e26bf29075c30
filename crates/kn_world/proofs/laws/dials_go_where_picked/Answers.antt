use Rattle.kn_world.proofs.ChoiceLemmas.{goes_where_picked, refused_where_none, refused_nowhere_else}
use Rattle.kn_world.proofs.laws.dials_go_where_picked.Goals as goal

pub returns : goal.returns
returns c = record { picked = goes_where_picked; none = refused_where_none; only = refused_nowhere_else }
