use Rattle.kn_loop.proofs.Once.{single_sorted}
use Rattle.kn_loop.proofs.awake.Awake.holds.Goals as goal

pub returns : goal.returns
returns c = rw (← c.self.view_is) (single_sorted c.self.inside.inner.keys c.len-count.ensures.ordered)
