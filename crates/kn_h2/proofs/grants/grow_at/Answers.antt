use Rattle.std.proofs.Common.{sym}
use Rattle.kn_h2_state.specs.Effects.{with_grant}
use Rattle.kn_h2.proofs.StreamLemmas.{change_some}
use Rattle.kn_h2.proofs.grants.grow_at.Goals as goal

pub returns-in-Some : goal.returns-in-Some
returns-in-Some c = rw c.grow_one.ensures (sym (change_some c.args.streams.now c.args.number (with_grant c.args.by) c.in-Some.stream.now (sym c.in-Some.ensures.value)))
