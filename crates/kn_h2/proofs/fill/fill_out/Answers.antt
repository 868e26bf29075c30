-- Each move keeps what holds, and leaves less room.
use Rattle.std.proofs.Common.{sym, subst}
use Rattle.kn_h2_state.specs.Holding.{Holds}
use Rattle.kn_h2.proofs.MoveLemmas.{move_keeps}
use Rattle.kn_h2.proofs.FillLemmas.{one_more, none_of_failed, less_room}
use Rattle.kn_h2.proofs.fill.fill_out.Goals as goal

pub loop-next-smaller : goal.loop-next-smaller
loop-next-smaller c = less_room c.loop-next.state c.make.new.state c.in-Some.next c.in-Some.ensures.some c.in_ok-make.ensures

pub loop-next-preserved : goal.loop-next-preserved
loop-next-preserved c = (
  subst Holds (sym c.in_ok-make.ensures) (move_keeps c.loop-next.state c.in-Some.next c.loop-next.invariant.0 c.in-Some.ensures.some),
  one_more c.args.state.now c.loop-next.state c.make.new.state c.in-Some.next c.loop-next.invariant.1 c.in-Some.ensures.some c.in_ok-make.ensures,
)

pub returns-clause-failed : goal.returns-clause-failed
returns-clause-failed c = none_of_failed c.args.state.now c.loop-next.state c.loop-next.invariant.1
