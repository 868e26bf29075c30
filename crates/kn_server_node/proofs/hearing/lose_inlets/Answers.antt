use Rattle.std.proofs.Common.{arith}
use Rattle.kn_server_node.specs.Steps.{losses}
use Rattle.kn_server_node.proofs.LossLemmas.{lost_before}
use Rattle.kn_server_node.proofs.hearing.lose_inlets.Goals as goal

pub loop-left-preserved : goal.loop-left-preserved
loop-left-preserved c = record {
  within = let before = c.loop-left.invariant.within in omega (arith, before);
  lost = lost_before c.args.inlets.now c.loop-left.left c.index-inlets-left.result c.loop-left.todo c.lose_who.new.todo (losses c.args.inlets.now c.args.todo.now)
      c.loop-left-test.true c.loop-left.invariant.within c.in_ok-lose_who.ensures c.loop-left.invariant.lost;
}
