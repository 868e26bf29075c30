use Rattle.std.proofs.Common.{◌∷◌, ◌++◌, [], ap}
use Rattle.kn_loop.specs.Kept.{is_in}
use Rattle.kn_serve.proofs.WakeLemmas.{still_awake, left_after, agent_popped}
use Rattle.kn_serve.proofs.agent_side.AgentSide.wake.Goals as goal

pub loop-conn-preserved : goal.loop-conn-preserved
loop-conn-preserved c = record {
  node = agent_popped c.args.self.now.node c.loop-conn.self.node c.next_stirred.new.self (c.next_stirred.new.self.stirred ++ c.in-Some.conn ∷ []) c.in-Some.ensures c.loop-conn.invariant.node;
  grows = λ k h. still_awake c.in-Some.conn k (is_in c.loop-conn.awake k) (is_in c.add.new.self k) (c.in_ok-add.ensures.ok k) (c.loop-conn.invariant.grows k h);
  left = left_after c.in-Some.conn c.args.self.now.node.stirred c.loop-conn.self.node.stirred c.next_stirred.new.self.stirred (is_in c.loop-conn.awake) (is_in c.add.new.self)
      (ap (λ n. n.stirred) c.in-Some.ensures) c.in_ok-add.ensures.ok c.loop-conn.invariant.left;
  other = c.loop-conn.invariant.other;
}
