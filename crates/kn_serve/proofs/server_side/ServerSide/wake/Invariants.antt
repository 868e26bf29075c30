use Rattle.std.proofs.Common.{◌≡◌, ℕ, true, false, length, []}
use Rattle.kn_rising.specs.Stirring.{is_stirred}
use Rattle.kn_loop.specs.Kept.{is_in}
use Rattle.kn_serve.proofs.server_side.ServerSide.wake.Given as goal

abbrev pub invariant-loop-conn : goal.invariant-loop-conn
invariant-loop-conn l = record {
  node : l.self.node ≡ record l.fn.self.node { choices = []; stirred = l.self.node.stirred };
  grows : (c : ℕ) → is_in l.fn.awake c ≡ true → is_in l.awake c ≡ true;
  left : (c : ℕ) → is_in l.awake c ≡ false → is_stirred c l.fn.self.node.stirred ≡ is_stirred c l.self.node.stirred;
}

abbrev pub decreases-loop-conn : goal.decreases-loop-conn
decreases-loop-conn l = length l.self.node.stirred
