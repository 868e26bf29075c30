use Rattle.std.proofs.Common.{◌≡◌, length}
use Rattle.kn_loop.specs.Calls.{unpaused}
use Rattle.kn_loop.specs.Kept.{is_in, line_of}
use Rattle.kn_loop.specs.Turns.{CoversBut}
use Rattle.kn_loop.proofs.running.Running.wake_kept.Given as goal

abbrev pub invariant-loop-conn : goal.invariant-loop-conn
invariant-loop-conn g l = record {
  covers : CoversBut (is_in l.self.awake) (is_in l.self.busy.items) (line_of l.self.watch.lines) (unpaused (g.N.Node.answers l.self.node));
  watch : l.self.watch ≡ l.fn.self.watch;
  node : l.self.node ≡ l.fn.self.node;
  woken : l.self.woken ≡ l.fn.self.woken;
}

abbrev pub decreases-loop-conn : goal.decreases-loop-conn
decreases-loop-conn g l = length l.self.busy.items
