use Rattle.std.proofs.Common.{◌≡◌, ◌≤◌, ℕ, ◌++◌, length}
use Rattle.kn_loop.specs.Calls.{unpaused}
use Rattle.kn_loop.specs.Kept.{is_in, line_of, NoTwice}
use Rattle.kn_loop.specs.Turns.{CoversBut, AreBusy, NoneDue}
use Rattle.kn_loop.proofs.running.Running.gather.Given as goal

abbrev pub invariant-loop-conn : goal.invariant-loop-conn
invariant-loop-conn g l = record {
  none : NoneDue (line_of l.self.watch.lines) (unpaused (g.N.Node.answers l.self.node));
  apart : NoTwice (l.self.busy.items ++ l.self.awake);
  covers : CoversBut (is_in l.self.awake) (is_in l.self.busy.items) (line_of l.self.watch.lines) (unpaused (g.N.Node.answers l.self.node));
  busy : AreBusy l.self.busy.items (line_of l.self.watch.lines) (unpaused (g.N.Node.answers l.self.node));
  node : l.self.node ≡ l.fn.self.node;
  watch : l.self.watch ≡ l.fn.self.watch;
}

abbrev pub decreases-loop-conn : goal.decreases-loop-conn
decreases-loop-conn g l = length l.self.awake
