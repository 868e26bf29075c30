use Rattle.std.proofs.Common.{◌≡◌, ◌≤◌, ℕ, [], ◌++◌, length}
use Rattle.kn_loop.specs.Calls.{unpaused}
use Rattle.kn_loop.specs.Kept.{is_in, line_of, NoTwice}
use Rattle.kn_loop.specs.Known.{Given}
use Rattle.kn_loop.specs.Visited.{MadeWith, Within}
use Rattle.kn_loop.specs.Turns.{CoversBut, AreBusy, AtHand}
use Rattle.kn_loop.proofs.running.Running.sweep.Given as goal

abbrev pub invariant-loop-conn : goal.invariant-loop-conn
invariant-loop-conn g l = record {
  made : MadeWith g.N.Node.did g.N.Node.outgoing g.N.Node.answers g.N.Node.top (Within [] [] []) (g.P.Port.told l.fn.port) (g.P.Port.told l.port) l.fn.self.watch l.self.watch l.fn.self.node l.self.node;
  given : Given l.self.watch (g.N.Node.top l.self.node) (g.P.Port.last l.port);
  hand : AtHand (g.P.Port.told l.port) (line_of l.self.watch.lines);
  apart : NoTwice (l.self.busy.items ++ l.self.awake);
  covers : CoversBut (is_in l.self.awake) (is_in l.self.busy.items) (line_of l.self.watch.lines) (unpaused (g.N.Node.answers l.self.node));
  busy : AreBusy l.self.busy.items (line_of l.self.watch.lines) (unpaused (g.N.Node.answers l.self.node));
  node : l.self.node ≡ l.fn.self.node;
  faults : g.P.Port.faults l.fn.port ≤ g.P.Port.faults l.port;
}

abbrev pub decreases-loop-conn : goal.decreases-loop-conn
decreases-loop-conn g l = length l.self.awake
