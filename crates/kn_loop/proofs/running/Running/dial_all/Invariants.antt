use Rattle.std.proofs.Common.{◌≡◌, ◌≤◌, ℕ, []}
use Rattle.kn_loop.specs.Calls.{unpaused}
use Rattle.kn_loop.specs.Kept.{is_in, line_of}
use Rattle.kn_loop.specs.Known.{Given}
use Rattle.kn_loop.specs.Visited.{MadeWith, Within}
use Rattle.kn_loop.specs.Turns.{Covers}
use Rattle.kn_loop.proofs.running.Running.dial_all.Given as goal

abbrev pub invariant-loop-round : goal.invariant-loop-round
invariant-loop-round g l = record {
  made : MadeWith g.N.Node.did g.N.Node.outgoing g.N.Node.answers g.N.Node.top (Within [] [] []) (g.P.Port.told l.fn.port) (g.P.Port.told l.port) l.fn.self.watch l.self.watch l.fn.self.node l.self.node;
  covers : Covers (is_in l.self.awake) (line_of l.self.watch.lines) (unpaused (g.N.Node.answers l.self.node));
  given : Given l.self.watch (g.N.Node.top l.self.node) (g.P.Port.last l.port);
  faults : g.P.Port.faults l.fn.port ≤ g.P.Port.faults l.port;
}
