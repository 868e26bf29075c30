use Rattle.std.proofs.Common.{◌≡◌, ◌≤◌, length}
use Rattle.kn_loop.specs.Calls.{unpaused}
use Rattle.kn_loop.specs.Kept.{is_in, line_of}
use Rattle.kn_loop.specs.Known.{known_of}
use Rattle.kn_loop.specs.Ran.{Made}
use Rattle.kn_loop.specs.Turns.{CoversBut, AreAllGiven, SameConns}
use Rattle.kn_loop.specs.Visited.{MadeWith}
use Rattle.kn_loop.proofs.Once.{WithinBut}
use Rattle.kn_loop.proofs.Visiting.{VisitsBut}
use Rattle.kn_loop.proofs.running.Running.visit_all.Given as goal

abbrev pub invariant-loop-first : goal.invariant-loop-first
invariant-loop-first g l = record {
  made : Made g.N.Node.did g.N.Node.outgoing g.N.Node.answers g.N.Node.top (g.P.Port.told l.fn.port) (g.P.Port.told l.port) l.fn.self.watch l.self.watch l.fn.self.node l.self.node;
  covers : CoversBut (is_in l.self.awake) (is_in l.rest) (line_of l.self.watch.lines) (unpaused (g.N.Node.answers l.self.node));
  conns : SameConns (line_of l.fn.self.watch.lines) (line_of l.self.watch.lines);
  held : l.self.watch.held ≡ l.fn.self.watch.held;
  given : AreAllGiven l.rest (g.N.Node.top l.self.node);
  below : g.N.Node.top l.self.node ≤ g.P.Port.last l.port;
  top : g.N.Node.top l.self.node ≡ g.N.Node.top l.fn.self.node;
  faults : g.P.Port.faults l.fn.port ≤ g.P.Port.faults l.port;
  last : g.P.Port.last l.port ≡ g.P.Port.last l.fn.port;
  visited : MadeWith g.N.Node.did g.N.Node.outgoing g.N.Node.answers g.N.Node.top (λ es. VisitsBut g.N.Node.did g.N.Node.outgoing g.N.Node.answers g.N.Node.top (is_in l.fn.batch) (is_in l.rest) (known_of l.fn.self.watch) l.fn.self.node l.self.node es × WithinBut l.rest l.fn.batch es) (g.P.Port.told l.fn.port) (g.P.Port.told l.port) l.fn.self.watch l.self.watch l.fn.self.node l.self.node;
}

abbrev pub decreases-loop-first : goal.decreases-loop-first
decreases-loop-first g l = length l.rest
