use Rattle.std.proofs.Common.{◌≡◌, ◌∷◌, ◌++◌, ◌≤◌, ◌<◌, ◌+◌, ◌-◌, ℕ, List, [], true, false, None, Some, rules, refl, sym, ap, ◌∙◌, subst, arith, length, take, drop}
use Rattle.kn_loop.specs.Kept.{is_in, line_of}
use Rattle.kn_port.specs.declared.names.Waited.TheVariants as waited
use Rattle.kn_loop.specs.Turns.{WaitedOnce}
use Rattle.kn_loop.proofs.Giving.{given_same, same_named, waited_follows}
use Rattle.kn_loop.proofs.running.Running.wait_once.Goals as goal

pub returns-in_ok-hear-in-Ready-clause-waited : goal.returns-in_ok-hear-in-Ready-clause-waited
returns-in_ok-hear-in-Ready-clause-waited g c = WaitedOnce c.in-Ready.ensures.told.0 waited.Ready c.requires.settled c.in-Ready.ensures.told.2
    (waited_follows c.in-Ready.ensures.told.0 c.wait.new.ready c.clear.new.self waited.Ready c.args.self.now.watch c.hear.new.self.watch c.in-Ready.ensures.told.1 c.clear.ensures c.in_ok-hear-in-Ready.ensures.follows)
    c.hear.ensures.node

pub returns-in_ok-hear-in-Ready-clause-given : goal.returns-in_ok-hear-in-Ready-clause-given
returns-in_ok-hear-in-Ready-clause-given g c = given_same c.args.self.now.watch c.hear.new.self.watch (g.N.Node.top c.args.self.now.node) (g.N.Node.top c.hear.new.self.node) (g.P.Port.last c.args.port.now) (g.P.Port.last c.wait.new.self)
    c.requires.steady.given (same_named c.wait.new.ready (line_of c.args.self.now.watch.lines) (line_of c.hear.new.self.watch.lines) c.in_ok-hear-in-Ready.ensures.follows.lines)
    c.in_ok-hear-in-Ready.ensures.follows.held (ap g.N.Node.top c.hear.ensures.node) c.wait.ensures.last

pub returns-in_ok-hear-in-Failed-clause-waited : goal.returns-in_ok-hear-in-Failed-clause-waited
returns-in_ok-hear-in-Failed-clause-waited g c = WaitedOnce c.in-Failed.ensures.told.0 waited.Failed c.requires.settled c.in-Failed.ensures.told.2
    (waited_follows c.in-Failed.ensures.told.0 c.wait.new.ready c.clear.new.self waited.Failed c.args.self.now.watch c.hear-in-Failed.new.self.watch c.in-Failed.ensures.told.1 c.clear.ensures c.in_ok-hear-in-Failed.ensures.follows)
    c.hear-in-Failed.ensures.node

pub returns-in_ok-hear-in-Failed-clause-given : goal.returns-in_ok-hear-in-Failed-clause-given
returns-in_ok-hear-in-Failed-clause-given g c = given_same c.args.self.now.watch c.hear-in-Failed.new.self.watch (g.N.Node.top c.args.self.now.node) (g.N.Node.top c.hear-in-Failed.new.self.node) (g.P.Port.last c.args.port.now) (g.P.Port.last c.wait.new.self)
    c.requires.steady.given (same_named c.wait.new.ready (line_of c.args.self.now.watch.lines) (line_of c.hear-in-Failed.new.self.watch.lines) c.in_ok-hear-in-Failed.ensures.follows.lines)
    c.in_ok-hear-in-Failed.ensures.follows.held (ap g.N.Node.top c.hear-in-Failed.ensures.node) c.wait.ensures.last
