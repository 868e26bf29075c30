use Rattle.std.proofs.Common.{◌≡◌, ◌∷◌, ◌++◌, ◌≤◌, ◌<◌, ◌+◌, ℕ, List, [], true, false, rules, refl, sym, ap, ◌∙◌, subst, arith, length, take, drop}
use Rattle.kn_loop.specs.Calls.{unpaused}
use Rattle.kn_loop.specs.Kept.{is_in, line_of}
use Rattle.kn_loop.specs.Turns.{is_due}
use Rattle.kn_loop.proofs.Covering.{busy_shut}
use Rattle.kn_loop.proofs.Giving.{given_forgets}
use Rattle.kn_loop.proofs.Once.{apart_dropped}
use Rattle.kn_loop.proofs.Visiting.{always_ok, quiet_nothing}
use Rattle.kn_loop.proofs.running.Running.settle_one.Goals as goal

pub returns-then-is_due-clause-busy : goal.returns-then-is_due-clause-busy
returns-then-is_due-clause-busy g c =
    let due : is_due (line_of c.args.self.now.watch.lines c.args.conn) (unpaused (g.N.Node.answers c.args.self.now.node) c.args.conn) ≡ true = search rules in
    rw (c.shut_one.ensures.busy, c.shut_one.ensures.node)
    (busy_shut c.args.self.now.busy.items c.args.conn (line_of c.args.self.now.watch.lines) (line_of c.shut_one.new.self.watch.lines) (unpaused (g.N.Node.answers c.args.self.now.node)) due c.shut_one.ensures.forgets.lines c.requires.busy)

pub returns-then-is_due-clause-given : goal.returns-then-is_due-clause-given
returns-then-is_due-clause-given g c = rw (c.shut_one.ensures.node, c.shut_one.ensures.last)
    (given_forgets c.args.conn c.args.self.now.watch c.shut_one.new.self.watch (g.N.Node.top c.args.self.now.node) (g.P.Port.last c.args.port.now) c.requires.given c.shut_one.ensures.forgets)

pub returns-then-is_due-clause-apart : goal.returns-then-is_due-clause-apart
returns-then-is_due-clause-apart g c = rw (c.shut_one.ensures.busy, c.shut_one.ensures.awake) (apart_dropped c.args.self.now.busy.items c.args.conn c.args.self.now.awake c.requires.apart)

pub returns-else-is_due-clause-made : goal.returns-else-is_due-clause-made
returns-else-is_due-clause-made g c = rw (c.keep_one.ensures.watch, c.keep_one.ensures.node) (always_ok c.keep_one.result (quiet_nothing g.N.Node.did g.N.Node.outgoing g.N.Node.answers g.N.Node.top (g.P.Port.told c.args.port.now) c.args.self.now.watch c.args.self.now.node))
