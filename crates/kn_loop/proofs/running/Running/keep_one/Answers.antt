use Rattle.std.proofs.Common.{◌≡◌, ◌∷◌, ◌++◌, ◌≤◌, ◌<◌, ◌+◌, ℕ, List, [], true, false, rules, refl, sym, ap, ◌∙◌, subst, arith, length, take, drop}
use Rattle.kn_loop.specs.Calls.{unpaused}
use Rattle.kn_loop.specs.Kept.{is_in, line_of}
use Rattle.kn_loop.specs.Turns.{is_busy}
use Rattle.kn_loop.proofs.Covering.{busy_end}
use Rattle.kn_loop.proofs.Once.{apart_dropped}
use Rattle.kn_loop.proofs.running.Running.keep_one.Goals as goal

pub returns-in_ok-push-clause-busy : goal.returns-in_ok-push-clause-busy
returns-in_ok-push-clause-busy g c =
    let busy : is_busy (line_of c.args.self.now.watch.lines c.args.conn) (unpaused (g.N.Node.answers c.args.self.now.node) c.args.conn) ≡ true = search rules in
    rw c.in_ok-push.ensures.items (busy_end c.args.self.now.busy.items c.args.conn (line_of c.args.self.now.watch.lines) (unpaused (g.N.Node.answers c.args.self.now.node)) c.requires.busy busy c.requires.not_due)

pub returns-else-is_busy_unpaused-clause-apart : goal.returns-else-is_busy_unpaused-clause-apart
returns-else-is_busy_unpaused-clause-apart g c = apart_dropped c.args.self.now.busy.items c.args.conn c.args.self.now.awake c.requires.apart
