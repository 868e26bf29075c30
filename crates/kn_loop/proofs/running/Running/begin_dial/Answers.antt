use Rattle.std.proofs.Common.{◌≡◌, ◌∷◌, ◌++◌, ◌≤◌, ◌<◌, ◌+◌, ℕ, List, [], true, false, rules, refl, sym, ap, ◌∙◌, subst, arith, length, take, drop}
use Rattle.kn_loop.specs.Calls.{unpaused}
use Rattle.kn_loop.specs.Kept.{is_in, line_of}
use Rattle.kn_loop.proofs.Covering.{wakes_added}
use Rattle.kn_loop.proofs.running.Running.begin_dial.Goals as goal

pub returns-clause-wakes : goal.returns-clause-wakes
returns-clause-wakes g c = wakes_added c.args.conn (is_in c.args.self.now.awake) (is_in c.add.new.self) (is_in c.began.new.awake) (unpaused (g.N.Node.answers c.args.self.now.node)) (unpaused (g.N.Node.answers c.began.new.self)) c.in_ok-add.ensures.ok c.in_ok-began.ensures.wakes
