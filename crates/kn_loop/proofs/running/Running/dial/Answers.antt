use Rattle.std.proofs.Common.{◌≡◌, ◌∷◌, ◌++◌, ◌≤◌, ◌<◌, ◌+◌, ◌-◌, ℕ, List, [], true, false, None, Some, rules, refl, sym, ap, ◌∙◌, subst, arith, length, take, drop}
use Rattle.kn_loop.specs.Calls.{unpaused}
use Rattle.kn_loop.specs.Kept.{is_in, line_of}
use Rattle.kn_loop.specs.Turns.{Covers}
use Rattle.kn_loop.specs.Watch.{new_line}
use Rattle.kn_loop.proofs.Covering.{covers_wakes, covers_begun}
use Rattle.kn_loop.proofs.running.Running.dial.Goals as goal

pub returns-in_ok-drain_if-in-Conn-clause-covers : goal.returns-in_ok-drain_if-in-Conn-clause-covers
returns-in_ok-drain_if-in-Conn-clause-covers g c =
    let before : Covers (is_in c.args.self.now.awake) (line_of c.count_dial-drains.new.self.lines) (unpaused (g.N.Node.answers c.args.self.now.node)) = rw c.count_dial-drains.ensures.after c.requires.covers in
    rw c.drain_if.ensures.watch
    (covers_wakes (is_in c.begin_dial.new.self.awake) (is_in c.drain_if.new.self.awake) (line_of c.begin_dial.new.self.watch.lines) (unpaused (g.N.Node.answers c.begin_dial.new.self.node)) (unpaused (g.N.Node.answers c.drain_if.new.self.node))
    (covers_begun c.in-Conn.conn (Some (new_line true false)) (is_in c.args.self.now.awake) (is_in c.begin_dial.new.self.awake) (line_of c.count_dial-drains.new.self.lines) (line_of c.begin_dial.new.self.watch.lines)
    (unpaused (g.N.Node.answers c.args.self.now.node)) (unpaused (g.N.Node.answers c.begin_dial.new.self.node)) before c.in_ok-begin_dial-in-Conn.ensures.wakes c.in_ok-begin_dial-in-Conn.ensures.begins.lines)
    c.in_ok-drain_if-in-Conn.ensures.wakes)

pub returns-in_ok-drain_if-in-Failed-clause-covers : goal.returns-in_ok-drain_if-in-Failed-clause-covers
returns-in_ok-drain_if-in-Failed-clause-covers g c =
    let before : Covers (is_in c.args.self.now.awake) (line_of c.count_dial-drains.new.self.lines) (unpaused (g.N.Node.answers c.args.self.now.node)) = rw c.count_dial-drains.ensures.after c.requires.covers in
    rw c.drain_if-in-Failed.ensures.watch
    (covers_wakes (is_in c.not_begun.new.awake) (is_in c.drain_if-in-Failed.new.self.awake) (line_of c.count_dial-drains.new.self.lines) (unpaused (g.N.Node.answers c.not_begun.new.self)) (unpaused (g.N.Node.answers c.drain_if-in-Failed.new.self.node))
    (covers_wakes (is_in c.args.self.now.awake) (is_in c.not_begun.new.awake) (line_of c.count_dial-drains.new.self.lines) (unpaused (g.N.Node.answers c.args.self.now.node)) (unpaused (g.N.Node.answers c.not_begun.new.self)) before c.in_ok-not_begun-in-Failed.ensures.wakes)
    c.in_ok-drain_if-in-Failed.ensures.wakes)
