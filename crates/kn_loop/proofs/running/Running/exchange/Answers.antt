use Rattle.kn_loop.specs.Calls.{unpaused}
use Rattle.kn_loop.specs.Kept.{is_in, line_of}
use Rattle.kn_loop.proofs.Making.{made_then}
use Rattle.kn_loop.proofs.Covering.{wakes_then, touches_then}
use Rattle.kn_loop.proofs.Visiting.{exchange_visits}
use Rattle.kn_loop.proofs.running.Running.exchange.Goals as goal

pub returns-clause-made : goal.returns-clause-made
returns-clause-made g c = made_then g.N.Node.did g.N.Node.outgoing g.N.Node.answers g.N.Node.top _ _ _ _ _ _ _ _ _ c.in_ok-read_if_due.ensures.made c.in_ok-write_if_due.ensures.made

pub returns-clause-wakes : goal.returns-clause-wakes
returns-clause-wakes g c = wakes_then (is_in c.args.self.now.awake) (is_in c.read_if_due.new.self.awake) (is_in c.write_if_due.new.self.awake) (unpaused (g.N.Node.answers c.args.self.now.node)) (unpaused (g.N.Node.answers c.read_if_due.new.self.node)) (unpaused (g.N.Node.answers c.write_if_due.new.self.node)) c.in_ok-read_if_due.ensures.wakes c.in_ok-write_if_due.ensures.wakes

pub returns-clause-touches : goal.returns-clause-touches
returns-clause-touches g c = touches_then c.args.conn (line_of c.args.self.now.watch.lines) (line_of c.read_if_due.new.self.watch.lines) (line_of c.write_if_due.new.self.watch.lines) c.in_ok-read_if_due.ensures.touches c.in_ok-write_if_due.ensures.touches

pub returns-clause-visited : goal.returns-clause-visited
returns-clause-visited g c = exchange_visits g.N.Node.did g.N.Node.outgoing g.N.Node.answers g.N.Node.top c.args.conn _ _ _ _ _ _ _ _ _ c.in_ok-read_if_due.ensures.visited c.in_ok-read_if_due.ensures.idle c.in_ok-write_if_due.ensures.visited
