use Rattle.kn_loop.specs.Calls.{unpaused}
use Rattle.kn_loop.specs.Kept.{is_in, line_of}
use Rattle.kn_loop.proofs.Covering.{visited}
use Rattle.kn_loop.proofs.running.Running.visit.Goals as goal

pub returns-clause-visits : goal.returns-clause-visits
returns-clause-visits g c = rw (c.in_ok-stay_awake.ensures.watch, c.in_ok-stay_awake.ensures.node)
    (visited c.args.conn (is_in c.args.self.now.awake) (is_in c.serve.new.self.awake) (is_in c.stay_awake.new.self.awake) (line_of c.args.self.now.watch.lines) (line_of c.serve.new.self.watch.lines)
    (unpaused (g.N.Node.answers c.args.self.now.node)) (unpaused (g.N.Node.answers c.serve.new.self.node)) c.in_ok-serve.ensures.wakes c.in_ok-serve.ensures.touches c.in_ok-stay_awake.ensures.grows c.in_ok-stay_awake.ensures.awake)

pub returns-clause-visited : goal.returns-clause-visited
returns-clause-visited g c = rw (c.in_ok-stay_awake.ensures.watch, c.in_ok-stay_awake.ensures.node) c.in_ok-serve.ensures.visited
