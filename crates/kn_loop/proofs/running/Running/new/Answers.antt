use Rattle.std.proofs.Common.{◌≡◌, ℕ, List, [], rules, refl, sym}
use Rattle.kn_loop.proofs.Starting.{starts_steady}
use Rattle.kn_loop.proofs.running.Running.new.Goals as goal

pub returns-clause-steady : goal.returns-clause-steady
returns-clause-steady g c = λ drawn told below hand. rw (c.new-2.ensures.items, c.new.ensures)
    (starts_steady c.args.server c.args.gates c.args.drain c.args.course c.in_ok-watch.watch (g.N.Node.top c.args.node) drawn (g.N.Node.answers c.args.node) told c.in_ok-watch.ensures c.requires below hand)
