use Rattle.std.proofs.Common.{rules, ◌≡◌, ◌≤◌, ap, sym, subst, ◌∙◌, arith}
use Rattle.kn_loop.specs.Known.{bare_watch}
use Rattle.kn_loop.specs.Turns.{Steady}
use Rattle.kn_serve.specs.Sides.{server_answers}
use Rattle.kn_serve.proofs.server_begins.run_server.Goals as goal

pub new-requires : goal.new-requires
new-requires c = c.new-node.ensures.top

pub returns-clause-node : goal.returns-clause-node
returns-clause-node c = ap (λ s. s.node) c.in_ok-running.ensures.node ∙ c.new-node.ensures.start

pub returns-clause-watch : goal.returns-clause-watch
returns-clause-watch c = c.in_ok-running.ensures.watch ∙ ap (λ k. bare_watch c.args.gates 0 k) c.course-course.ensures

pub returns-clause-ready : goal.returns-clause-ready
returns-clause-ready c = λ drawn told.
    let none : 0 ≤ drawn = omega arith in
    subst (λ s. Steady c.in_ok-running.running.busy.items c.in_ok-running.running.awake c.in_ok-running.running.watch (server_answers s.node) s.node.top drawn told) (sym c.in_ok-running.ensures.node)
    (c.in_ok-running.ensures.steady drawn told (subst (λ t. t ≤ drawn) (sym c.new-node.ensures.top) none) tt)
