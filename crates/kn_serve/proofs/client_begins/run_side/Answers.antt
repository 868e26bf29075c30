use Rattle.std.proofs.Common.{rules, ◌≡◌, ◌≤◌, sym, subst}
use Rattle.kn_loop.specs.Turns.{Steady}
use Rattle.kn_serve.specs.Sides.{client_answers, top_of}
use Rattle.kn_serve.proofs.client_begins.run_side.Goals as goal

pub new-requires : goal.new-requires
new-requires c = (c.requires.drawn, c.requires.top, c.requires.stays)

pub returns-clause-side : goal.returns-clause-side
returns-clause-side c = c.in_ok-running.ensures.node

pub returns-clause-watch : goal.returns-clause-watch
returns-clause-watch c = c.in_ok-running.ensures.watch

pub returns-clause-ready : goal.returns-clause-ready
returns-clause-ready c = λ drawn told below hand.
    subst (λ s. Steady c.in_ok-running.running.busy.items c.in_ok-running.running.awake c.in_ok-running.running.watch (client_answers s.node) (top_of s.node.top s.other) drawn told) (sym c.in_ok-running.ensures.node)
    (c.in_ok-running.ensures.steady drawn told (subst (λ t. t ≤ drawn) (sym c.requires.top) below) hand)
