use Rattle.std.proofs.Common.{rules, ◌≡◌, ◌≤◌, true, Some, ap, sym, subst, ◌∙◌}
use Rattle.kn_loop.specs.Known.{Begins, bare_watch}
use Rattle.kn_loop.specs.Turns.{Steady}
use Rattle.kn_serve.specs.Sides.{agent_answers, top_of}
use Rattle.kn_serve.proofs.TopLemmas.{max_zero}
use Rattle.kn_serve.proofs.agent_begins.run_node.Goals as goal

pub new-requires : goal.new-requires
new-requires c = (c.requires.drawn, max_zero c.args.node.top ∙ c.requires.top, c.requires.stays)

pub returns-clause-node : goal.returns-clause-node
returns-clause-node c = ap (λ s. s.node) c.in_ok-running.ensures.node

pub returns-clause-watch : goal.returns-clause-watch
returns-clause-watch c = subst (λ gs. Begins c.args.conn true true (bare_watch gs c.args.drain c.args.course) c.in_ok-running.running.watch) c.none.ensures c.in_ok-running.ensures.watch

pub returns-clause-ready : goal.returns-clause-ready
returns-clause-ready c = λ drawn told below hand.
    subst (λ s. Steady c.in_ok-running.running.busy.items c.in_ok-running.running.awake c.in_ok-running.running.watch (agent_answers s.node) (top_of s.node.top s.other) drawn told) (sym c.in_ok-running.ensures.node)
    (c.in_ok-running.ensures.steady drawn told (subst (λ t. t ≤ drawn) (sym (max_zero c.args.node.top ∙ c.requires.top)) below) hand)
