use Rattle.std.proofs.Common.{rules, ◌≡◌, true, subst, ap, ◌∙◌}
use Rattle.kn_loop.specs.Known.{Begins, bare_watch}
use Rattle.kn_serve.proofs.TopLemmas.{max_zero}
use Rattle.kn_serve.proofs.client_begins.run_client.Goals as goal

pub run_side-requires : goal.run_side-requires
run_side-requires c = record { drawn = c.requires.drawn; top = max_zero c.in_ok-node.node.top ∙ c.in_ok-node.ensures.top; stays = c.in_ok-node.ensures.stays }

pub returns-clause-node : goal.returns-clause-node
returns-clause-node c = ap (λ s. s.node) c.in_ok-running.ensures.side ∙ c.in_ok-node.ensures.fresh

pub returns-clause-address : goal.returns-clause-address
returns-clause-address c = ap (λ s. s.address) c.in_ok-running.ensures.side

pub returns-clause-watch : goal.returns-clause-watch
returns-clause-watch c = subst (λ k. Begins c.args.conn true true (bare_watch c.args.gates 0 k) c.in_ok-running.running.watch) c.course-course.ensures c.in_ok-running.ensures.watch

pub returns-clause-ready : goal.returns-clause-ready
returns-clause-ready c = c.in_ok-running.ensures.ready
