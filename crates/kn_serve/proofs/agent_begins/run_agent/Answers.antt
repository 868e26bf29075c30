use Rattle.std.proofs.Common.{rules, ◌≡◌, true, subst, ◌∙◌}
use Rattle.kn_loop.specs.Gates.{no_gates}
use Rattle.kn_loop.specs.Known.{Begins, bare_watch}
use Rattle.kn_serve.proofs.agent_begins.run_agent.Goals as goal

pub run_node-requires : goal.run_node-requires
run_node-requires c = record { drawn = c.requires; top = c.in_ok-node.ensures.top; stays = c.in_ok-node.ensures.stays }

pub returns-clause-node : goal.returns-clause-node
returns-clause-node c = c.in_ok-running.ensures.node ∙ c.in_ok-node.ensures.started

pub returns-clause-watch : goal.returns-clause-watch
returns-clause-watch c = subst (λ k. Begins c.args.conn true true (bare_watch no_gates c.args.options.now.drain k) c.in_ok-running.running.watch) c.course-course.ensures c.in_ok-running.ensures.watch

pub returns-clause-ready : goal.returns-clause-ready
returns-clause-ready c = c.in_ok-running.ensures.ready
