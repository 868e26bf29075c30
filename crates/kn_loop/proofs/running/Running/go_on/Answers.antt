use Rattle.std.proofs.Common.{sym, ◌∙◌}
use Rattle.kn_loop.specs.Calls.{unpaused}
use Rattle.kn_loop.specs.Kept.{line_of}
use Rattle.kn_loop.specs.Turns.{Acted}
use Rattle.kn_loop.proofs.Covering.{all_settled, not_settled, none_due, none_due_paused}
use Rattle.kn_loop.proofs.running.Running.go_on.Goals as goal

pub wait_once-requires-clause-settled : goal.wait_once-requires-clause-settled
wait_once-requires-clause-settled g c = all_settled c.args.self.now.busy.items g.N.Node.takes_of c.args.self.now.watch (g.N.Node.answers c.args.self.now.node) c.requires.steady.rests (sym c.is_settled.ensures ∙ c.if-is_settled.true)

pub returns-in_ok-act-clause-turned : goal.returns-in_ok-act-clause-turned
returns-in_ok-act-clause-turned g c = Acted
    (not_settled c.args.self.now.busy.items g.N.Node.takes_of c.args.self.now.watch (g.N.Node.answers c.args.self.now.node) (sym c.is_settled.ensures ∙ c.if-is_settled.false))
    c.in_ok-act.ensures.served.made c.in_ok-act.ensures.served.holds.0 c.in_ok-act.ensures.served.holds.1 c.in_ok-act.ensures.served.holds.2 c.in_ok-act.ensures.dialled
    (none_due_paused (line_of c.act.new.self.watch.lines) (g.N.Node.answers c.act.new.self.node) (none_due c.act.new.self.busy.items (line_of c.act.new.self.watch.lines) (unpaused (g.N.Node.answers c.act.new.self.node)) c.in_ok-act.ensures.rests))
