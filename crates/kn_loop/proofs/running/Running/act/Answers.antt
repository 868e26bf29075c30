use Rattle.std.proofs.Common.{sym, ◌∙◌, subst, take, drop}
use Rattle.kn_loop.specs.Calls.{unpaused}
use Rattle.kn_loop.specs.Kept.{is_in, line_of}
use Rattle.kn_loop.specs.Ran.{Made}
use Rattle.kn_loop.specs.Turns.{Covers, AreAllGiven}
use Rattle.kn_loop.proofs.Making.{made_then, made_from}
use Rattle.kn_loop.proofs.Covering.{covers_turned, given_turned, joined}
use Rattle.kn_loop.proofs.Giving.{all_given, given_same, hand_after}
use Rattle.kn_loop.proofs.Visiting.{served, quiet_then}
use Rattle.kn_loop.proofs.running.Running.act.Goals as goal

pub visit_all-requires-clause-covers : goal.visit_all-requires-clause-covers
visit_all-requires-clause-covers g c =
    rw (c.as_slice.ensures.value, c.take_batch-batch.ensures.order.1, c.take_batch-batch.ensures.watch, c.take_batch-batch.ensures.node)
    (covers_turned (take c.take_batch-batch.ensures.order.0 c.args.self.now.busy.items) (drop c.take_batch-batch.ensures.order.0 c.args.self.now.busy.items) (is_in c.take_batch-batch.new.self.awake) (line_of c.args.self.now.watch.lines) (unpaused (g.N.Node.answers c.args.self.now.node))
    (subst (λ ns. Covers (is_in ns) (line_of c.args.self.now.watch.lines) (unpaused (g.N.Node.answers c.args.self.now.node))) (sym (joined c.take_batch-batch.ensures.order.0 c.args.self.now.busy.items)) c.requires.steady.rests.covers))

pub visit_all-requires-clause-given : goal.visit_all-requires-clause-given
visit_all-requires-clause-given g c =
    rw (c.as_slice.ensures.value, c.take_batch-batch.ensures.order.1, c.take_batch-batch.ensures.node)
    (given_turned (take c.take_batch-batch.ensures.order.0 c.args.self.now.busy.items) (drop c.take_batch-batch.ensures.order.0 c.args.self.now.busy.items) (g.N.Node.top c.args.self.now.node)
    (subst (λ ns. AreAllGiven ns (g.N.Node.top c.args.self.now.node)) (sym (joined c.take_batch-batch.ensures.order.0 c.args.self.now.busy.items))
    (all_given c.args.self.now.busy.items c.args.self.now.watch (g.N.Node.top c.args.self.now.node) (g.P.Port.last c.args.port.now) (unpaused (g.N.Node.answers c.args.self.now.node)) c.requires.steady.given c.requires.steady.rests.busy)))

pub accept_all-requires-clause-given : goal.accept_all-requires-clause-given
accept_all-requires-clause-given g c = given_same c.take_batch-batch.new.self.watch c.visit_all.new.self.watch (g.N.Node.top c.take_batch-batch.new.self.node) (g.N.Node.top c.visit_all.new.self.node) (g.P.Port.last c.args.port.now) (g.P.Port.last c.visit_all.new.port)
    (rw (c.take_batch-batch.ensures.watch, c.take_batch-batch.ensures.node) c.requires.steady.given) c.in_ok-visit_all.ensures.conns c.in_ok-visit_all.ensures.held c.in_ok-visit_all.ensures.top c.visit_all.ensures.last

pub sweep-requires-clause-hand : goal.sweep-requires-clause-hand
sweep-requires-clause-hand g c =
    let made : Made g.N.Node.did g.N.Node.outgoing g.N.Node.answers g.N.Node.top (g.P.Port.told c.args.port.now) (g.P.Port.told c.dial_all.new.port) c.args.self.now.watch c.dial_all.new.self.watch c.args.self.now.node c.dial_all.new.self.node
    = made_then g.N.Node.did g.N.Node.outgoing g.N.Node.answers g.N.Node.top _ _ _ _ _ _ _ _ _
    (made_then g.N.Node.did g.N.Node.outgoing g.N.Node.answers g.N.Node.top _ _ _ _ _ _ _ _ _
    (made_from g.N.Node.did g.N.Node.outgoing g.N.Node.answers g.N.Node.top _ _ _ _ _ _ _ _ c.take_batch-batch.ensures.watch c.take_batch-batch.ensures.node c.in_ok-visit_all.ensures.made) c.in_ok-accept_all.ensures.made)
    c.in_ok-dial_all.ensures.made.made in
    hand_after (g.P.Port.told c.args.port.now) (g.P.Port.told c.dial_all.new.port) made.entries (line_of c.args.self.now.watch.lines) (line_of c.dial_all.new.self.watch.lines) made.told made.follows.lines c.requires.steady.hand

pub returns-clause-made : goal.returns-clause-made
returns-clause-made g c = made_then g.N.Node.did g.N.Node.outgoing g.N.Node.answers g.N.Node.top _ _ _ _ _ _ _ _ _
    (made_then g.N.Node.did g.N.Node.outgoing g.N.Node.answers g.N.Node.top _ _ _ _ _ _ _ _ _
    (made_then g.N.Node.did g.N.Node.outgoing g.N.Node.answers g.N.Node.top _ _ _ _ _ _ _ _ _
    (made_from g.N.Node.did g.N.Node.outgoing g.N.Node.answers g.N.Node.top _ _ _ _ _ _ _ _ c.take_batch-batch.ensures.watch c.take_batch-batch.ensures.node c.in_ok-visit_all.ensures.made) c.in_ok-accept_all.ensures.made)
    c.in_ok-dial_all.ensures.made.made)
    c.in_ok-sweep.ensures.made.made

pub returns-clause-served : goal.returns-clause-served
returns-clause-served g c = served g.N.Node.did g.N.Node.outgoing g.N.Node.answers g.N.Node.top g.N.Node.takes_of c.take_batch-batch.ensures.order.0 c.args.self.now.busy.items c.as_slice.result.now _ _ _ _ _ _ _ _ _ _ _ _ _ _
    c.take_batch-batch.ensures.watch c.take_batch-batch.ensures.node (c.as_slice.ensures.value ∙ c.take_batch-batch.ensures.order.1) c.requires.steady.rests.covers c.requires.steady.single
    c.in_ok-visit_all.ensures.visited c.in_ok-accept_all.ensures.asked
    (quiet_then g.N.Node.did g.N.Node.outgoing g.N.Node.answers g.N.Node.top _ _ _ _ _ _ _ _ _ c.in_ok-dial_all.ensures.made c.in_ok-sweep.ensures.made)
