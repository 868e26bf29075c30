use Rattle.std.proofs.Common.{◌≡◌, ◌∷◌, ◌++◌, ◌≤◌, ◌<◌, ◌+◌, ◌-◌, ℕ, List, [], true, false, None, Some, rules, refl, sym, ap, ◌∙◌, subst, arith, length, take, drop}
use Rattle.kn_loop.specs.Calls.{unpaused}
use Rattle.kn_loop.specs.Kept.{is_in, line_of}
use Rattle.kn_loop.proofs.Covering.{covers_wakes}
use Rattle.kn_loop.specs.Calls.{DialTaken}
use Rattle.kn_loop.proofs.Visiting.{quiet_dial, quiet_nothing}
use Rattle.kn_loop.proofs.running.Running.dial_one.Goals as goal

pub dial-requires-clause-covers : goal.dial-requires-clause-covers
dial-requires-clause-covers g c = covers_wakes (is_in c.args.self.now.awake) (is_in c.next_dial.new.awake) (line_of c.args.self.now.watch.lines) (unpaused (g.N.Node.answers c.args.self.now.node)) (unpaused (g.N.Node.answers c.next_dial.new.self)) c.requires.covers c.in_ok-ticket.ensures.wakes

pub returns-in_ok-dial-in-Some-clause-made : goal.returns-in_ok-dial-in-Some-clause-made
returns-in_ok-dial-in-Some-clause-made g c =
    let took : g.N.Node.did c.args.self.now.node (DialTaken c.in-Some.ticket c.as_str.result.now) c.next_dial.new.self = search rules in
    quiet_dial g.N.Node.did g.N.Node.outgoing g.N.Node.answers g.N.Node.top c.in-Some.ticket c.as_str.result.now _ _ _ _ c.args.self.now.node c.next_dial.new.self c.dial.new.self.node took c.in_ok-dial-in-Some.ensures.dialled

pub returns-in-None-clause-made : goal.returns-in-None-clause-made
returns-in-None-clause-made g c =
    let same : c.next_dial.new.self ≡ c.args.self.now.node = search rules in
    rw same (quiet_nothing g.N.Node.did g.N.Node.outgoing g.N.Node.answers g.N.Node.top (g.P.Port.told c.args.port.now) c.args.self.now.watch c.args.self.now.node)
