use Rattle.std.proofs.Common.{◌≡◌, ◌∷◌, ◌++◌, ◌≤◌, ◌<◌, ◌+◌, ◌-◌, ℕ, List, [], true, false, None, Some, rules, refl, sym, ap, ◌∙◌, subst, arith, length, take, drop}
use Rattle.kn_loop.specs.Kept.{is_in, line_of}
use Rattle.kn_loop.proofs.Giving.{hand_turned}
use Rattle.kn_loop.proofs.running.Running.turn.Goals as goal

pub returns-in-Ok-Ready-clause-steady : goal.returns-in-Ok-Ready-clause-steady
returns-in-Ok-Ready-clause-steady g c = λ e. record {
  rests = c.in-Ok-Ready.ensures.rests;
  single = c.in-Ok-Ready.ensures.single;
  asleep = c.in-Ok-Ready.ensures.asleep;
  given = c.in-Ok-Ready.ensures.given;
  hand = hand_turned g.N.Node.did g.N.Node.outgoing g.N.Node.answers g.N.Node.top g.N.Node.to_dial g.N.Node.takes_of (g.P.Port.told c.args.port.now) (g.P.Port.told c.go_on.new.port) c.count_turn.new.self.watch c.go_on.new.self.watch
      c.count_turn.new.self.node c.go_on.new.self.node c.in-Ok-Ready.field-0 c.in-Ok-Ready.ensures.turned (rw c.count_turn.ensures.watch c.requires.steady.hand);
}
