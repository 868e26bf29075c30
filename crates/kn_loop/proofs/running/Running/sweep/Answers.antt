use Rattle.std.proofs.Common.{◌≡◌, ◌∷◌, ◌++◌, ◌≤◌, ◌<◌, ◌+◌, ℕ, List, [], true, false, rules, refl, sym, ap, ◌∙◌, subst, arith, length, take, drop}
use Rattle.kn_loop.specs.Kept.{is_in, line_of}
use Rattle.kn_loop.proofs.Visiting.{quiet_then, quiet_nothing}
use Rattle.kn_loop.proofs.Giving.{hand_after}
use Rattle.kn_loop.proofs.Once.{apart_begun, apart_end, same_le}
use Rattle.kn_loop.proofs.running.Running.sweep.Goals as goal

pub loop-conn-preserved : goal.loop-conn-preserved
loop-conn-preserved g c = record {
  made = quiet_then g.N.Node.did g.N.Node.outgoing g.N.Node.answers g.N.Node.top _ _ _ _ _ _ _ _ _ c.loop-conn.invariant.made c.in_ok-settle_one.ensures.made;
  given = c.in_ok-settle_one.ensures.given;
  hand = hand_after (g.P.Port.told c.loop-conn.port) (g.P.Port.told c.settle_one.new.port) c.in_ok-settle_one.ensures.made.made.entries (line_of c.loop-conn.self.watch.lines) (line_of c.settle_one.new.self.watch.lines)
      c.in_ok-settle_one.ensures.made.made.told c.in_ok-settle_one.ensures.made.made.follows.lines c.loop-conn.invariant.hand;
  apart = c.in_ok-settle_one.ensures.apart;
  covers = c.in_ok-settle_one.ensures.covers;
  busy = c.in_ok-settle_one.ensures.busy;
  node = c.settle_one.ensures.node ∙ c.loop-conn.invariant.node;
  faults = search rules;
}

pub returns-clause-single : goal.returns-clause-single
returns-clause-single g c = let none : c.loop-conn.self.awake ≡ [] = search rules in apart_end c.loop-conn.self.busy.items c.loop-conn.self.awake none c.loop-conn.invariant.apart

pub loop-conn-init : goal.loop-conn-init
loop-conn-init g c = record {
  made = quiet_nothing g.N.Node.did g.N.Node.outgoing g.N.Node.answers g.N.Node.top (g.P.Port.told c.args.port.now) c.args.self.now.watch c.args.self.now.node;
  given = c.requires.given;
  hand = c.requires.hand;
  apart = apart_begun c.args.self.now.busy.items c.args.self.now.awake c.requires.empty c.holds.ensures;
  covers = search rules;
  busy = search rules;
  node = refl;
  faults = same_le (g.P.Port.faults c.args.port.now);
}
