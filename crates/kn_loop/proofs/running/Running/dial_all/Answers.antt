use Rattle.std.proofs.Common.{◌≡◌, ◌∷◌, ◌++◌, ◌≤◌, ◌<◌, ◌+◌, ◌-◌, ℕ, List, [], true, false, None, Some, rules, refl, sym, ap, ◌∙◌, subst, arith, length, take, drop}
use Rattle.kn_loop.specs.Kept.{is_in, line_of}
use Rattle.kn_loop.proofs.Visiting.{quiet_then, quiet_nothing}
use Rattle.kn_loop.proofs.Once.{same_le}
use Rattle.kn_loop.proofs.running.Running.dial_all.Goals as goal

pub loop-round-preserved : goal.loop-round-preserved
loop-round-preserved g c = record {
  made = quiet_then g.N.Node.did g.N.Node.outgoing g.N.Node.answers g.N.Node.top _ _ _ _ _ _ _ _ _ c.loop-round.invariant.made c.in_ok-dial_one.ensures.made;
  covers = c.in_ok-dial_one.ensures.covers;
  given = c.in_ok-dial_one.ensures.given;
  faults = search rules;
}

pub returns-then-not-branch-clause-made : goal.returns-then-not-branch-clause-made
returns-then-not-branch-clause-made g c = quiet_then g.N.Node.did g.N.Node.outgoing g.N.Node.answers g.N.Node.top _ _ _ _ _ _ _ _ _ c.loop-round.invariant.made c.in_ok-dial_one.ensures.made

pub loop-round-init : goal.loop-round-init
loop-round-init g c = record {
  made = quiet_nothing g.N.Node.did g.N.Node.outgoing g.N.Node.answers g.N.Node.top (g.P.Port.told c.args.port.now) c.args.self.now.watch c.args.self.now.node;
  covers = c.requires.covers;
  given = c.requires.given;
  faults = same_le (g.P.Port.faults c.args.port.now);
}
