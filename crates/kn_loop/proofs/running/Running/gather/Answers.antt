use Rattle.std.proofs.Common.{◌≡◌, ◌∷◌, ◌++◌, ◌≤◌, ◌<◌, ◌+◌, ℕ, List, [], true, false, rules, refl, sym, ap, ◌∙◌, subst, arith, length, take, drop}
use Rattle.kn_loop.specs.Kept.{is_in, line_of}
use Rattle.kn_loop.specs.Turns.{NoneDue}
use Rattle.kn_loop.proofs.Once.{apart_end}
use Rattle.kn_loop.proofs.running.Running.gather.Goals as goal

pub loop-conn-preserved : goal.loop-conn-preserved
loop-conn-preserved g c = record {
  none = rw (c.keep_one.ensures.watch, c.keep_one.ensures.node) c.loop-conn.invariant.none;
  apart = c.in_ok-keep_one.ensures.apart;
  covers = c.in_ok-keep_one.ensures.covers;
  busy = c.in_ok-keep_one.ensures.busy;
  node = c.keep_one.ensures.node ∙ c.loop-conn.invariant.node;
  watch = c.keep_one.ensures.watch ∙ c.loop-conn.invariant.watch;
}

pub returns-clause-single : goal.returns-clause-single
returns-clause-single g c = let none : c.loop-conn.self.awake ≡ [] = search rules in apart_end c.loop-conn.self.busy.items c.loop-conn.self.awake none c.loop-conn.invariant.apart
