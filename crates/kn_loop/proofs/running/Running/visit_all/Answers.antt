use Rattle.std.proofs.Common.{◌≡◌, ◌∷◌, [], rules, refl, inl, sym, ◌∙◌, subst}
use Rattle.std.proofs.lemmas.List.{nil_from_length}
use Rattle.kn_loop.specs.Calls.{unpaused}
use Rattle.kn_loop.specs.Kept.{is_in, line_of}
use Rattle.kn_loop.specs.Turns.{CoversBut, AreAllGiven}
use Rattle.kn_loop.proofs.Making.{made_then, nothing_made}
use Rattle.kn_loop.proofs.Covering.{covers_after}
use Rattle.kn_loop.specs.Known.{known_of}
use Rattle.kn_loop.specs.Visited.{MadeWith}
use Rattle.kn_loop.proofs.Once.{WithinBut, same_le, within_begun}
use Rattle.kn_loop.proofs.Visiting.{VisitsBut, batch_next, batch_done, with_nothing}
use Rattle.kn_loop.proofs.running.Running.visit_all.Goals as goal

pub loop-first-preserved : goal.loop-first-preserved
loop-first-preserved g c =
    let split : c.loop-first.rest.now ≡ c.in-Some.first.now ∷ c.in-Some.after.now = search rules in
    let given : AreAllGiven (c.in-Some.first.now ∷ c.in-Some.after.now) (g.N.Node.top c.loop-first.self.node) = subst (λ ns. AreAllGiven ns (g.N.Node.top c.loop-first.self.node)) split c.loop-first.invariant.given in
    let cov : CoversBut (is_in c.loop-first.self.awake) (is_in (c.in-Some.first.now ∷ c.in-Some.after.now)) (line_of c.loop-first.self.watch.lines) (unpaused (g.N.Node.answers c.loop-first.self.node))
    = subst (λ ns. CoversBut (is_in c.loop-first.self.awake) (is_in ns) (line_of c.loop-first.self.watch.lines) (unpaused (g.N.Node.answers c.loop-first.self.node))) split c.loop-first.invariant.covers in
    let vis : MadeWith g.N.Node.did g.N.Node.outgoing g.N.Node.answers g.N.Node.top (λ es. VisitsBut g.N.Node.did g.N.Node.outgoing g.N.Node.answers g.N.Node.top (is_in c.args.batch.now) (is_in (c.in-Some.first.now ∷ c.in-Some.after.now)) (known_of c.args.self.now.watch) c.args.self.now.node c.loop-first.self.node es × WithinBut (c.in-Some.first.now ∷ c.in-Some.after.now) c.args.batch.now es) (g.P.Port.told c.args.port.now) (g.P.Port.told c.loop-first.port) c.args.self.now.watch c.loop-first.self.watch c.args.self.now.node c.loop-first.self.node
    = subst (λ ns. MadeWith g.N.Node.did g.N.Node.outgoing g.N.Node.answers g.N.Node.top (λ es. VisitsBut g.N.Node.did g.N.Node.outgoing g.N.Node.answers g.N.Node.top (is_in c.args.batch.now) (is_in ns) (known_of c.args.self.now.watch) c.args.self.now.node c.loop-first.self.node es × WithinBut ns c.args.batch.now es) (g.P.Port.told c.args.port.now) (g.P.Port.told c.loop-first.port) c.args.self.now.watch c.loop-first.self.watch c.args.self.now.node c.loop-first.self.node) split c.loop-first.invariant.visited in
    record {
      made = made_then g.N.Node.did g.N.Node.outgoing g.N.Node.answers g.N.Node.top _ _ _ _ _ _ _ _ _ c.loop-first.invariant.made c.in_ok-visit.ensures.made;
      covers = covers_after c.in-Some.first.now c.in-Some.after.now (is_in c.loop-first.self.awake) (is_in c.visit.new.self.awake) (line_of c.loop-first.self.watch.lines) (line_of c.visit.new.self.watch.lines) (unpaused (g.N.Node.answers c.loop-first.self.node)) (unpaused (g.N.Node.answers c.visit.new.self.node)) cov c.in_ok-visit.ensures.visits;
      conns = λ k. c.in_ok-visit.ensures.conns k ∙ c.loop-first.invariant.conns k;
      held = c.in_ok-visit.ensures.held ∙ c.loop-first.invariant.held;
      given = subst (λ top. AreAllGiven c.in-Some.after.now top) (sym c.in_ok-visit.ensures.top) given.2;
      below = rw (c.in_ok-visit.ensures.top, c.visit.ensures.last) c.loop-first.invariant.below;
      top = c.in_ok-visit.ensures.top ∙ c.loop-first.invariant.top;
      faults = search rules;
      last = c.visit.ensures.last ∙ c.loop-first.invariant.last;
      visited = batch_next g.N.Node.did g.N.Node.outgoing g.N.Node.answers g.N.Node.top c.args.batch.now c.in-Some.first.now c.in-Some.after.now _ _ _ _ _ _ _ _ _ vis c.in_ok-visit.ensures.visited;
    }

pub returns-clause-visited : goal.returns-clause-visited
returns-clause-visited g c =
    let none : c.loop-first.rest.now ≡ [] = nil_from_length c.loop-first.rest.now (search rules) in
    batch_done g.N.Node.did g.N.Node.outgoing g.N.Node.answers g.N.Node.top c.args.batch.now _ _ _ _ _ _
    (subst (λ ns. MadeWith g.N.Node.did g.N.Node.outgoing g.N.Node.answers g.N.Node.top (λ es. VisitsBut g.N.Node.did g.N.Node.outgoing g.N.Node.answers g.N.Node.top (is_in c.args.batch.now) (is_in ns) (known_of c.args.self.now.watch) c.args.self.now.node c.loop-first.self.node es × WithinBut ns c.args.batch.now es) (g.P.Port.told c.args.port.now) (g.P.Port.told c.loop-first.port) c.args.self.now.watch c.loop-first.self.watch c.args.self.now.node c.loop-first.self.node) none c.loop-first.invariant.visited)

pub loop-first-init : goal.loop-first-init
loop-first-init g c = record {
  made = nothing_made g.N.Node.did g.N.Node.outgoing g.N.Node.answers g.N.Node.top _ _ _;
  covers = c.requires.covers;
  conns = λ k. refl;
  held = refl;
  given = c.requires.given;
  below = c.requires.below;
  top = refl;
  faults = same_le (g.P.Port.faults c.args.port.now);
  last = refl;
  visited = with_nothing g.N.Node.did g.N.Node.outgoing g.N.Node.answers g.N.Node.top (λ es. VisitsBut g.N.Node.did g.N.Node.outgoing g.N.Node.answers g.N.Node.top (is_in c.args.batch.now) (is_in c.args.batch.now) (known_of c.args.self.now.watch) c.args.self.now.node c.args.self.now.node es × WithinBut c.args.batch.now c.args.batch.now es)
      (λ k m busy. inl m, within_begun c.args.batch.now) _ _ _;
}
