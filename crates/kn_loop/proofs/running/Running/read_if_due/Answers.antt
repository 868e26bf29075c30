use Rattle.std.proofs.Common.{◌≡◌, ◌∷◌, [], true, sym, ◌∙◌}
use Rattle.std.proofs.lemmas.Result.{on_ok_weaker}
use Rattle.kn_loop.specs.Kept.{line_of}
use Rattle.kn_loop.specs.Doing.{reads_now}
use Rattle.kn_loop.specs.Visited.{has_visit, Within}
use Rattle.kn_loop.proofs.Visiting.{with_weaker, with_nothing}
use Rattle.kn_loop.proofs.Once.{not_both, within_nothing}
use Rattle.kn_loop.proofs.running.Running.read_if_due.Goals as goal

pub returns-then-reads_now-clause-visited : goal.returns-then-reads_now-clause-visited
returns-then-reads_now-clause-visited g c = on_ok_weaker c.read_once.result
    (with_weaker g.N.Node.did g.N.Node.outgoing g.N.Node.answers g.N.Node.top (λ es. (has_visit es c.args.conn ≡ true) × Within [] (c.args.conn ∷ []) [] es) (λ es. (reads_now (line_of c.args.self.now.watch.lines c.args.conn) (g.N.Node.answers c.args.self.now.node c.args.conn) ≡ true → has_visit es c.args.conn ≡ true) × Within [] (c.args.conn ∷ []) [] es) _ _ _ _ _ _ (λ es h. (λ e. h.0, h.1)))
    c.read_once.ensures.visited

pub returns-clause-visited : goal.returns-clause-visited
returns-clause-visited g c = with_nothing g.N.Node.did g.N.Node.outgoing g.N.Node.answers g.N.Node.top (λ es. (reads_now (line_of c.args.self.now.watch.lines c.args.conn) (g.N.Node.answers c.args.self.now.node c.args.conn) ≡ true → has_visit es c.args.conn ≡ true) × Within [] (c.args.conn ∷ []) [] es)
    (λ e. not_both (reads_now (line_of c.args.self.now.watch.lines c.args.conn) (g.N.Node.answers c.args.self.now.node c.args.conn)) (sym c.reads_now.ensures.value ∙ c.if-reads_now.false) e, within_nothing [] (c.args.conn ∷ []) []) _ _ _
