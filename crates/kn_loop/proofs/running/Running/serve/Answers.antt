use Rattle.std.proofs.Common.{◌≡◌, ◌∷◌, [], true, false, sym, ◌∙◌}
use Rattle.std.proofs.lemmas.Result.{on_ok_weaker}
use Rattle.kn_loop.specs.Doing.{is_busy, may_ask}
use Rattle.kn_loop.specs.Kept.{line_of}
use Rattle.kn_loop.specs.Visited.{has_visit, Within}
use Rattle.kn_loop.proofs.Once.{asked_within, exchanged_within}
use Rattle.kn_loop.proofs.Visiting.{with_weaker}
use Rattle.kn_loop.proofs.running.Running.serve.Goals as goal

pub returns-then-may_ask-clause-visited : goal.returns-then-may_ask-clause-visited
returns-then-may_ask-clause-visited g c = on_ok_weaker c.ask_once.result
    (with_weaker g.N.Node.did g.N.Node.outgoing g.N.Node.answers g.N.Node.top (λ es. (has_visit es c.args.conn ≡ true) × Within (c.args.conn ∷ []) [] [] es) (λ es. (is_busy (line_of c.args.self.now.watch.lines c.args.conn) (g.N.Node.answers c.args.self.now.node c.args.conn) ≡ true → has_visit es c.args.conn ≡ true) × Within (c.args.conn ∷ []) (c.args.conn ∷ []) (c.args.conn ∷ []) es) _ _ _ _ _ _ (λ es h. (λ busy. h.0, asked_within c.args.conn es h.1)))
    c.ask_once.ensures.visited

pub returns-else-may_ask-clause-visited : goal.returns-else-may_ask-clause-visited
returns-else-may_ask-clause-visited g c = on_ok_weaker c.exchange.result
    (with_weaker g.N.Node.did g.N.Node.outgoing g.N.Node.answers g.N.Node.top (λ es. (may_ask (line_of c.args.self.now.watch.lines c.args.conn) ≡ false → is_busy (line_of c.args.self.now.watch.lines c.args.conn) (g.N.Node.answers c.args.self.now.node c.args.conn) ≡ true → has_visit es c.args.conn ≡ true) × Within [] (c.args.conn ∷ []) (c.args.conn ∷ []) es) (λ es. (is_busy (line_of c.args.self.now.watch.lines c.args.conn) (g.N.Node.answers c.args.self.now.node c.args.conn) ≡ true → has_visit es c.args.conn ≡ true) × Within (c.args.conn ∷ []) (c.args.conn ∷ []) (c.args.conn ∷ []) es) _ _ _ _ _ _
    (λ es h. (h.0 (sym c.may_ask.ensures ∙ c.if-may_ask.false), exchanged_within c.args.conn es h.1)))
    c.exchange.ensures.visited
