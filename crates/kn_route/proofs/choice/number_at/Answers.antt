use Rattle.std.proofs.Common.{sym, ◌∙◌}
use Rattle.kn_route.specs.Choice.{is_candidate}
use Rattle.kn_route.proofs.ChoiceLemmas.{number_found}
use Rattle.kn_route.proofs.choice.number_at.Goals as goal

pub returns-then-left-eq0 : goal.returns-then-left-eq0
returns-then-left-eq0 c =
    number_found (λ l. l.number) (is_candidate c.args.strategy.now c.args.host.now c.args.draining)
    c.args.links.now c.loop-link.link-index c.loop-link.left c.args.place c.link-item.result
    c.loop-link-test.true c.link-item.is (sym c.is_candidate.ensures ∙ c.if-is_candidate.true)
    c.loop-link.invariant c.if-left-eq0.true
