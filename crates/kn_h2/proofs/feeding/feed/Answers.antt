use Rattle.std.proofs.Common.{sym, ◌∙◌}
use Rattle.kn_h2.proofs.PieceLemmas.{piece_over}
use Rattle.kn_h2.proofs.feeding.feed.Goals as goal

pub returns-then-is_some-clause-after : goal.returns-then-is_some-clause-after
returns-then-is_some-clause-after c = piece_over c.args.cutter.now c.args.state.now c.args.piece.now (sym c.is_some.ensures ∙ c.if-is_some.true)
