use Rattle.std.proofs.Common.{◌∙◌}
use Rattle.std.proofs.lemmas.Result.{on_ok_weaker}
use Rattle.kn_h2.proofs.EffectLemmas.{effect_reset}
use Rattle.kn_h2.proofs.frames.effect.Goals as goal

pub returns-then-frame-eq-RST_STREAM : goal.returns-then-frame-eq-RST_STREAM
returns-then-frame-eq-RST_STREAM c = on_ok_weaker c.reset.result (λ e. e ∙ effect_reset c.args.state.now c.args.frame.now c.if-frame-eq-RST_STREAM.true) c.reset.ensures
