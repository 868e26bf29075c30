use Rattle.std.proofs.Common.{true, None, ap, ◌∙◌}
use Rattle.std.proofs.lemmas.Result.{on_ok_weaker}
use Rattle.kn_h2_state.specs.declared.judgement.Judgement.TheVariants.{Broken, Kept, EndsBlock}
use Rattle.kn_h2_state.specs.declared.state.State.{State}
use Rattle.kn_h2_state.specs.Rules.{verdict}
use Rattle.kn_h2_state.specs.Effects.{fail, effect, head_of}
use Rattle.kn_h2_state.specs.Verdicts.{JudgesBy}
use Rattle.kn_h2.proofs.RuleLemmas.{passes_rules, passes_began}
use Rattle.kn_h2.proofs.EffectLemmas.{after_broken, after_kept, after_block}
use Rattle.kn_h2.proofs.frames.take_frame.Goals as goal

pub effect-requires-clause-passes : goal.effect-requires-clause-passes
effect-requires-clause-passes c =
    let s = c.args.state.now in
    let f = c.args.frame.now in
    let j : JudgesBy (verdict s f) s f Kept c.judge.new.state = rw c.in-Ok-Kept.field-0-is at c.in-Ok-Kept.ensures in
    rw j.2 (passes_began s f (passes_rules s f j.0))

pub returns-in-Ok-Broken : goal.returns-in-Ok-Broken
returns-in-Ok-Broken c =
    let s = c.args.state.now in
    let f = c.args.frame.now in
    let code = c.in-Ok-Broken.code in
    let j : JudgesBy (verdict s f) s f (Broken code) c.judge.new.state = rw c.in-Ok-Broken.field-0-is at c.in-Ok-Broken.ensures in
    on_ok_weaker c.fail.result (λ e. e ∙ ap (fail code) j.1 ∙ after_broken s f code c.requires.going j.0) c.fail.ensures

pub returns-in-Ok-Kept : goal.returns-in-Ok-Kept
returns-in-Ok-Kept c =
    let s = c.args.state.now in
    let f = c.args.frame.now in
    let j : JudgesBy (verdict s f) s f Kept c.judge.new.state = rw c.in-Ok-Kept.field-0-is at c.in-Ok-Kept.ensures in
    on_ok_weaker c.effect.result (λ e. e ∙ ap (λ (t : State). effect (record t { began = true }) f) j.2 ∙ after_kept s f c.requires.going j.0) c.effect.ensures

pub returns-in-Ok-EndsBlock : goal.returns-in-Ok-EndsBlock
returns-in-Ok-EndsBlock c =
    let s = c.args.state.now in
    let f = c.args.frame.now in
    let table = c.judge.new.state.decoder in
    let ends = c.in-Ok-EndsBlock.ends in
    let fields = c.in-Ok-EndsBlock.fields in
    let j : JudgesBy (verdict s f) s f (EndsBlock ends fields) c.judge.new.state = rw c.in-Ok-EndsBlock.field-0-is at c.in-Ok-EndsBlock.ensures in
    on_ok_weaker c.head_of.result
    (λ e. e ∙ ap (λ (t : State). head_of f.stream ends fields (record t { began = true })) j.4
    ∙ ap (λ b. head_of f.stream b fields (record s { began = true; block = None; decoder = table })) j.2
    ∙ after_block s f table fields c.requires.going j.0 j.1 j.3)
    c.head_of.ensures
