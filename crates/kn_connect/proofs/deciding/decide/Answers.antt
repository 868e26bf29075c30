use Rattle.std.proofs.Common.{◌≡◌, ℕ, List, ◌++◌, sym, ◌∙◌, subst}
use Rattle.kn_connect.specs.Answers.{Answers}
use Rattle.kn_connect.specs.Heads.{IsUnfinished, IsDecided}
use Rattle.kn_connect.specs.Fronts.{IsCut}
use Rattle.kn_connect.proofs.Unfinished.{unfinished_at}
use Rattle.kn_connect.proofs.deciding.decide.Goals as goal

pub answer_unfinished-requires-clause-head : goal.answer_unfinished-requires-clause-head
answer_unfinished-requires-clause-head c =
    subst IsUnfinished (c.as_slice.ensures ∙ sym c.as_slice-in-Some.ensures) (unfinished_at c.as_slice.result.now c.in-Some.place c.in-Some.ensures)

pub answer_decided-requires-clause-head : goal.answer_decided-requires-clause-head
answer_decided-requires-clause-head c = subst IsDecided (c.as_slice.ensures ∙ sym c.as_slice-in-None.ensures) c.in-None.ensures

pub returns-in-Some-clause-answer : goal.returns-in-Some-clause-answer
returns-in-Some-clause-answer c =
    let beyond = c.args.beyond.now in
    let first : c.as_slice-in-Some.result.now ≡ c.args.state.now.bytes ++ c.args.front.now = c.as_slice-in-Some.ensures ∙ c.in-Ok.ensures.ok in
    let cut = subst (λ (t : List ℕ). IsCut t beyond) (sym first) c.requires.cut in
    subst (λ (t : List ℕ). Answers (t ++ beyond) c.answer_unfinished.result) first (c.answer_unfinished.ensures.answer beyond cut)
