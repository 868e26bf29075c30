-- By the choice.
use Rattle.kn_refinement.proofs.Decided.{decided, unanswered}
use Rattle.kn_refinement.proofs.choice_laws.choices_decide.Goals as goal

pub returns : goal.returns
returns c = record {
  decided = λ s front protocol address random choice e. decided s front protocol address random choice e;
  only = λ s front other protocol address random connect_id asked it. unanswered s front protocol address random other connect_id asked it;
}
