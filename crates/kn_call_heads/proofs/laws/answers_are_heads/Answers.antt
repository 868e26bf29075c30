use Rattle.kn_call_heads.proofs.HeadFacts.{answers_are_heads, refusals_are_heads}
use Rattle.kn_call_heads.proofs.laws.answers_are_heads.Goals as goal

pub returns-clause-answers : goal.returns-clause-answers
returns-clause-answers c = answers_are_heads

pub returns-clause-refusals : goal.returns-clause-refusals
returns-clause-refusals c = refusals_are_heads
