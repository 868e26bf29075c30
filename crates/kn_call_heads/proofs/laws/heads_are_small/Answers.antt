use Rattle.kn_call_heads.proofs.SizeFacts.{calls_are_small, answers_are_small, refusals_are_small, ends_are_small}
use Rattle.kn_call_heads.proofs.laws.heads_are_small.Goals as goal

pub returns-clause-calls : goal.returns-clause-calls
returns-clause-calls c = calls_are_small

pub returns-clause-answers : goal.returns-clause-answers
returns-clause-answers c = answers_are_small

pub returns-clause-refusals : goal.returns-clause-refusals
returns-clause-refusals c = refusals_are_small

pub returns-clause-ends : goal.returns-clause-ends
returns-clause-ends c = ends_are_small
