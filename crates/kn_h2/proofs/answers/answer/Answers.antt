use Rattle.std.proofs.Common.{sym, subst}
use Rattle.kn_h2_state.specs.Calls.{takes_more}
use Rattle.kn_h2_state.specs.Holding.{Holds}
use Rattle.kn_h2.proofs.AnswerLemmas.{number_of_call, holds_answer}
use Rattle.kn_h2.proofs.answers.answer.Goals as goal

pub write_answer-requires : goal.write_answer-requires
write_answer-requires c = number_of_call c.args.state.now c.args.number takes_more (sym c.in-None.ensures) c.requires

pub returns-in-Ok-clause-holds : goal.returns-in-Ok-clause-holds
returns-in-Ok-clause-holds c = subst Holds (sym c.in-Ok.ensures) (holds_answer c.args.number c.args.headers.now c.args.state.now c.requires)
