use Rattle.kn_h2_state.proofs.OwnSteps.{own_steps_are_heard, in_turn}
use Rattle.kn_h2_state.proofs.laws.own_steps_are_heard.Goals as goal

pub returns-clause-steps : goal.returns-clause-steps
returns-clause-steps c = own_steps_are_heard

pub returns-clause-turns : goal.returns-clause-turns
returns-clause-turns c = in_turn
