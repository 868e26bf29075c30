use Rattle.kn_h2_state.proofs.OwnFactLaws.{own_facts_begin, own_facts_are_kept}
use Rattle.kn_h2_state.proofs.laws.own_facts_stay.Goals as goal

pub returns-clause-first : goal.returns-clause-first
returns-clause-first c = own_facts_begin

pub returns-clause-kept : goal.returns-clause-kept
returns-clause-kept c = own_facts_are_kept
