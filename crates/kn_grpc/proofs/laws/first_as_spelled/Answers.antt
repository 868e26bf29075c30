use Rattle.kn_grpc.proofs.Spellings.{spelling_of_whole, whole_of_spelling, less_partial, partial_less, bad_reason, bad_begins_none, reason_bad}
use Rattle.kn_grpc.proofs.laws.first_as_spelled.Goals as goal

pub returns-clause-whole : goal.returns-clause-whole
returns-clause-whole c text m rest e = let a = spelling_of_whole text m rest e in (a.front, a.joined, a.spells)

pub returns-clause-only_whole : goal.returns-clause-only_whole
returns-clause-only_whole c = whole_of_spelling

pub returns-clause-less : goal.returns-clause-less
returns-clause-less c = less_partial

pub returns-clause-only_less : goal.returns-clause-only_less
returns-clause-only_less c = partial_less

pub returns-clause-bad : goal.returns-clause-bad
returns-clause-bad c text r e = (bad_reason text r e, bad_begins_none text r e)

pub returns-clause-only_bad : goal.returns-clause-only_bad
returns-clause-only_bad c = reason_bad
