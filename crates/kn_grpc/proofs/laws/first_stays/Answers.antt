use Rattle.kn_grpc.proofs.Spellings.{whole_stays, bad_stays}
use Rattle.kn_grpc.proofs.laws.first_stays.Goals as goal

pub returns-clause-whole : goal.returns-clause-whole
returns-clause-whole c = whole_stays

pub returns-clause-bad : goal.returns-clause-bad
returns-clause-bad c = bad_stays
