use Rattle.kn_grpc.specs.Messages.{spelled}
use Rattle.kn_grpc.proofs.Spellings.{spelled_spells, whole_of_spelling}
use Rattle.kn_grpc.proofs.laws.read_as_written.Goals as goal

pub returns-clause-spelling : goal.returns-clause-spelling
returns-clause-spelling c = spelled_spells

pub returns-clause-first : goal.returns-clause-first
returns-clause-first c m rest h = whole_of_spelling m (spelled m) rest (spelled_spells m h)
