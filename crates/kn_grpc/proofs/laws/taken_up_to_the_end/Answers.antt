use Rattle.kn_grpc.proofs.Streams.{taken_less, taken_whole, taken_bad, none_whole, none_bad}
use Rattle.kn_grpc.proofs.laws.taken_up_to_the_end.Goals as goal

pub returns-clause-less : goal.returns-clause-less
returns-clause-less c = taken_less

pub returns-clause-whole : goal.returns-clause-whole
returns-clause-whole c kept piece m rest l e = let w = taken_whole kept piece m rest l e in (w.count, w.held)

pub returns-clause-bad : goal.returns-clause-bad
returns-clause-bad c = taken_bad

pub returns-clause-none_whole : goal.returns-clause-none_whole
returns-clause-none_whole c = none_whole

pub returns-clause-none_bad : goal.returns-clause-none_bad
returns-clause-none_bad c = none_bad
