use Rattle.kn_grpc.specs.Courses.{begins}
use Rattle.kn_grpc.proofs.Streams.{begins_course, all_acts, one_reading}
use Rattle.kn_grpc.proofs.laws.taken_as_spelled.Goals as goal

pub returns-clause-course : goal.returns-clause-course
returns-clause-course c acts = all_acts begins acts begins_course

pub returns-clause-one : goal.returns-clause-one
returns-clause-one c = one_reading
