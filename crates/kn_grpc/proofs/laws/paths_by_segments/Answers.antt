use Rattle.kn_grpc.proofs.Segments.{path_named, named_path}
use Rattle.kn_grpc.proofs.laws.paths_by_segments.Goals as goal

pub returns-clause-named : goal.returns-clause-named
returns-clause-named c = path_named

pub returns-clause-only_named : goal.returns-clause-only_named
returns-clause-only_named c = named_path
