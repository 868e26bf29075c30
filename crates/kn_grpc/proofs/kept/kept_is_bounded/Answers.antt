use Rattle.kn_grpc.proofs.KeptBytes.{kept_is_bounded}
use Rattle.kn_grpc.proofs.kept.kept_is_bounded.Goals as goal

pub returns : goal.returns
returns c = kept_is_bounded
