use Rattle.kn_frames.proofs.MissingBytes.{fewer_bytes, as_many_bytes}
use Rattle.kn_frames.proofs.missing.ends_with_the_missing.Goals as goal

pub returns-clause-fewer : goal.returns-clause-fewer
returns-clause-fewer c = fewer_bytes

pub returns-clause-as_many : goal.returns-clause-as_many
returns-clause-as_many c = as_many_bytes
