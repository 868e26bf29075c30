use Rattle.kn_h2_courses.proofs.StreamWindowLaws.{stream_windows_are_sums}
use Rattle.kn_h2_courses.proofs.laws.stream_windows_are_sums.Goals as goal

pub returns : goal.returns
returns c = stream_windows_are_sums
