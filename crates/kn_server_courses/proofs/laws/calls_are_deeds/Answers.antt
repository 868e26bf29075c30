-- A call is its own part and its steps.
use Rattle.kn_server_courses.proofs.CallLemmas.{calls_are_deeds}
use Rattle.kn_server_courses.proofs.laws.calls_are_deeds.Goals as goal

pub returns : goal.returns
returns c = calls_are_deeds
