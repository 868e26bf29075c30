-- At the end of a call no step may be made.
use Rattle.kn_server_courses.proofs.HoldLemmas.{only_pauses, only_pauses_text, only_pauses_early}
use Rattle.kn_server_courses.proofs.laws.only_pauses_hold_what_is_whole.Goals as goal

pub returns : goal.returns
returns c = record { messages = only_pauses; text = only_pauses_text; early = only_pauses_early }
