use Rattle.kn_h2_courses.proofs.TextLaws.{text_is_heard}
use Rattle.kn_h2_courses.proofs.laws.text_is_heard.Goals as goal

pub returns : goal.returns
returns c = text_is_heard
