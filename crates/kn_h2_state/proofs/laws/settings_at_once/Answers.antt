use Rattle.kn_h2_state.proofs.SettingFacts.{settings_at_once, last_fits}
use Rattle.kn_h2_state.proofs.laws.settings_at_once.Goals as goal

pub returns-clause-once : goal.returns-clause-once
returns-clause-once c = settings_at_once

pub returns-clause-fits : goal.returns-clause-fits
returns-clause-fits c = last_fits
