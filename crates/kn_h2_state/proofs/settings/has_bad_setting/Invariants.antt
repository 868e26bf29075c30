use Rattle.std.proofs.Common.{◌≡◌, length}
use Rattle.std.specs.List.{list_any}
use Rattle.kn_h2_state.specs.Payloads.{settings_of}
use Rattle.kn_h2_state.specs.Rules.{is_bad_setting}
use Rattle.kn_h2_state.proofs.settings.has_bad_setting.Given as goal

-- the settings that were looked at are in their range
abbrev pub invariant-loop-setting : goal.invariant-loop-setting
invariant-loop-setting l = list_any (is_bad_setting l.role) (settings_of l.payload) ≡ list_any (is_bad_setting l.role) (settings_of l.rest)

abbrev pub decreases-loop-setting : goal.decreases-loop-setting
decreases-loop-setting l = length l.rest
