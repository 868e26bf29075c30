use Rattle.std.proofs.Common.{◌≡◌, length}
use Rattle.kn_h2_state.specs.Payloads.{settings_of}
use Rattle.kn_h2_state.specs.Settings.{last_of}
use Rattle.kn_h2_state.proofs.settings.last_of.Given as goal

-- the last of those that were looked at is the one before for the others
abbrev pub invariant-loop-setting : goal.invariant-loop-setting
invariant-loop-setting l = last_of l.number l.fn.before (settings_of l.payload) ≡ last_of l.number l.last (settings_of l.rest)

abbrev pub decreases-loop-setting : goal.decreases-loop-setting
decreases-loop-setting l = length l.rest
