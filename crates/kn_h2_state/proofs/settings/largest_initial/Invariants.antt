use Rattle.std.proofs.Common.{◌≡◌, length, None}
use Rattle.kn_h2_state.specs.Payloads.{settings_of}
use Rattle.kn_h2_state.specs.Settings.{largest_initial}
use Rattle.kn_h2_state.proofs.settings.largest_initial.Given as goal

-- the largest of those that were looked at is the one before for the others
abbrev pub invariant-loop-setting : goal.invariant-loop-setting
invariant-loop-setting l = largest_initial None (settings_of l.payload) ≡ largest_initial l.most (settings_of l.rest)

abbrev pub decreases-loop-setting : goal.decreases-loop-setting
decreases-loop-setting l = length l.rest
