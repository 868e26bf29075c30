use Rattle.std.proofs.Common.{◌≡◌, ◌++◌, length}
use Rattle.kn_ends.specs.Queues.{tagged}
use Rattle.kn_ends.proofs.told.Told.append.Given as goal

-- what was told and what is still to be told are together all of it
abbrev pub invariant-loop-event : goal.invariant-loop-event
invariant-loop-event l = l.self ++ tagged l.conn l.rest ≡ l.fn.self ++ tagged l.fn.conn l.fn.events

abbrev pub decreases-loop-event : goal.decreases-loop-event
decreases-loop-event l = length l.rest
