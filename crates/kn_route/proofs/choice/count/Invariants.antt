use Rattle.std.proofs.Common.{◌≡◌, ◌≤◌, length, take}
use Rattle.std.specs.Prelude.{filter}
use Rattle.kn_route.specs.Choice.{is_candidate}
use Rattle.kn_route.proofs.choice.count.Given as goal

abbrev pub invariant-loop-link : goal.invariant-loop-link
invariant-loop-link l =
    (l.count ≡ length (filter (is_candidate l.strategy l.host l.draining) (take l.link-index l.links)))
    × (l.count ≤ l.link-index)
