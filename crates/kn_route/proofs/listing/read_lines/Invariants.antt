use Rattle.std.proofs.Common.{◌≡◌, ◌+◌, ◌≤◌, length}
use Rattle.kn_route.specs.LinkLists.{no_links}
use Rattle.kn_route.specs.Listing.{lines_of, with_line}
use Rattle.kn_route.specs.Steps.{steps}
use Rattle.kn_route.proofs.listing.read_lines.Given as goal

abbrev pub invariant-loop-rest : goal.invariant-loop-rest
invariant-loop-rest l =
    (steps with_line no_links (lines_of l.fn.bytes) ≡ steps with_line l.links (lines_of l.rest))
    × (l.links.top + length l.rest ≤ length l.fn.bytes)

abbrev pub decreases-loop-rest : goal.decreases-loop-rest
decreases-loop-rest l = length l.rest
