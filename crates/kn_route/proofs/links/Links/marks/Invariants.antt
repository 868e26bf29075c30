use Rattle.std.proofs.Common.{◌≡◌, map, take}
use Rattle.kn_route.specs.LinkLists.{mark_of}
use Rattle.kn_route.proofs.links.Links.marks.Given as goal

abbrev pub invariant-loop-link : goal.invariant-loop-link
invariant-loop-link l = l.marks ≡ map mark_of (take l.link-index l.link-items)
