use Rattle.std.proofs.Common.{◌≡◌, take, false}
use Rattle.std.specs.List.{list_any}
use Rattle.kn_route.specs.Meanings.{fits}
use Rattle.kn_route.proofs.identifiers.Identifiers.fit.Given as goal

abbrev pub invariant-loop-pair : goal.invariant-loop-pair
invariant-loop-pair l = list_any (fits l.host) (take l.pair-index l.pair-items) ≡ false
