use Rattle.std.proofs.Common.{◌≡◌, take, false}
use Rattle.std.specs.List.{list_any}
use Rattle.kn_route.specs.Meanings.{is_default_route}
use Rattle.kn_route.proofs.identifiers.Identifiers.take_every_dial.Given as goal

abbrev pub invariant-loop-pair : goal.invariant-loop-pair
invariant-loop-pair l = list_any is_default_route (take l.pair-index l.pair-items) ≡ false
