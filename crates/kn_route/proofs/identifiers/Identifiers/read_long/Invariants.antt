use Rattle.std.proofs.Common.{◌≡◌, [], map}
use Rattle.form_urlencoded.specs.Form.{raw_pairs}
use Rattle.form_urlencoded.specs.Parse.{pairs_left}
use Rattle.kn_route.specs.Identifiers.{decoded, with_pair}
use Rattle.kn_route.specs.Steps.{steps}
use Rattle.kn_route.proofs.identifiers.Identifiers.read_long.Given as goal

abbrev pub invariant-loop-item : goal.invariant-loop-item
invariant-loop-item l =
    steps with_pair [] (map decoded (raw_pairs l.fn.text))
    ≡ steps with_pair l.identifiers (map decoded (pairs_left l.item-iterator))
