-- One more, one less and at most as many of a count that matters up to three.
use Rattle.std.proofs.Common.{Bool, true, false, not}
use Rattle.kn_tunnel.specs.Kinds.{Few, More, One, Two, Zero, none}

abbrev pub next : Few → Few
next Zero = One
next One = Two
next Two = More
next More = More

abbrev pub next_if : Bool → Few → Few
next_if true n = next n
next_if false n = n

abbrev pub previous : Few → Few
previous Zero = Zero
previous One = Zero
previous Two = One
previous More = Two

abbrev pub few_within : Few → Few → Bool
few_within Zero n = true
few_within One n = not (none n)
few_within Two Two = true
few_within Two More = true
few_within Two n = false
few_within More More = true
few_within More n = false
