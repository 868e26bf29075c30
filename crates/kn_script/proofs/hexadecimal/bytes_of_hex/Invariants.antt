use Rattle.std.proofs.Common.{◌≡◌, ◌++◌, length}
use Rattle.std.specs.Option.{option_map}
use Rattle.kn_script.specs.Words.{bytes_of_hex}
use Rattle.kn_script.proofs.hexadecimal.bytes_of_hex.Given as goal

-- the bytes so far stand before those of the digits that are left
abbrev pub invariant-loop-rest : goal.invariant-loop-rest
invariant-loop-rest l = bytes_of_hex l.digits ≡ option_map (λ more. l.bytes ++ more) (bytes_of_hex l.rest)

abbrev pub decreases-loop-rest : goal.decreases-loop-rest
decreases-loop-rest l = length l.rest
