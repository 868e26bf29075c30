use Rattle.std.proofs.Common.{◌≡◌, take, min, ◌^◌, ◌-◌}
use Rattle.std.specs.Prelude.{fold}
use Rattle.kn_script.specs.Words.{with_digit}
use Rattle.kn_script.proofs.numbers.capped_value.Given as goal

abbrev pub invariant-loop-digit : goal.invariant-loop-digit
invariant-loop-digit l = l.value ≡ min (fold with_digit 0 (take l.digit-index l.digits)) (2 ^ 64 - 1)
