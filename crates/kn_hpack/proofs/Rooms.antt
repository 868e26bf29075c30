-- Continuation bytes of seven bits stay below a power of 128.
use Rattle.std.proofs.Common.{◌≡◌, ℕ, ◌+◌, ◌*◌, ◌^◌, ◌<◌, ◌≤◌, suc, arith, ◌≢◌}
use Rattle.std.proofs.Math.Nat.{pow-suc, pow-le-pow_right}

pub power_small : (left : ℕ) → left ≤ 5 → 128 ^ left ≤ 34359738368
power_small left h = let p : 128 ^ left ≤ 128 ^ 5 = pow-le-pow_right {n = 128} (omega arith) h in p

pub power_one : (left : ℕ) → left ≢ 0 → 128 ≤ 128 ^ left
power_one left h = let p : 128 ^ 1 ≤ 128 ^ left = pow-le-pow_right {n = 128} (omega arith) {i = 1} {j = left} (omega arith) in p

pub power_more : (k left b high : ℕ) → left ≡ suc k → b < 128 → high < 128 ^ k → b + 128 * high < 128 ^ left
power_more k left b high e hb hh = rw (e, pow-suc) (omega arith)
