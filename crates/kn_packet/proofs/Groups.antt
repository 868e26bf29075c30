-- How large a number of so many groups of seven bits is, where the last of ten has one bit.
use Rattle.std.proofs.Common.{◌≡◌, ℕ, zero, suc, ◌<◌, ◌≤◌, ◌+◌, ◌-◌, ◌*◌, ◌^◌, refl, arith}
use Rattle.std.proofs.Math.Nat.{pow-succ', pow-le-pow_right, one-le-pow}

pub power_below : (more : ℕ) → more ≤ 9 → 2 * 128 ^ more ≤ 2 ^ 64
power_below more small = let h : 128 ^ more ≤ 128 ^ 9 = pow-le-pow_right {n = 128} (omega arith) small in omega (arith, h)

pub last_below : (more byte : ℕ) → (more ≡ 0 → ⊥) → byte < 128 → byte < 2 * 128 ^ more
last_below zero byte some small = absurd (some refl)
last_below (suc more) byte some small =
    let power = pow-succ' 128 more in
    let positive = one-le-pow more 128 (omega arith) in
    omega (arith, power, positive)

pub more_below : (more high byte : ℕ) → (more ≡ 0 → ⊥) → byte < 256 → high < 2 * 128 ^ (more - 1) → byte - 128 + 128 * high < 2 * 128 ^ more
more_below zero high byte some small below = absurd (some refl)
more_below (suc more) high byte some small below =
    let power = pow-succ' 128 more in
    let one_less : suc more - 1 ≡ more = omega arith in
    let b : high < 2 * 128 ^ more = rw one_less at below in
    omega (arith, power, b)
