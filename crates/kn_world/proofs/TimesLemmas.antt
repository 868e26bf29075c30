-- The same done several times, once more or not at all.
use Rattle.std.proofs.Common.{◌≡◌, ℕ, zero, suc, ◌-◌, ◌<◌, ◌≤◌, refl, arith}
use Rattle.kn_world.specs.Times.{times}

pub times_none : {S : Type 0} (n : ℕ) (f : S → S) (s : S) → n ≤ 0 → times n f s ≡ s
unfolding times
times_none zero f s none = refl
times_none (suc n) f s none = absurd (omega arith)

pub times_more : {S : Type 0} (n : ℕ) (f : S → S) (s : S) → 0 < n → times n f s ≡ times (n - 1) f (f s)
unfolding times
times_more zero f s more = absurd (omega arith)
times_more (suc n) f s more = let less : suc n - 1 ≡ n = omega arith in rw less refl
