-- The same done several times.
use Rattle.std.specs.Prelude.{ℕ, zero, suc}

unfoldable pub times : {S : Type 0} → ℕ → (S → S) → S → S
times zero f s = s
times (suc n) f s = times n f (f s)
