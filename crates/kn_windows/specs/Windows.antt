-- Windows of flow control as integers (RFC 9113, section 6.9).
use Rattle.std.specs.Prelude.{ℕ, ℤ, pos, negsuc, ◌+ℤ◌, ◌≤ℤ◌, ◌==◌, ◌||◌, Bool, int_le}

-- No window is above 2^31 - 1 (section 6.9.1), and none falls below -2^31: what was spent and
-- what a change of SETTINGS_INITIAL_WINDOW_SIZE took from it (section 6.9.2) can bring it below 0.
pub record IsWindow (left : ℤ) : Type 0 where
  pub low : negsuc 2147483647 ≤ℤ left
  pub high : left ≤ℤ pos 2147483647

-- so many bytes may be spent: none, or no more than are left
abbrev pub can_spend : ℤ → ℕ → Bool
can_spend left count = (count == 0) || int_le (pos count) left

-- the window stays within 2^31 - 1 when it changes by this
abbrev pub can_grow : ℤ → ℤ → Bool
can_grow left by = int_le (left +ℤ by) (pos 2147483647)
