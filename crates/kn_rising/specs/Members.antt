-- Members by rising number.
use Rattle.std.specs.Prelude.{◌≡◌, ℕ, suc, ◌<◌, ◌==◌, nat_lt, List, [], ◌∷◌, length, Option, Some, None, slice_get, slice_set, if◌then◌else◌}
use Rattle.std.specs.List.{insert, remove}

-- the numbers, and beside each its member
pub record Members (T : Type 0) : Type 0 where
  pub numbers : List ℕ
  pub items : List T

-- the place of a number, or the length where it is not there
unfoldable pub place_in : List ℕ → ℕ → ℕ
place_in [] n = 0
place_in (x ∷ xs) n = if x == n then 0 else suc (place_in xs n)

-- how many of the numbers are below this one: where it would stand
unfoldable pub rank_in : List ℕ → ℕ → ℕ
rank_in [] n = 0
rank_in (x ∷ xs) n = if nat_lt x n then suc (rank_in xs n) else rank_in xs n

-- the member of a number
abbrev pub at : {T : Type 0} → Members T → ℕ → Option T
at m n = slice_get m.items (place_in m.numbers n)

-- another one in its place
abbrev pub with : {T : Type 0} → Members T → ℕ → T → Members T
with m n w = record { numbers = m.numbers; items = slice_set m.items (place_in m.numbers n) w }

-- changed, if it is there
abbrev pub changed : {T : Type 0} → Members T → ℕ → (T → T) → Option T → Members T
changed m n f None = m
changed m n f (Some x) = with m n (f x)

abbrev pub change : {T : Type 0} → Members T → ℕ → (T → T) → Members T
change m n f = changed m n f (at m n)

-- without the member of a number
abbrev pub without : {T : Type 0} → Members T → ℕ → Members T
without m n = record { numbers = remove m.numbers (place_in m.numbers n); items = remove m.items (place_in m.numbers n) }

-- one more, which stands by its number among the others
abbrev pub one_more : {T : Type 0} → Members T → ℕ → T → Members T
one_more m n x = record { numbers = insert m.numbers (rank_in m.numbers n) n; items = insert m.items (rank_in m.numbers n) x }

-- a member of this number, in the place of the one that had it
abbrev pub inserted : {T : Type 0} → Members T → ℕ → T → Members T
inserted m n x = if nat_lt (place_in m.numbers n) (length m.numbers) then with m n x else one_more m n x

-- no members
abbrev pub none : {T : Type 0} → Members T
none = record { numbers = []; items = [] }

abbrev pub AreAbove : ℕ → List ℕ → Type 0
AreAbove n [] = Unit {0}
AreAbove n (x ∷ xs) = (n < x) × AreAbove n xs

abbrev pub AreRising : List ℕ → Type 0
AreRising [] = Unit {0}
AreRising (x ∷ xs) = AreAbove x xs × AreRising xs

-- the numbers rise, and each has a member
pub record AreMembers {T : Type 0} (m : Members T) : Type 0 where
  pub rising : AreRising m.numbers
  pub same : length m.items ≡ length m.numbers
