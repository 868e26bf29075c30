-- The journal of a port in memory, which keeps room for what is to come.
use Rattle.std.specs.Prelude.{ℕ, zero, suc, ◌+◌, ◌==◌, ◌≤◌, ◌<◌, Bool, true, false, List, [], ◌∷◌, Option, None, Some, ⊤, ◌≡◌, if◌then◌else◌}
use Rattle.kn_port.specs.Numbers.{nth, change}
use Rattle.kn_port.specs.declared.entry.Entry.{Entry}
use Rattle.kn_port.specs.Journal.{open_after, is_open}

-- the entries so far, how many connections they gave, and how many more entries there is room for beside those
-- by which the connections at hand are given up
pub record JournalState : Type 0 where
  pub entries : List Entry
  pub drawn : ℕ
  pub spare : ℕ

abbrev pub open_count : List Bool → ℕ
open_count [] = 0
open_count (true ∷ marks) = open_count marks + 1
open_count (false ∷ marks) = open_count marks

-- a connection without a mark is not at hand
abbrev pub is_marked : Option Bool → Bool
is_marked None = false
is_marked (Some mark) = mark

-- the connection of a number is not at hand any more
abbrev pub unmarked : ℕ → List Bool → List Bool
unmarked c marks = change (λ mark. false) c marks

-- an entry that gives no connection and gives none up
abbrev pub IsPlain : Entry → Type 0
IsPlain e = (c : ℕ) (b : Bool) → open_after e c b ≡ b

-- an entry that gives the connection of this number
abbrev pub Opens : ℕ → Entry → Type 0
Opens number e = (c : ℕ) (b : Bool) → open_after e c b ≡ (if number == c then true else b)

-- where there is room for an entry, there is for a mark
abbrev pub OneMore : ℕ → ℕ → ℕ → Type 0
OneMore zero count capacity = ⊤
OneMore (suc spare) count capacity = count < capacity

-- There is room for the entries that are kept room for and for those that are spare, as many are kept room for
-- as connections have a mark, and those have one that are at hand.
pub record KeepsRoom (entries : List Entry) (count capacity : ℕ) (marks : List Bool) (mark_count mark_capacity kept spare : ℕ) : Type 0 where
  pub room : count + kept + spare ≤ capacity
  pub mark_room : OneMore spare mark_count mark_capacity
  pub counted : open_count marks ≡ kept
  pub marked : (c : ℕ) → is_marked (nth c marks) ≡ is_open entries c
