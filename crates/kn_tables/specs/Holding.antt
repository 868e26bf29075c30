-- The table of held dials as a list by rising dial.
use Rattle.std.specs.Prelude.{◌≡◌, ℕ, ℤ, ◌==◌, ◌&&◌, Bool, false, List, [], ◌∷◌, Option, Some, None, if◌then◌else◌}
use Rattle.std.specs.Ordering.{int_eq, int_cmp, is_lt}
use Rattle.kn_tables.specs.declared.held_entry.HeldEntry.{HeldEntry}
use Rattle.kn_tables.specs.declared.held_entry.HeldState.TheVariants.{Closing}
use Rattle.kn_tables.specs.Lists.{first_where, in_place, without}

abbrev pub is_held_dial : ℕ → HeldEntry → Bool
is_held_dial dial e = e.dial == dial

abbrev pub is_held : ℕ → ℤ → HeldEntry → Bool
is_held link connect_id e = e.link == link && int_eq e.connect_id connect_id

abbrev pub is_held_on : ℕ → HeldEntry → Bool
is_held_on link e = e.link == link

-- an entry still has this front
abbrev pub has_front : Option ℕ → ℕ → Bool
has_front None front = false
has_front (Some f) front = f == front

abbrev pub is_held_by : ℕ → HeldEntry → Bool
is_held_by front e = has_front e.front front

-- the list with one entry more, in its place
abbrev pub with_held : HeldEntry → List HeldEntry → List HeldEntry
with_held e table = in_place (λ x. x.dial) e table

-- the list without the entry of a connection
abbrev pub without_held : ℕ → ℤ → List HeldEntry → List HeldEntry
without_held link connect_id table = without (is_held link connect_id) table

-- an entry whose close was asked, which keeps its front or has none any more
abbrev pub closed_entry : Bool → HeldEntry → HeldEntry
closed_entry keep_front e = record e { state = Closing; front = if keep_front then e.front else None }

abbrev pub closed_at : ℕ → ℤ → Bool → HeldEntry → HeldEntry
closed_at link connect_id keep_front e = if is_held link connect_id e then closed_entry keep_front e else e

-- no connection of a link stands in two entries
abbrev pub AreApart : List HeldEntry → Type 0
AreApart [] = Unit {0}
AreApart (x ∷ xs) = (first_where (is_held x.link x.connect_id) xs ≡ None) × AreApart xs

-- entries by rising connectID
abbrev pub in_order : HeldEntry → List HeldEntry → List HeldEntry
in_order e [] = e ∷ []
in_order e (x ∷ xs) = if is_lt (int_cmp x.connect_id e.connect_id) then x ∷ in_order e xs else e ∷ x ∷ xs

abbrev pub by_connect_id : List HeldEntry → List HeldEntry
by_connect_id [] = []
by_connect_id (e ∷ es) = in_order e (by_connect_id es)

-- the first of a list
abbrev pub first_of : {E : Type 0} → List E → Option E
first_of [] = None
first_of (x ∷ xs) = Some x
