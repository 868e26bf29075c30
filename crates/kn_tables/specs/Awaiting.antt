-- The table of awaited dials as a list by rising dial.
use Rattle.std.specs.Prelude.{ℕ, ℤ, ◌==◌, ◌&&◌, Bool, List}
use Rattle.std.specs.Ordering.{int_eq}
use Rattle.kn_tables.specs.declared.awaited_entry.AwaitedEntry.{AwaitedEntry}
use Rattle.kn_tables.specs.Lists.{in_place, without}

abbrev pub is_dial : ℕ → AwaitedEntry → Bool
is_dial dial e = e.dial == dial

abbrev pub is_random : ℕ → ℤ → AwaitedEntry → Bool
is_random front random e = e.front == front && int_eq e.random random

abbrev pub is_of_front : ℕ → AwaitedEntry → Bool
is_of_front front e = e.front == front

abbrev pub is_of_link : ℕ → AwaitedEntry → Bool
is_of_link link e = e.link == link

-- the list with one entry more, in its place
abbrev pub with_awaited : AwaitedEntry → List AwaitedEntry → List AwaitedEntry
with_awaited e table = in_place (λ x. x.dial) e table

-- the list without the entry of a dial
abbrev pub without_dial : ℕ → List AwaitedEntry → List AwaitedEntry
without_dial dial table = without (is_dial dial) table
