-- How the tables lie in memory. No public clause cites this file.
use Rattle.std.specs.Prelude.{◌≡◌, ◌≤◌, ℕ, ℤ, List, Option, Some, None}
use Rattle.std.specs.declared.cmp.Ordering.{Ordering}
use Rattle.std.specs.List.Sorted.{IsStrictlySortedBy}
use Rattle.std.specs.Ordering.{nat_cmp, int_cmp, ordering_then}
use Rattle.std.specs.Map.{keys_of, values_of, lookup}
use Rattle.std.specs.Option.{IsSome}
use Rattle.std.specs.BTreeMap.{is_at}
use Rattle.kn_tables.specs.Indexed.{at_number, at_key, told, IsKeyed, Indexes}
use Rattle.kn_edge_core.specs.declared.app.App.{App}
use Rattle.kn_edge_core.specs.declared.app.AppState.{AppState}
use Rattle.kn_edge_core.specs.declared.app.AppState.TheVariants.{Dialling, Open, Closing, Lingering}
use Rattle.kn_edge_core.specs.declared.apps.Apps.TheInside as apps
use Rattle.kn_edge_core.specs.declared.connection.Connection.{Connection}
use Rattle.kn_edge_core.specs.declared.connections.Connections.TheInside as connections
use Rattle.kn_edge_core.specs.declared.dial.Dial.{Dial}
use Rattle.kn_edge_core.specs.declared.dials.Dials.TheInside as dials

-- each entry of a map lies under its own number, and the numbers rise
pub record IsInOrder {E : Type 0} (number : E → ℕ) (entries : List (ℕ × E)) : Type 0 where
  pub ordered : IsStrictlySortedBy nat_cmp (keys_of entries)
  pub keyed : IsKeyed number entries

abbrev pub dial_rows : dials.Inside → List Dial
dial_rows t = values_of t.by_ticket.entries

abbrev pub DialsAreKept : dials.Inside → Type 0
DialsAreKept t = IsInOrder (λ d. d.ticket) t.by_ticket.entries

abbrev pub connection_rows : connections.Inside → List Connection
connection_rows t = values_of t.by_id.entries

abbrev pub ConnectionsAreKept : connections.Inside → Type 0
ConnectionsAreKept t = IsInOrder (λ c. c.connect_id) t.by_id.entries

abbrev pub app_rows : apps.Inside → List App
app_rows t = values_of t.by_number.entries

-- what the maps by connectID find an app by
abbrev pub open_key : AppState → ℤ → ℕ → Option (ℤ × ℕ)
open_key Open connect_id number = Some (connect_id, number)
open_key Dialling connect_id number = None
open_key Closing connect_id number = None
open_key Lingering connect_id number = None

abbrev pub held_key : AppState → ℤ → ℕ → Option (ℤ × ℕ)
held_key Open connect_id number = Some (connect_id, number)
held_key Closing connect_id number = Some (connect_id, number)
held_key Dialling connect_id number = None
held_key Lingering connect_id number = None

abbrev pub open_key_of : App → Option (ℤ × ℕ)
open_key_of a = open_key a.state a.connect_id a.number

abbrev pub held_key_of : App → Option (ℤ × ℕ)
held_key_of a = held_key a.state a.connect_id a.number

abbrev pub id_cmp : ℤ × ℕ → ℤ × ℕ → Ordering
id_cmp a b = ordering_then (int_cmp a.0 b.0) (nat_cmp a.1 b.1)

-- the number under the least pair of a connectID, where there is one
abbrev pub FirstUnder : List ((ℤ × ℕ) × ℕ) → ℤ → Option ℕ → Type 0
FirstUnder index a None = (b : ℕ) → lookup (is_at (id_cmp (a, b))) index ≡ None
FirstUnder index a (Some q) = (b : ℕ) × (lookup (is_at (id_cmp (a, b))) index ≡ Some q)
    × ((c : ℕ) → IsSome (lookup (is_at (id_cmp (a, c))) index) → b ≤ c)

pub record AppsAreKept (t : apps.Inside) : Type 0 where
  pub in_order : IsInOrder (λ a. a.number) t.by_number.entries
  pub open_ids : Indexes (λ q. told open_key_of (at_number t.by_number.entries q)) (at_key id_cmp t.open_by_id.entries)
  pub held_ids : Indexes (λ q. told held_key_of (at_number t.by_number.entries q)) (at_key id_cmp t.held_by_id.entries)
