-- How the tables lie in memory. No public clause cites this file.
use Rattle.std.specs.Prelude.{◌≡◌, ℕ, ℤ, List, Option, Some, false}
use Rattle.std.specs.List.Sorted.{IsStrictlySortedBy}
use Rattle.std.specs.Ordering.{nat_cmp, int_cmp, is_gt}
use Rattle.std.specs.Map.{keys_of, values_of}
use Rattle.kn_tables.specs.declared.awaited.Awaited.TheInside as awaited
use Rattle.kn_tables.specs.Lists.{count_where}
use Rattle.kn_tables.specs.Awaiting.{is_of_front}
use Rattle.kn_tables.specs.declared.held.Held.TheInside as held
use Rattle.kn_tables.specs.declared.held_entry.HeldEntry.{HeldEntry}
use Rattle.kn_tables.specs.Holding.{is_held_by}
use Rattle.kn_tables.specs.Indexed.{at_number, at_key, told, count_at, lowest, pair_of, IsKeyed, Indexes, pair_cmp, signed_pair_cmp}
use Rattle.kn_tables.specs.declared.awaited_entry.AwaitedEntry.{AwaitedEntry}

abbrev pub awaited_rows : awaited.Inside → List AwaitedEntry
awaited_rows t = values_of t.by_dial.entries

abbrev pub random_of : AwaitedEntry → Option (ℕ × ℤ)
random_of e = Some (e.front, e.random)

abbrev pub front_of : AwaitedEntry → Option (ℕ × ℕ)
front_of e = Some (e.front, e.dial)

abbrev pub link_of : AwaitedEntry → Option (ℕ × ℕ)
link_of e = Some (e.link, e.dial)

pub record AwaitedIsKept (t : awaited.Inside) : Type 0 where
  pub ordered : IsStrictlySortedBy nat_cmp (keys_of t.by_dial.entries)
  pub keyed : IsKeyed (λ e. e.dial) t.by_dial.entries
  pub random : Indexes (λ q. told random_of (at_number t.by_dial.entries q)) (at_key signed_pair_cmp t.by_random.entries)
  pub front : Indexes (λ q. told front_of (at_number t.by_dial.entries q)) (at_key pair_cmp t.by_front.entries)
  pub link : Indexes (λ q. told link_of (at_number t.by_dial.entries q)) (at_key pair_cmp t.by_link.entries)
  pub counts : (q : ℕ) → count_at t.counts.entries q ≡ count_where (is_of_front q) (values_of t.by_dial.entries)

abbrev pub held_rows : held.Inside → List HeldEntry
held_rows t = values_of t.by_dial.entries

abbrev pub connect_of : HeldEntry → Option (ℕ × ℤ)
connect_of e = Some (e.link, e.connect_id)

abbrev pub held_front_of : HeldEntry → Option (ℕ × ℕ)
held_front_of e = pair_of e.front e.dial

pub record HeldIsKept (t : held.Inside) : Type 0 where
  pub ordered : IsStrictlySortedBy nat_cmp (keys_of t.by_dial.entries)
  pub keyed : IsKeyed (λ e. e.dial) t.by_dial.entries
  pub fits : (q : ℕ) (e : HeldEntry) → at_number t.by_dial.entries q ≡ Some e → is_gt (int_cmp lowest e.connect_id) ≡ false
  pub connect : Indexes (λ q. told connect_of (at_number t.by_dial.entries q)) (at_key signed_pair_cmp t.by_connect.entries)
  pub front : Indexes (λ q. told held_front_of (at_number t.by_dial.entries q)) (at_key pair_cmp t.by_front.entries)
  pub counts : (q : ℕ) → count_at t.counts.entries q ≡ count_where (is_held_by q) (values_of t.by_dial.entries)
