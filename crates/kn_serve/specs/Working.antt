-- A node at work, turn after turn.
use Rattle.std.specs.Prelude.{◌≡◌, ◌≤◌, ℕ, zero, suc, List, Option}
use Rattle.kn_port.specs.Answers.{Failing}
use Rattle.kn_port.specs.declared.entry.Entry.{Entry}
use Rattle.kn_loop.specs.declared.watch.Watch.{Watch}
use Rattle.kn_loop.specs.declared.turn.Turn.{Turn}
use Rattle.kn_loop.specs.declared.turn.Turn.TheVariants as turn

-- a turn is the last where it answers something else than that there may be another one
abbrev pub IsLast : Turn → Type 0
IsLast turn.More = ⊥
IsLast turn.Done = Unit {0}
IsLast turn.Bound = Unit {0}
IsLast turn.BindFault = Unit {0}
IsLast turn.WaitFault = Unit {0}
IsLast turn.ServerLost = Unit {0}
IsLast turn.NoMemory = Unit {0}

-- the count of faults never falls; a run ends as its port could not listen, or could not wait, only where it rose
abbrev pub RunCounts : Turn → ℕ → ℕ → Type 0
RunCounts turn.More before after = before ≤ after
RunCounts turn.Done before after = before ≤ after
RunCounts turn.Bound before after = before ≤ after
RunCounts turn.BindFault before after = Failing before after
RunCounts turn.WaitFault before after = Failing before after
RunCounts turn.ServerLost before after = before ≤ after
RunCounts turn.NoMemory before after = before ≤ after

module _ {N : Type 0} (Turns : Option (List Entry) → Option (List Entry) → Watch → Watch → N → N → Turn → Type 0) where
  -- so many turns were made, and after each there might be another one
  abbrev pub Went : ℕ → Option (List Entry) → Watch → N → Option (List Entry) → Watch → N → Type 0
  Went zero told0 w0 n0 told1 w1 n1 = (told1 ≡ told0) × (w1 ≡ w0) × (n1 ≡ n0)
  Went (suc k) told0 w0 n0 told1 w1 n1 = (told : Option (List Entry)) × (w : Watch) × (n : N)
      × Went k told0 w0 n0 told w n × Turns told told1 w w1 n n1 turn.More

  -- turns, of which the last one ends the run
  abbrev pub Serves : Option (List Entry) → Watch → N → Option (List Entry) → Turn → Type 0
  Serves told0 w0 n0 told1 result = (k : ℕ) × (told : Option (List Entry)) × (w : Watch) × (n : N) × (w1 : Watch) × (n1 : N)
      × Went k told0 w0 n0 told w n × Turns told told1 w w1 n n1 result × IsLast result

  -- where the first turn says that there may be another one there are further turns, else it was the last
  abbrev pub Works : Turn → Option (List Entry) → Watch → N → Option (List Entry) → Turn → Type 0
  Works turn.More told0 w0 n0 told1 result = Serves told0 w0 n0 told1 result
  Works turn.Done told0 w0 n0 told1 result = (result ≡ turn.Done) × (told1 ≡ told0)
  Works turn.Bound told0 w0 n0 told1 result = (result ≡ turn.Bound) × (told1 ≡ told0)
  Works turn.BindFault told0 w0 n0 told1 result = (result ≡ turn.BindFault) × (told1 ≡ told0)
  Works turn.WaitFault told0 w0 n0 told1 result = (result ≡ turn.WaitFault) × (told1 ≡ told0)
  Works turn.ServerLost told0 w0 n0 told1 result = (result ≡ turn.ServerLost) × (told1 ≡ told0)
  Works turn.NoMemory told0 w0 n0 told1 result = (result ≡ turn.NoMemory) × (told1 ≡ told0)
