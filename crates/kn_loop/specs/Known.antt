-- What is known after the entries of a journal: of connections, of gates, and how many there are and were.
use Rattle.std.specs.Prelude.{◌≡◌, ℕ, ◌+◌, ◌-◌, ◌<◌, ◌≤◌, ◌==◌, Bool, true, false, ⊤, List, [], ◌∷◌, Option, Some, None, if◌then◌else◌}
use Rattle.kn_port.specs.declared.names.Ready.{Ready}
use Rattle.kn_port.specs.declared.names.Accepted.{Accepted}
use Rattle.kn_port.specs.declared.names.Accepted.TheVariants as accepted
use Rattle.kn_port.specs.declared.names.Dialled.{Dialled}
use Rattle.kn_port.specs.declared.names.Dialled.TheVariants as dialled
use Rattle.kn_port.specs.declared.entry.Entry.{Entry}
use Rattle.kn_port.specs.declared.entry.Entry.TheVariants as entry
use Rattle.kn_loop.specs.declared.line.Line.{Line}
use Rattle.kn_loop.specs.declared.gates.Gates.{Gates}
use Rattle.kn_loop.specs.declared.watch.Watch.{Watch}
use Rattle.kn_loop.specs.declared.course.Course.{Course}
use Rattle.kn_loop.specs.Calls.{Answers}
use Rattle.kn_port.specs.Journal.{is_open}
use Rattle.kn_loop.specs.Kept.{line_of}
use Rattle.kn_loop.specs.Watch.{line_after, lines_from, new_line, named_from}
use Rattle.kn_loop.specs.Gates.{gates_after, gates_from, gates_named}

abbrev pub held_accepted : Accepted → ℕ → ℕ
held_accepted (accepted.Conn n) k = k + 1
held_accepted accepted.NotYet k = k
held_accepted accepted.Failed k = k
held_accepted accepted.NoMemory k = k

abbrev pub held_dialled : Dialled → ℕ → ℕ
held_dialled (dialled.Conn n) k = k + 1
held_dialled dialled.Failed k = k
held_dialled dialled.NoMemory k = k

-- how many connections were not shut, after one more entry
abbrev pub held_after : Entry → ℕ → ℕ
held_after (entry.Listen gate address answer) k = k
held_after (entry.Wait names answer) k = k
held_after (entry.Accept gate answer) k = held_accepted answer k
held_after (entry.Dial address answer) k = held_dialled answer k
held_after (entry.DialEnd n answer) k = k
held_after (entry.Read n room bytes answer) k = k
held_after (entry.Write n given bytes answer) k = k
held_after (entry.Shut n) k = k - 1

abbrev pub held_from : List Entry → ℕ → ℕ
held_from [] k = k
held_from (e ∷ es) k = held_from es (held_after e k)

abbrev pub drain_dialled : Dialled → ℕ → ℕ
drain_dialled (dialled.Conn n) k = k - 1
drain_dialled dialled.Failed k = k - 1
drain_dialled dialled.NoMemory k = k

-- behind how many more dials for the node it drains, failed ones with them, after one more entry; 0: it does not
abbrev pub drain_after : Entry → ℕ → ℕ
drain_after (entry.Listen gate address answer) k = k
drain_after (entry.Wait names answer) k = k
drain_after (entry.Accept gate answer) k = k
drain_after (entry.Dial address answer) k = drain_dialled answer k
drain_after (entry.DialEnd n answer) k = k
drain_after (entry.Read n room bytes answer) k = k
drain_after (entry.Write n given bytes answer) k = k
drain_after (entry.Shut n) k = k

abbrev pub drain_from : List Entry → ℕ → ℕ
drain_from [] k = k
drain_from (e ∷ es) k = drain_from es (drain_after e k)

-- what is known, by the number of each connection
pub record Known : Type 0 where
  pub lines : ℕ → Option Line
  pub held : ℕ
  pub gates : Gates
  pub drain : ℕ

abbrev pub known_of : Watch → Known
known_of w = record { lines = line_of w.lines; held = w.held; gates = w.gates; drain = w.drain }

abbrev pub known_after : Entry → Known → Known
known_after e k = record { lines = λ c. line_after e c (k.lines c); held = held_after e k.held; gates = gates_after e k.gates; drain = drain_after e k.drain }

abbrev pub known_from : List Entry → Known → Known
known_from [] k = k
known_from (e ∷ es) k = known_from es (known_after e k)

-- what is kept follows these entries
pub record Follows (es : List Entry) (w0 w1 : Watch) : Type 0 where
  pub lines : (c : ℕ) → line_of w1.lines c ≡ lines_from es c (line_of w0.lines c)
  pub held : w1.held ≡ held_from es w0.held
  pub gates : w1.gates ≡ gates_from es w0.gates
  pub drain : w1.drain ≡ drain_from es w0.drain
  pub course : w1.course ≡ w0.course

-- every connection of which something is known was given to the node, whose greatest is this, and by the port
pub record Given (w : Watch) (greatest drawn : ℕ) : Type 0 where
  pub lines : (c : ℕ) (l : Line) → line_of w.lines c ≡ Some l → (0 < c) × (c ≤ greatest)
  pub held : w.held ≤ drawn
  pub below : greatest ≤ drawn

-- a connection begins
pub record Begins (n : ℕ) (dialling server : Bool) (w0 w1 : Watch) : Type 0 where
  pub lines : (c : ℕ) → line_of w1.lines c ≡ (if n == c then Some (new_line dialling server) else line_of w0.lines c)
  pub held : w1.held ≡ w0.held + 1
  pub gates : w1.gates ≡ w0.gates
  pub drain : w1.drain ≡ w0.drain
  pub course : w1.course ≡ w0.course

-- a connection is forgotten
pub record Forgets (n : ℕ) (w0 w1 : Watch) : Type 0 where
  pub lines : (c : ℕ) → line_of w1.lines c ≡ (if n == c then None else line_of w0.lines c)
  pub held : w1.held ≡ w0.held - 1
  pub gates : w1.gates ≡ w0.gates
  pub drain : w1.drain ≡ w0.drain
  pub course : w1.course ≡ w0.course

-- what is kept follows a wait that named these
pub record Names (names : List Ready) (w0 w1 : Watch) : Type 0 where
  pub lines : (c : ℕ) → line_of w1.lines c ≡ named_from names c (line_of w0.lines c)
  pub held : w1.held ≡ w0.held
  pub gates : w1.gates ≡ gates_named names w0.gates
  pub drain : w1.drain ≡ w0.drain
  pub course : w1.course ≡ w0.course

-- before the first connection
abbrev pub bare_watch : Gates → ℕ → Course → Watch
bare_watch gates drain course = record { lines = []; held = 0; gates = gates; drain = drain; course = course }

-- where a node begins: with no connection, or with the one to its server, whose dial is under way
abbrev pub Starts : Option ℕ → Gates → ℕ → Course → Watch → Type 0
Starts None gates drain course w = w ≡ bare_watch gates drain course
Starts (Some n) gates drain course w = Begins n true true (bare_watch gates drain course) w

-- a node that has no connection but that to its server, which is not to be shut
abbrev pub IsNew : Option ℕ → ℕ → (ℕ → Answers) → Type 0
IsNew None greatest said = greatest ≡ 0
IsNew (Some n) greatest said = (0 < n) × (greatest ≡ n) × ((said n).shuts ≡ false)

-- the server's connection is at hand by the journal, where it is told
abbrev pub IsAtHand : Option ℕ → Option (List Entry) → Type 0
IsAtHand None told = ⊤
IsAtHand (Some n) None = ⊤
IsAtHand (Some n) (Some es) = is_open es n ≡ true
