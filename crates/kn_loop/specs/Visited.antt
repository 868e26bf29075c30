-- Whom a turn that does not wait visits, and which gates it asks.
use Rattle.std.specs.Prelude.{◌≡◌, ℕ, ◌+◌, ◌≤◌, ◌==◌, ◌⊎◌, Bool, true, false, ◌||◌, List, [], ◌∷◌, ◌++◌, Option, if◌then◌else◌}
use Rattle.kn_port.specs.declared.names.Gate.{Gate}
use Rattle.kn_port.specs.declared.names.Gate.TheVariants as gate
use Rattle.kn_port.specs.declared.entry.Entry.{Entry}
use Rattle.kn_port.specs.declared.entry.Entry.TheVariants as entry
use Rattle.kn_loop.specs.declared.watch.Watch.{Watch}
use Rattle.kn_loop.specs.declared.gates.Gates.{Gates}
use Rattle.kn_loop.specs.Calls.{Answers, Call}
use Rattle.kn_loop.specs.Doing.{is_busy}
use Rattle.kn_loop.specs.Gates.{gate_of, is_unsettled}
use Rattle.kn_loop.specs.Kept.{copies}
use Rattle.kn_loop.specs.Known.{Known, known_from}
use Rattle.kn_loop.specs.Ran.{Ran, Made}
use Rattle.kn_loop.specs.Watch.{lines_from}

-- a visit of the connection: the end of its dial is asked for, it is read, or it is written
abbrev pub is_visit : Entry → ℕ → Bool
is_visit (entry.Listen gate address answer) c = false
is_visit (entry.Wait names answer) c = false
is_visit (entry.Accept gate answer) c = false
is_visit (entry.Dial address answer) c = false
is_visit (entry.DialEnd n answer) c = n == c
is_visit (entry.Read n room bytes answer) c = n == c
is_visit (entry.Write n given bytes answer) c = n == c
is_visit (entry.Shut n) c = false

abbrev pub has_visit : List Entry → ℕ → Bool
has_visit [] c = false
has_visit (e ∷ es) c = is_visit e c || has_visit es c

-- the end of the connection's dial is asked for
abbrev pub is_ask : ℕ → Entry → Bool
is_ask c (entry.Listen gate address answer) = false
is_ask c (entry.Wait names answer) = false
is_ask c (entry.Accept gate answer) = false
is_ask c (entry.Dial address answer) = false
is_ask c (entry.DialEnd n answer) = n == c
is_ask c (entry.Read n room bytes answer) = false
is_ask c (entry.Write n given bytes answer) = false
is_ask c (entry.Shut n) = false

-- the connection is read
abbrev pub is_read : ℕ → Entry → Bool
is_read c (entry.Listen gate address answer) = false
is_read c (entry.Wait names answer) = false
is_read c (entry.Accept gate answer) = false
is_read c (entry.Dial address answer) = false
is_read c (entry.DialEnd n answer) = false
is_read c (entry.Read n room bytes answer) = n == c
is_read c (entry.Write n given bytes answer) = false
is_read c (entry.Shut n) = false

-- the connection is written
abbrev pub is_write : ℕ → Entry → Bool
is_write c (entry.Listen gate address answer) = false
is_write c (entry.Wait names answer) = false
is_write c (entry.Accept gate answer) = false
is_write c (entry.Dial address answer) = false
is_write c (entry.DialEnd n answer) = false
is_write c (entry.Read n room bytes answer) = false
is_write c (entry.Write n given bytes answer) = n == c
is_write c (entry.Shut n) = false

-- how many of these entries are so
abbrev pub times : (Entry → Bool) → List Entry → ℕ
times so [] = 0
times so (e ∷ es) = (if so e then 1 else 0) + times so es

-- Each connection is visited once at most: the end of its dial is asked for once, it is read once, and it is written once.
abbrev pub VisitsOnce : List Entry → Type 0
VisitsOnce es = (c : ℕ) → (times (is_ask c) es ≤ 1) × (times (is_read c) es ≤ 1) × (times (is_write c) es ≤ 1)

-- It is asked, read and written no more often than it stands in these lists.
abbrev pub Within : List ℕ → List ℕ → List ℕ → List Entry → Type 0
Within asks reads writes es = (c : ℕ) → (times (is_ask c) es ≤ copies c asks) × (times (is_read c) es ≤ copies c reads) × (times (is_write c) es ≤ copies c writes)

abbrev pub is_gate : Gate → Gate → Bool
is_gate gate.Agents gate.Agents = true
is_gate gate.Agents gate.Clients = false
is_gate gate.Agents gate.Connect = false
is_gate gate.Agents gate.Apps = false
is_gate gate.Clients gate.Agents = false
is_gate gate.Clients gate.Clients = true
is_gate gate.Clients gate.Connect = false
is_gate gate.Clients gate.Apps = false
is_gate gate.Connect gate.Agents = false
is_gate gate.Connect gate.Clients = false
is_gate gate.Connect gate.Connect = true
is_gate gate.Connect gate.Apps = false
is_gate gate.Apps gate.Agents = false
is_gate gate.Apps gate.Clients = false
is_gate gate.Apps gate.Connect = false
is_gate gate.Apps gate.Apps = true

-- an accept at the gate
abbrev pub is_accept : Entry → Gate → Bool
is_accept (entry.Listen gate address answer) g = false
is_accept (entry.Wait names answer) g = false
is_accept (entry.Accept gate answer) g = is_gate gate g
is_accept (entry.Dial address answer) g = false
is_accept (entry.DialEnd n answer) g = false
is_accept (entry.Read n room bytes answer) g = false
is_accept (entry.Write n given bytes answer) g = false
is_accept (entry.Shut n) g = false

abbrev pub has_accept : List Entry → Gate → Bool
has_accept [] g = false
has_accept (e ∷ es) g = is_accept e g || has_accept es g

-- the gate is asked, where the node takes its connections and it may have something to give
abbrev pub AsksGate : (Gate → Bool) → Gates → Gate → List Entry → Type 0
AsksGate takes gates g es = takes g ≡ true → is_unsettled (gate_of gates g) ≡ true → has_accept es g ≡ true

-- each gate is
abbrev pub AsksGates : (Gate → Bool) → Gates → List Entry → Type 0
AsksGates takes gates es = (g : Gate) → AsksGate takes gates g es

module _ {N : Type 0} (did : N → Call → N → Type 0) (outgoing : N → ℕ → List ℕ) (said : N → ℕ → Answers) (top : N → ℕ) where
  -- on the way from a node to the last, behind the first of these entries, nothing was to be done at the connection
  pub record SettledWithin (k : Known) (node last : N) (es : List Entry) (c : ℕ) : Type 0 where
    pub first : List Entry
    pub rest : List Entry
    pub split : es ≡ first ++ rest
    pub mid : N
    pub before : Ran did outgoing said top k node first mid
    pub after : Ran did outgoing said top (known_from first k) mid rest last
    pub idle : is_busy (lines_from first c (k.lines c)) (said mid c) ≡ false

  -- the connection is visited, or what was done at others left nothing to do at it
  abbrev pub IsVisited : Known → N → N → List Entry → ℕ → Type 0
  IsVisited k node last es c = (has_visit es c ≡ true) ⊎ SettledWithin k node last es c

  -- each connection at which something was to be done, of those that are meant
  abbrev pub VisitsOf : (ℕ → Bool) → Known → N → N → List Entry → Type 0
  VisitsOf meant k node last es = (c : ℕ) → meant c ≡ true → is_busy (k.lines c) (said node c) ≡ true → IsVisited k node last es c

  -- each connection at which something was to be done
  abbrev pub VisitsAll : Known → N → N → List Entry → Type 0
  VisitsAll k node last es = (c : ℕ) → is_busy (k.lines c) (said node c) ≡ true → IsVisited k node last es c

  -- what was made, and this of its entries
  pub record MadeWith (good : List Entry → Type 0) (told0 told1 : Option (List Entry)) (w0 w1 : Watch) (node0 node1 : N) : Type 0 where
    pub made : Made did outgoing said top told0 told1 w0 w1 node0 node1
    pub holds : good made.entries
