-- The port in memory: what its ticks leave, what each call answers, and what it leaves.
use Rattle.std.specs.Prelude.{◌≡◌, ℕ, ◌+◌, ◌-◌, ◌^◌, ◌==◌, ◌⊎◌, Bool, true, false, List, [], ◌∷◌, ◌++◌, length, take, drop, min, count_by, ⊤, Option, None, Some, if◌then◌else◌}
use Rattle.kn_port.specs.declared.names.Gate.{Gate}
use Rattle.kn_port.specs.declared.names.Gate.TheVariants as gate
use Rattle.kn_port.specs.declared.names.Ready.{Ready}
use Rattle.kn_port.specs.declared.names.Ready.TheVariants as ready
use Rattle.kn_port.specs.declared.names.Listened.{Listened}
use Rattle.kn_port.specs.declared.names.Listened.TheVariants as listened
use Rattle.kn_port.specs.declared.names.Waited.{Waited}
use Rattle.kn_port.specs.declared.names.Waited.TheVariants as waited
use Rattle.kn_port.specs.declared.names.Accepted.{Accepted}
use Rattle.kn_port.specs.declared.names.Accepted.TheVariants as accepted
use Rattle.kn_port.specs.declared.names.Dialled.{Dialled}
use Rattle.kn_port.specs.declared.names.Dialled.TheVariants as dialled
use Rattle.kn_port.specs.declared.names.DialEnd.{DialEnd}
use Rattle.kn_port.specs.declared.names.DialEnd.TheVariants as dial_end
use Rattle.kn_port.specs.declared.names.PortGot.{PortGot}
use Rattle.kn_port.specs.declared.names.PortGot.TheVariants as got
use Rattle.kn_port.specs.declared.names.Took.{Took}
use Rattle.kn_port.specs.declared.names.Took.TheVariants as took
use Rattle.kn_port.specs.declared.tick.Tick.{Tick}
use Rattle.kn_port.specs.declared.tick.Tick.TheVariants as tick
use Rattle.kn_port.specs.declared.entry.Entry.{Entry}
use Rattle.kn_port.specs.declared.entry.Entry.TheVariants as entry
use Rattle.kn_port.specs.declared.mem_line.Dial.{Dial}
use Rattle.kn_port.specs.declared.mem_line.Dial.TheVariants as dial
use Rattle.kn_port.specs.declared.mem_line.MemLine.{MemLine}
use Rattle.kn_port.specs.declared.gates.MemGate.{MemGate}
use Rattle.kn_port.specs.declared.gates.Gates.{Gates}
use Rattle.kn_port.specs.declared.mem_net.MemNet.{MemNet}
use Rattle.kn_port.specs.Numbers.{nth, change, first_of, rest_of}
use Rattle.kn_port.specs.Journal.{listen_entries, wait_entries, accept_entries, dial_entries, dial_end_entries, read_entries, write_entries, shut_entries}

-- a count, or a sum, that stands still at 2^64 - 1
abbrev pub sum_held : ℕ → ℕ → ℕ
sum_held n more = min (n + more) (2 ^ 64 - 1)

-- A connection. It is begun by a dial, and up or refused by a tick; one that came to a gate is up.

abbrev pub up_after : Dial → Dial
up_after dial.Begun = dial.Up
up_after dial.Up = dial.Up
up_after dial.Refused = dial.Refused

abbrev pub refused_after : Dial → Dial
refused_after dial.Begun = dial.Refused
refused_after dial.Up = dial.Up
refused_after dial.Refused = dial.Refused

abbrev pub new_line : Dial → MemLine
new_line d = record { inbox = []; ended = false; read_fails = false; write_fails = false; room = 0; dial = d }

abbrev pub line_given : List ℕ → MemLine → MemLine
line_given bytes l = record l { inbox = l.inbox ++ bytes }

abbrev pub line_ended : MemLine → MemLine
line_ended l = record l { ended = true }

abbrev pub line_roomier : ℕ → MemLine → MemLine
line_roomier more l = record l { room = sum_held l.room more }

abbrev pub line_up : MemLine → MemLine
line_up l = record l { dial = up_after l.dial }

abbrev pub line_refused : MemLine → MemLine
line_refused l = record l { dial = refused_after l.dial }

abbrev pub line_read_fails : MemLine → MemLine
line_read_fails l = record l { read_fails = true }

abbrev pub line_write_fails : MemLine → MemLine
line_write_fails l = record l { write_fails = true }

-- what a read answers: the ticks so far leave it a fault, bytes, the end, or nothing
abbrev pub line_read : MemLine → ℕ → PortGot
line_read l room =
    if l.read_fails then got.Failed
    else if length l.inbox == 0 then (if l.ended then got.End else got.NotYet)
    else got.Bytes (min room (length l.inbox))

-- what a write answers: the ticks so far leave it a fault, room, or nothing
abbrev pub line_write : MemLine → ℕ → Took
line_write l given =
    if l.write_fails then took.Failed
    else if l.room == 0 then took.NotYet
    else took.Bytes (min given l.room)

-- what is said of a dial: it is up, refused, or there is nothing yet
abbrev pub dial_said : Dial → DialEnd
dial_said dial.Begun = dial_end.NotYet
dial_said dial.Up = dial_end.Up
dial_said dial.Refused = dial_end.Failed

abbrev pub line_after_read : PortGot → MemLine → MemLine
line_after_read (got.Bytes n) l = record l { inbox = drop n l.inbox }
line_after_read got.NotYet l = l
line_after_read got.End l = l
line_after_read got.Failed l = l
line_after_read got.NoMemory l = l

abbrev pub line_after_write : Took → MemLine → MemLine
line_after_write (took.Bytes n) l = record l { room = l.room - n }
line_after_write took.NotYet l = l
line_after_write took.Failed l = l
line_after_write took.NoMemory l = l

-- of a number that no connection has there is nothing
abbrev pub reads : Option MemLine → ℕ → PortGot
reads None room = got.NotYet
reads (Some l) room = line_read l room

abbrev pub writes : Option MemLine → ℕ → Took
writes None given = took.NotYet
writes (Some l) given = line_write l given

abbrev pub dial_ends : Option MemLine → DialEnd
dial_ends None = dial_end.NotYet
dial_ends (Some l) = dial_said l.dial

abbrev pub inbox_of : Option MemLine → List ℕ
inbox_of None = []
inbox_of (Some l) = l.inbox

-- what a read gave is the front of what came
abbrev pub Gives : PortGot → List ℕ → List ℕ → Type 0
Gives (got.Bytes n) inbox bytes = take n bytes ≡ take n inbox
Gives got.NotYet inbox bytes = ⊤
Gives got.End inbox bytes = ⊤
Gives got.Failed inbox bytes = ⊤
Gives got.NoMemory inbox bytes = ⊤

-- the bytes that a read gave, of what came or of the room as it left it
abbrev pub IsGiven : PortGot → List ℕ → List ℕ → Type 0
IsGiven (got.Bytes n) bytes given = given ≡ take n bytes
IsGiven got.NotYet bytes given = ⊤
IsGiven got.End bytes given = ⊤
IsGiven got.Failed bytes given = ⊤
IsGiven got.NoMemory bytes given = ⊤

-- the bytes that a write took
abbrev pub IsTaken : Took → List ℕ → List ℕ → Type 0
IsTaken (took.Bytes n) bytes taken = taken ≡ take n bytes
IsTaken took.NotYet bytes taken = ⊤
IsTaken took.Failed bytes taken = ⊤
IsTaken took.NoMemory bytes taken = ⊤

-- the number of a connection that an answer gives
abbrev pub Accepts : Accepted → ℕ → Type 0
Accepts (accepted.Conn n) number = n ≡ number
Accepts accepted.NotYet number = ⊤
Accepts accepted.Failed number = ⊤
Accepts accepted.NoMemory number = ⊤

abbrev pub Dials : Dialled → ℕ → Type 0
Dials (dialled.Conn n) number = n ≡ number
Dials dialled.Failed number = ⊤
Dials dialled.NoMemory number = ⊤

abbrev pub drawn_accepted : Accepted → ℕ → ℕ
drawn_accepted (accepted.Conn n) drawn = drawn + 1
drawn_accepted accepted.NotYet drawn = drawn
drawn_accepted accepted.Failed drawn = drawn
drawn_accepted accepted.NoMemory drawn = drawn

abbrev pub drawn_dialled : Dialled → ℕ → ℕ
drawn_dialled (dialled.Conn n) drawn = drawn + 1
drawn_dialled dialled.Failed drawn = drawn
drawn_dialled dialled.NoMemory drawn = drawn

-- A gate: how many connections came and were not taken, and how many accepts are to fail, which come first.

abbrev pub gate_of : Gate → Gates → MemGate
gate_of gate.Agents g = g.agents
gate_of gate.Clients g = g.clients
gate_of gate.Connect g = g.connect
gate_of gate.Apps g = g.apps

abbrev pub with_gate : Gate → Gates → MemGate → Gates
with_gate gate.Agents g one = record g { agents = one }
with_gate gate.Clients g one = record g { clients = one }
with_gate gate.Connect g one = record g { connect = one }
with_gate gate.Apps g one = record g { apps = one }

abbrev pub change_gate : (MemGate → MemGate) → Gate → Gates → Gates
change_gate f which g = with_gate which g (f (gate_of which g))

abbrev pub no_arrival : MemGate
no_arrival = record { arrivals = 0; failures = 0 }

abbrev pub no_arrivals : Gates
no_arrivals = record { agents = no_arrival; clients = no_arrival; connect = no_arrival; apps = no_arrival }

abbrev pub gate_arrived : MemGate → MemGate
gate_arrived g = record g { arrivals = sum_held g.arrivals 1 }

abbrev pub gate_fails : MemGate → MemGate
gate_fails g = record g { failures = sum_held g.failures 1 }

-- what an accept answers, where the next connection has this number
abbrev pub gate_accepts : MemGate → ℕ → Accepted
gate_accepts g number =
    if g.failures == 0 then (if g.arrivals == 0 then accepted.NotYet else accepted.Conn number)
    else accepted.Failed

abbrev pub gate_after : Accepted → MemGate → MemGate
gate_after (accepted.Conn n) g = record g { arrivals = g.arrivals - 1 }
gate_after accepted.NotYet g = g
gate_after accepted.Failed g = record g { failures = g.failures - 1 }
gate_after accepted.NoMemory g = g

-- What the ticks so far leave.

-- each tick names its connection or gate; one that makes a call fail names none
abbrev pub tick_names : Tick → List Ready
tick_names (tick.Arrive g) = ready.Gate g ∷ []
tick_names (tick.Bytes c bytes) = ready.Conn c ∷ []
tick_names (tick.End c) = ready.Conn c ∷ []
tick_names (tick.Room c room) = ready.Conn c ∷ []
tick_names (tick.Up c) = ready.Conn c ∷ []
tick_names (tick.Refuse c) = ready.Conn c ∷ []
tick_names (tick.FailRead c) = ready.Conn c ∷ []
tick_names (tick.FailWrite c) = ready.Conn c ∷ []
tick_names (tick.FailAccept g) = ready.Gate g ∷ []
tick_names tick.FailDial = []
tick_names tick.FailWait = []

abbrev pub net_after : Tick → MemNet → MemNet
net_after (tick.Arrive g) n = record n { gates = change_gate gate_arrived g n.gates }
net_after (tick.Bytes c bytes) n = record n { lines = change (line_given bytes) c n.lines }
net_after (tick.End c) n = record n { lines = change line_ended c n.lines }
net_after (tick.Room c room) n = record n { lines = change (line_roomier room) c n.lines }
net_after (tick.Up c) n = record n { lines = change line_up c n.lines }
net_after (tick.Refuse c) n = record n { lines = change line_refused c n.lines }
net_after (tick.FailRead c) n = record n { lines = change line_read_fails c n.lines }
net_after (tick.FailWrite c) n = record n { lines = change line_write_fails c n.lines }
net_after (tick.FailAccept g) n = record n { gates = change_gate gate_fails g n.gates }
net_after tick.FailDial n = record n { dial_fails = sum_held n.dial_fails 1 }
net_after tick.FailWait n = n

-- what a wait answers at this tick
abbrev pub tick_said : Tick → Waited
tick_said (tick.Arrive g) = waited.Ready
tick_said (tick.Bytes c bytes) = waited.Ready
tick_said (tick.End c) = waited.Ready
tick_said (tick.Room c room) = waited.Ready
tick_said (tick.Up c) = waited.Ready
tick_said (tick.Refuse c) = waited.Ready
tick_said (tick.FailRead c) = waited.Ready
tick_said (tick.FailWrite c) = waited.Ready
tick_said (tick.FailAccept g) = waited.Ready
tick_said tick.FailDial = waited.Ready
tick_said tick.FailWait = waited.Failed

-- The port.

-- listens are to fail, the ticks that are left, what those so far left, and the journal
pub record PortState : Type 0 where
  pub listen_fails : Bool
  pub ticks : List Tick
  pub net : MemNet
  pub entries : List Entry

abbrev pub begun : Bool → List Tick → PortState
begun listen_fails ticks = record {
  listen_fails = listen_fails;
  ticks = ticks;
  net = record { lines = []; gates = no_arrivals; dial_fails = 0 };
  entries = [];
}

-- an entry of a call that failed
abbrev pub has_failed : Entry → Bool
has_failed (entry.Listen g a listened.Done) = false
has_failed (entry.Listen g a listened.Failed) = true
has_failed (entry.Listen g a listened.NoMemory) = false
has_failed (entry.Wait names waited.Ready) = false
has_failed (entry.Wait names waited.Failed) = true
has_failed (entry.Wait names waited.NoMemory) = false
has_failed (entry.Accept g (accepted.Conn n)) = false
has_failed (entry.Accept g accepted.NotYet) = false
has_failed (entry.Accept g accepted.Failed) = true
has_failed (entry.Accept g accepted.NoMemory) = false
has_failed (entry.Dial a (dialled.Conn n)) = false
has_failed (entry.Dial a dialled.Failed) = true
has_failed (entry.Dial a dialled.NoMemory) = false
has_failed (entry.DialEnd c dial_end.Up) = false
has_failed (entry.DialEnd c dial_end.NotYet) = false
has_failed (entry.DialEnd c dial_end.Failed) = true
has_failed (entry.DialEnd c dial_end.NoMemory) = false
has_failed (entry.Read c room bytes (got.Bytes n)) = false
has_failed (entry.Read c room bytes got.NotYet) = false
has_failed (entry.Read c room bytes got.End) = false
has_failed (entry.Read c room bytes got.Failed) = true
has_failed (entry.Read c room bytes got.NoMemory) = false
has_failed (entry.Write c given bytes (took.Bytes n)) = false
has_failed (entry.Write c given bytes took.NotYet) = false
has_failed (entry.Write c given bytes took.Failed) = true
has_failed (entry.Write c given bytes took.NoMemory) = false
has_failed (entry.Shut c) = false

-- the count of faults
abbrev pub failures : List Entry → ℕ
failures es = count_by has_failed es

-- a call found no memory and did nothing, or gave this answer and left this
abbrev pub Does : {A : Type 0} → A → A → (A → PortState) → A → PortState → PortState → Type 0
Does no_memory answer after result old new = ((result ≡ no_memory) × (new ≡ old)) ⊎ ((result ≡ answer) × (new ≡ after result))

abbrev pub listen_answer : PortState → Listened
listen_answer p = if p.listen_fails then listened.Failed else listened.Done

abbrev pub after_listen : PortState → Gate → List ℕ → Listened → PortState
after_listen p g address answer = record p { entries = p.entries ++ listen_entries g address answer }

-- each wait takes the next tick, and one after the last fails
abbrev pub wait_said : Option Tick → Waited
wait_said None = waited.Failed
wait_said (Some t) = tick_said t

abbrev pub wait_names : Option Tick → List Ready
wait_names None = []
wait_names (Some t) = tick_names t

abbrev pub net_waited : Option Tick → MemNet → MemNet
net_waited None n = n
net_waited (Some t) n = net_after t n

abbrev pub wait_answer : PortState → Waited
wait_answer p = wait_said (first_of p.ticks)

abbrev pub after_wait : PortState → Waited → PortState
after_wait p answer = record p {
  ticks = rest_of p.ticks;
  net = net_waited (first_of p.ticks) p.net;
  entries = p.entries ++ wait_entries (wait_names (first_of p.ticks)) answer;
}

-- what a wait appends; one that finds no memory appends nothing
abbrev pub wait_named : PortState → Waited → List Ready
wait_named p waited.Ready = wait_names (first_of p.ticks)
wait_named p waited.Failed = wait_names (first_of p.ticks)
wait_named p waited.NoMemory = []

abbrev pub accept_answer : MemNet → Gate → Accepted
accept_answer n g = gate_accepts (gate_of g n.gates) (length n.lines + 1)

abbrev pub lines_accepted : Accepted → List MemLine → List MemLine
lines_accepted (accepted.Conn n) ls = ls ++ new_line dial.Up ∷ []
lines_accepted accepted.NotYet ls = ls
lines_accepted accepted.Failed ls = ls
lines_accepted accepted.NoMemory ls = ls

abbrev pub net_accepted : Accepted → Gate → MemNet → MemNet
net_accepted answer g n = record n {
  lines = lines_accepted answer n.lines;
  gates = change_gate (gate_after answer) g n.gates;
}

abbrev pub after_accept : PortState → Gate → Accepted → PortState
after_accept p g answer = record p { net = net_accepted answer g p.net; entries = p.entries ++ accept_entries g answer }

abbrev pub dial_answer : MemNet → Dialled
dial_answer n = if n.dial_fails == 0 then dialled.Conn (length n.lines + 1) else dialled.Failed

abbrev pub net_dialled : Dialled → MemNet → MemNet
net_dialled (dialled.Conn number) n = record n { lines = n.lines ++ new_line dial.Begun ∷ [] }
net_dialled dialled.Failed n = record n { dial_fails = n.dial_fails - 1 }
net_dialled dialled.NoMemory n = n

abbrev pub after_dial : PortState → List ℕ → Dialled → PortState
after_dial p address answer = record p { net = net_dialled answer p.net; entries = p.entries ++ dial_entries address answer }

abbrev pub dial_end_answer : MemNet → ℕ → DialEnd
dial_end_answer n c = dial_ends (nth c n.lines)

abbrev pub after_dial_end : PortState → ℕ → DialEnd → PortState
after_dial_end p c answer = record p { entries = p.entries ++ dial_end_entries c answer }

abbrev pub read_answer : MemNet → ℕ → ℕ → PortGot
read_answer n c room = reads (nth c n.lines) room

abbrev pub net_read : PortGot → ℕ → MemNet → MemNet
net_read answer c n = record n { lines = change (line_after_read answer) c n.lines }

-- the room as the read left it
abbrev pub after_read : PortState → ℕ → List ℕ → PortGot → PortState
after_read p c room answer = record p { net = net_read answer c p.net; entries = p.entries ++ read_entries c room answer }

abbrev pub write_answer : MemNet → ℕ → ℕ → Took
write_answer n c given = writes (nth c n.lines) given

abbrev pub net_wrote : Took → ℕ → MemNet → MemNet
net_wrote answer c n = record n { lines = change (line_after_write answer) c n.lines }

abbrev pub after_write : PortState → ℕ → List ℕ → Took → PortState
after_write p c bytes answer = record p { net = net_wrote answer c p.net; entries = p.entries ++ write_entries c bytes answer }

abbrev pub after_shut : PortState → ℕ → PortState
after_shut p c = record p { entries = p.entries ++ shut_entries c p.entries }
