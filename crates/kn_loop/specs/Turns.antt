-- When a turn waits and when it ends, and who is awake: what the parts of a turn keep between them.
use Rattle.std.specs.Prelude.{◌≡◌, ℕ, ◌<◌, ◌≤◌, ◌==◌, nat_lt, nat_le, ◌⊎◌, Bool, true, false, not, ◌&&◌, List, [], ◌∷◌, take, min, ◌+◌, ⊤, Option, None, Some, is_some, if◌then◌else◌}
use Rattle.std.specs.List.{list_any}
use Rattle.kn_port.specs.declared.names.Gate.{Gate}
use Rattle.kn_port.specs.declared.names.Ready.{Ready}
use Rattle.kn_port.specs.declared.names.PortGot.{PortGot}
use Rattle.kn_port.specs.declared.names.PortGot.TheVariants as got
use Rattle.kn_port.specs.declared.names.Took.{Took}
use Rattle.kn_port.specs.declared.names.Took.TheVariants as took
use Rattle.kn_port.specs.declared.names.Waited.{Waited}
use Rattle.kn_port.specs.declared.names.Waited.TheVariants as waited
use Rattle.kn_port.specs.declared.entry.Entry.{Entry}
use Rattle.kn_port.specs.declared.entry.Entry.TheVariants as entry
use Rattle.kn_port.specs.Journal.{Tells, is_open}
use Rattle.kn_port.specs.Answers.{Failing}
use Rattle.kn_loop.specs.declared.line.Line.{Line}
use Rattle.kn_loop.specs.declared.watch.Watch.{Watch}
use Rattle.kn_loop.specs.declared.course.Course.{Course}
use Rattle.kn_loop.specs.declared.turn.Turn.{Turn}
use Rattle.kn_loop.specs.declared.turn.Turn.TheVariants as turn
pub use Rattle.kn_loop.specs.Doing.{is_busy, any_busy, is_due, is_active}
use Rattle.kn_loop.specs.Kept.{line_of, is_in, NoTwice}
use Rattle.kn_loop.specs.Gates.{are_gates_settled}
use Rattle.kn_loop.specs.Calls.{Answers, Call, unpaused}
use Rattle.kn_loop.specs.Known.{Given, Follows, known_of}
use Rattle.kn_loop.specs.Ran.{Made}
use Rattle.kn_loop.specs.Visited.{VisitsAll, VisitsOnce, AsksGates}

-- nothing is to be done but to wait
abbrev pub AllSettled : (Gate → Bool) → Watch → (ℕ → Answers) → Type 0
AllSettled takes w said = ((c : ℕ) → is_busy (line_of w.lines c) (said c) ≡ false) × (are_gates_settled takes w.gates ≡ true)

-- no connection that is to be shut is left
abbrev pub NoneDue : (ℕ → Option Line) → (ℕ → Answers) → Type 0
NoneDue lines said = (c : ℕ) → is_due (lines c) (said c) ≡ false

-- no connection comes or goes
abbrev pub SameConns : (ℕ → Option Line) → (ℕ → Option Line) → Type 0
SameConns lines0 lines1 = (c : ℕ) → is_some (lines1 c) ≡ is_some (lines0 c)

-- none comes or goes, and what is known of every other connection stays
abbrev pub Touches : ℕ → (ℕ → Option Line) → (ℕ → Option Line) → Type 0
Touches n lines0 lines1 = (c : ℕ) → (is_some (lines1 c) ≡ is_some (lines0 c)) × ((n == c) ≡ false → lines1 c ≡ lines0 c)

-- a connection at which something is to be done is awake
abbrev pub Covers : (ℕ → Bool) → (ℕ → Option Line) → (ℕ → Answers) → Type 0
Covers awake lines said = (c : ℕ) → is_active (lines c) (said c) ≡ true → awake c ≡ true

-- it is awake, or is left for later
abbrev pub CoversBut : (ℕ → Bool) → (ℕ → Bool) → (ℕ → Option Line) → (ℕ → Answers) → Type 0
CoversBut awake left lines said = (c : ℕ) → is_active (lines c) (said c) ≡ true → (awake c ≡ true) ⊎ (left c ≡ true)

-- What a visit leaves: where something is to be done now the connection is awake, or was so before and is not the
-- one that was visited.
abbrev pub Visits : ℕ → (ℕ → Bool) → (ℕ → Bool) → (ℕ → Option Line) → (ℕ → Option Line) → (ℕ → Answers) → (ℕ → Answers) → Type 0
Visits n awake0 awake1 lines0 lines1 said0 said1 =
    ((c : ℕ) → awake0 c ≡ true → awake1 c ≡ true)
    × ((c : ℕ) → is_active (lines1 c) (said1 c) ≡ true → (awake1 c ≡ true) ⊎ ((is_active (lines0 c) (said0 c) ≡ true) × ((n == c) ≡ false)))

-- each of these is to be visited, and none to be shut
abbrev pub AreBusy : List ℕ → (ℕ → Option Line) → (ℕ → Answers) → Type 0
AreBusy [] lines said = ⊤
AreBusy (n ∷ ns) lines said = (is_busy (lines n) (said n) ≡ true) × (is_due (lines n) (said n) ≡ false) × AreBusy ns lines said

-- Those at which something is to be done, and nobody else, are in the list; none is to be shut.
pub record Rests (batch : List ℕ) (lines : ℕ → Option Line) (said : ℕ → Answers) : Type 0 where
  pub covers : Covers (is_in batch) lines said
  pub busy : AreBusy batch lines said

abbrev pub AreAllGiven : List ℕ → ℕ → Type 0
AreAllGiven [] top = ⊤
AreAllGiven (n ∷ ns) top = (0 < n) × (n ≤ top) × AreAllGiven ns top

-- what is known of a connection changes only where it is woken, and none falls asleep
abbrev pub WakesLines : (ℕ → Bool) → (ℕ → Bool) → (ℕ → Option Line) → (ℕ → Option Line) → Type 0
WakesLines awake0 awake1 lines0 lines1 = (c : ℕ) → (awake0 c ≡ true → awake1 c ≡ true) × (awake1 c ≡ false → lines1 c ≡ lines0 c)

-- a connection of which something is known is at hand by the journal, where it is told
abbrev pub AtHand : Option (List Entry) → (ℕ → Option Line) → Type 0
AtHand None lines = ⊤
AtHand (Some es) lines = (c : ℕ) → is_some (lines c) ≡ true → is_open es c ≡ true

-- What holds between turns: those at which something would be to do if the bytes of each were wanted are in the list,
-- none of them twice; none is to be shut, nobody is awake, and what is known was given.
pub record Steady (batch awake : List ℕ) (w : Watch) (said : ℕ → Answers) (greatest drawn : ℕ) (told : Option (List Entry)) : Type 0 where
  pub rests : Rests batch (line_of w.lines) (unpaused said)
  pub single : NoTwice batch
  pub asleep : awake ≡ []
  pub given : Given w greatest drawn
  pub hand : AtHand told (line_of w.lines)

-- the bytes that a write took
abbrev pub take_took : Took → List ℕ → List ℕ
take_took (took.Bytes n) given = take n given
take_took took.NotYet given = []
take_took took.Failed given = []
take_took took.NoMemory given = []

-- the bytes that a read gave, from the room as it left it
abbrev pub take_got : PortGot → List ℕ → List ℕ
take_got (got.Bytes n) room = take n room
take_got got.NotYet room = []
take_got got.End room = []
take_got got.Failed room = []
take_got got.NoMemory room = []

-- enough tunnels have ended, and nothing is left to write
abbrev pub is_done : Course → ℕ → List (ℕ × Line) → (ℕ → Answers) → Bool
is_done course ended lines said = nat_lt 0 course.tunnels && nat_le course.tunnels ended && not (list_any (λ l. (said l.0).has_out) lines)

abbrev pub is_bound : Course → Bool
is_bound course = nat_lt 0 course.turns && (course.turn == course.turns)

-- what a turn answers where no call of the port ended it
abbrev pub answer_of : Bool → Bool → Bool → Turn
answer_of done lost bound = if done then turn.Done else if lost then turn.ServerLost else if bound then turn.Bound else turn.More

-- A turn after the first: it waited, and all was settled; or not all was, and it did not wait, visited each connection
-- at which something was to be done, none more than once, asked each gate that might have something to give, and left nothing to dial and
-- nothing to shut.
pub data Turned {N : Type 0} (did : N → Call → N → Type 0) (outgoing : N → ℕ → List ℕ) (said : N → ℕ → Answers) (top : N → ℕ) (to_dial : N → List (ℕ × List ℕ)) (takes : Gate → Bool)
    (told0 told1 : Option (List Entry)) (w0 w1 : Watch) (node0 node1 : N) : Waited → Type 0 where
  WaitedOnce : (names : List Ready) (answer : Waited) → AllSettled takes w0 (said node0)
      → Tells told0 told1 (entry.Wait names answer ∷ []) → Follows (entry.Wait names answer ∷ []) w0 w1 → node1 ≡ node0
      → Turned did outgoing said top to_dial takes told0 told1 w0 w1 node0 node1 answer
  Acted : (AllSettled takes w0 (said node0) → ⊥) → (made : Made did outgoing said top told0 told1 w0 w1 node0 node1)
      → VisitsAll did outgoing said top (known_of w0) node0 node1 made.entries → AsksGates takes w0.gates made.entries → VisitsOnce made.entries
      → to_dial node1 ≡ [] → NoneDue (line_of w1.lines) (said node1)
      → Turned did outgoing said top to_dial takes told0 told1 w0 w1 node0 node1 waited.Ready

-- the number of the turn is one more; it stands still at 2^64 - 1
abbrev pub counted : Watch → Watch
counted w = record w { course = record w.course { turn = min (w.course.turn + 1) 18446744073709551615 } }

abbrev pub waited_answer : Waited → Turn → Turn
waited_answer waited.Ready answer = answer
waited_answer waited.Failed answer = turn.WaitFault
waited_answer waited.NoMemory answer = turn.NoMemory

-- A turn after the first, with its answer: want of memory; or what its wait and then the counts say.
abbrev pub IsTurn : {N : Type 0} → (N → Call → N → Type 0) → (N → ℕ → List ℕ) → (N → ℕ → Answers) → (N → ℕ) → (N → List (ℕ × List ℕ)) → (Gate → Bool) → (N → ℕ) → (N → Bool)
    → Option (List Entry) → Option (List Entry) → Watch → Watch → N → N → Turn → Type 0
IsTurn did outgoing said top to_dial takes ended cut_off told0 told1 w0 w1 node0 node1 result =
    (result ≡ turn.NoMemory) ⊎ ((waits : Waited) × Turned did outgoing said top to_dial takes told0 told1 (counted w0) w1 node0 node1 waits
    × (result ≡ waited_answer waits (answer_of (is_done w1.course (ended node1) w1.lines (said node1)) (cut_off node1) (is_bound w1.course))))

-- the count of faults never falls; the turn says that the port could not wait only where it rose, and never that it could not listen
abbrev pub TurnCounts : Turn → ℕ → ℕ → Type 0
TurnCounts turn.More before after = before ≤ after
TurnCounts turn.Done before after = before ≤ after
TurnCounts turn.Bound before after = before ≤ after
TurnCounts turn.BindFault before after = ⊥
TurnCounts turn.WaitFault before after = Failing before after
TurnCounts turn.ServerLost before after = before ≤ after
TurnCounts turn.NoMemory before after = before ≤ after
