-- The calls of a node that the answers of a port stand for, and what a node says of a connection.
use Rattle.std.specs.Prelude.{◌≡◌, ℕ, Bool, true, false, List}
use Rattle.kn_port.specs.declared.names.Gate.{Gate}

pub data Call : Type 0 where
  -- a connection came through a gate
  Opened : ℕ → Gate → Call
  BytesCame : ℕ → List ℕ → Call
  BytesTaken : ℕ → ℕ → Call
  BytesEnded : ℕ → Call
  ConnLost : ℕ → Call
  -- the first of the dials to hand out: its ticket and its address
  DialTaken : ℕ → List ℕ → Call
  -- the dial of this ticket has this connection; or has none
  Began : ℕ → ℕ → Call
  NotBegun : ℕ → Call
  -- the dial of this connection is up, or failed
  DialDone : ℕ → Bool → Call
  Drained : Call

-- what a node says of a connection
pub record Answers : Type 0 where
  pub wants : Bool
  pub has_out : Bool
  pub shuts : Bool

-- what it says, as if the bytes of each connection were wanted
abbrev pub unpaused : (ℕ → Answers) → ℕ → Answers
unpaused said c = record (said c) { wants = true }

-- A call changes what the node says of a connection only where it wakes it, and puts none to sleep.
abbrev pub Wakes : (ℕ → Bool) → (ℕ → Bool) → (ℕ → Answers) → (ℕ → Answers) → Type 0
Wakes awake0 awake1 said0 said1 = (c : ℕ) → (awake0 c ≡ true → awake1 c ≡ true) × (awake1 c ≡ false → said1 c ≡ said0 c)

-- it wakes this connection besides
abbrev pub WakesAlso : ℕ → (ℕ → Bool) → (ℕ → Bool) → (ℕ → Answers) → (ℕ → Answers) → Type 0
WakesAlso n awake0 awake1 said0 said1 = (awake1 n ≡ true) × Wakes awake0 awake1 said0 said1
