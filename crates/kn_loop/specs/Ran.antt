-- The calls of a node for which the entries of a journal stand.
use Rattle.std.specs.Prelude.{◌≡◌, ℕ, ◌+◌, ◌<◌, ◌==◌, ◌⊎◌, nat_lt, length, Bool, true, false, ◌||◌, List, [], ◌∷◌, take, Option, None, Some}
use Rattle.kn_port.specs.declared.names.Gate.{Gate}
use Rattle.kn_port.specs.declared.names.Accepted.{Accepted}
use Rattle.kn_port.specs.declared.names.Accepted.TheVariants as accepted
use Rattle.kn_port.specs.declared.names.Dialled.{Dialled}
use Rattle.kn_port.specs.declared.names.Dialled.TheVariants as dialled
use Rattle.kn_port.specs.declared.names.DialEnd.{DialEnd}
use Rattle.kn_port.specs.declared.names.DialEnd.TheVariants as dial_end
use Rattle.kn_port.specs.declared.names.PortGot.{PortGot}
use Rattle.kn_port.specs.declared.names.PortGot.TheVariants as got
use Rattle.kn_port.specs.declared.names.Took.{Took}
use Rattle.kn_port.specs.declared.names.Took.TheVariants as took
use Rattle.kn_port.specs.declared.entry.Entry.{Entry}
use Rattle.kn_port.specs.declared.entry.Entry.TheVariants as entry
use Rattle.kn_port.specs.Journal.{Tells, dial_entries}
use Rattle.kn_loop.specs.declared.line.Line.{Line}
use Rattle.kn_loop.specs.declared.watch.Watch.{Watch}
use Rattle.kn_loop.specs.Doing.{is_due, may_ask, may_read, may_write}
use Rattle.kn_loop.specs.Gates.{gate_of, is_unsettled}
use Rattle.kn_loop.specs.Calls.{Answers, Call, Opened, BytesCame, BytesTaken, BytesEnded, ConnLost, DialTaken, Began, NotBegun, DialDone, Drained}
use Rattle.kn_loop.specs.Known.{Known, known_of, known_after, Follows}

abbrev pub is_wait : Entry → Bool
is_wait (entry.Listen gate address answer) = false
is_wait (entry.Wait names answer) = true
is_wait (entry.Accept gate answer) = false
is_wait (entry.Dial address answer) = false
is_wait (entry.DialEnd n answer) = false
is_wait (entry.Read n room bytes answer) = false
is_wait (entry.Write n given bytes answer) = false
is_wait (entry.Shut n) = false

abbrev pub has_wait : List Entry → Bool
has_wait [] = false
has_wait (e ∷ es) = is_wait e || has_wait es

-- a connection that is accepted where so many were not shut is shut at once
abbrev pub connection_limit : ℕ
connection_limit = 800

-- the connection leads to the server
abbrev pub leads_to_server : Option Line → Bool
leads_to_server None = false
leads_to_server (Some l) = l.is_server

module _ {N : Type 0} (did : N → Call → N → Type 0) (outgoing : N → ℕ → List ℕ) where
  -- a connection over the limit is no call
  abbrev pub OpenedDid : Bool → N → ℕ → Gate → N → Type 0
  OpenedDid true old n g new = did old (Opened n g) new
  OpenedDid false old n g new = new ≡ old

  abbrev pub AcceptDid : Bool → N → Gate → Accepted → N → Type 0
  AcceptDid free old g (accepted.Conn n) new = OpenedDid free old n g new
  AcceptDid free old g accepted.NotYet new = new ≡ old
  AcceptDid free old g accepted.Failed new = new ≡ old
  AcceptDid free old g accepted.NoMemory new = new ≡ old

  -- behind the dial of the number that was asked for, the node drains
  abbrev pub DrainDid : Bool → N → N → Type 0
  DrainDid true old new = did old Drained new
  DrainDid false old new = new ≡ old

  -- the node hears whether the dial of its ticket has a connection
  abbrev pub TicketDid : Bool → N → ℕ → Dialled → N → Type 0
  TicketDid drains old t (dialled.Conn n) new = (mid : N) × did old (Began t n) mid × DrainDid drains mid new
  TicketDid drains old t dialled.Failed new = (mid : N) × did old (NotBegun t) mid × DrainDid drains mid new
  TicketDid drains old t dialled.NoMemory new = ⊥

  -- the first of the dials to hand out is taken and dialled
  abbrev pub DialDid : Bool → N → List ℕ → Dialled → N → Type 0
  DialDid drains old a answer new = (t : ℕ) × (mid : N) × did old (DialTaken t a) mid × TicketDid drains mid t answer new

  -- that the server's connection is up is no call, and that its dial failed is its loss
  abbrev pub DialEndDid : Bool → N → ℕ → DialEnd → N → Type 0
  DialEndDid true old n dial_end.Up new = new ≡ old
  DialEndDid true old n dial_end.NotYet new = new ≡ old
  DialEndDid true old n dial_end.Failed new = did old (ConnLost n) new
  DialEndDid true old n dial_end.NoMemory new = new ≡ old
  DialEndDid false old n dial_end.Up new = did old (DialDone n true) new
  DialEndDid false old n dial_end.NotYet new = new ≡ old
  DialEndDid false old n dial_end.Failed new = did old (DialDone n false) new
  DialEndDid false old n dial_end.NoMemory new = new ≡ old

  abbrev pub ReadDid : N → ℕ → List ℕ → PortGot → N → Type 0
  ReadDid old c bytes (got.Bytes n) new = did old (BytesCame c bytes) new
  ReadDid old c bytes got.NotYet new = new ≡ old
  ReadDid old c bytes got.End new = did old (BytesEnded c) new
  ReadDid old c bytes got.Failed new = did old (ConnLost c) new
  ReadDid old c bytes got.NoMemory new = new ≡ old

  -- what was written stood at the front of what the node had for the connection
  abbrev pub WroteDid : N → ℕ → List ℕ → Took → N → Type 0
  WroteDid old c bytes (took.Bytes n) new = (bytes ≡ take n (outgoing old c)) × did old (BytesTaken c n) new
  WroteDid old c bytes took.NotYet new = new ≡ old
  WroteDid old c bytes took.Failed new = did old (ConnLost c) new
  WroteDid old c bytes took.NoMemory new = new ≡ old

  -- what a dial did for a ticket that was taken
  pub record DialMade (t : ℕ) (a : List ℕ) (told0 told1 : Option (List Entry)) (w0 w1 : Watch) (node0 node1 : N) : Type 0 where
    pub answer : Dialled
    pub told : Tells told0 told1 (dial_entries a answer)
    pub follows : Follows (dial_entries a answer) w0 w1
    pub ran : TicketDid (w0.drain == 1) node0 t answer node1

module _ {N : Type 0} (did : N → Call → N → Type 0) (outgoing : N → ℕ → List ℕ) (said : N → ℕ → Answers) (top : N → ℕ) where
  -- The calls for which an entry stands, where this is known before it. A turn accepts only at a gate that may give
  -- something, asks only for the end of a dial that may have come, reads only what is wanted, writes all that there
  -- is, and shuts only what is to be shut, or what the node was not told of.
  abbrev pub EntryDid : Known → N → Entry → N → Type 0
  EntryDid k old (entry.Listen gate address answer) new = ⊥
  EntryDid k old (entry.Wait names answer) new = ⊥
  EntryDid k old (entry.Accept gate answer) new = (is_unsettled (gate_of k.gates gate) ≡ true) × AcceptDid did outgoing (nat_lt k.held connection_limit) old gate answer new
  EntryDid k old (entry.Dial address answer) new = DialDid did outgoing (k.drain == 1) old address answer new
  EntryDid k old (entry.DialEnd n answer) new = (may_ask (k.lines n) ≡ true) × DialEndDid did outgoing (leads_to_server (k.lines n)) old n answer new
  EntryDid k old (entry.Read c room bytes answer) new = (may_read (k.lines c) ≡ true) × ((said old c).wants ≡ true) × (room ≡ 16384) × ReadDid did outgoing old c bytes answer new
  EntryDid k old (entry.Write c given bytes answer) new = (may_write (k.lines c) ≡ true) × (0 < given) × (given ≡ length (outgoing old c)) × WroteDid did outgoing old c bytes answer new
  EntryDid k old (entry.Shut n) new = ((is_due (k.lines n) (said old n) ≡ true) ⊎ (top old < n)) × (new ≡ old)

  -- the node is reached by the calls for which the entries stand, in order
  abbrev pub Ran : Known → N → List Entry → N → Type 0
  Ran k old [] new = new ≡ old
  Ran k old (e ∷ es) new = (mid : N) × EntryDid k old e mid × Ran (known_after e k) mid es new

  -- what a part of a turn that does not wait did: the entries that it added, what is known after them, the calls for
  -- which they stand
  pub record Made (told0 told1 : Option (List Entry)) (w0 w1 : Watch) (node0 node1 : N) : Type 0 where
    pub entries : List Entry
    pub told : Tells told0 told1 entries
    pub follows : Follows entries w0 w1
    pub ran : Ran (known_of w0) node0 entries node1
    pub no_wait : has_wait entries ≡ false
