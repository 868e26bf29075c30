-- The packets that are on their way, as bytes of a stream.
use Rattle.std.specs.Prelude.{◌≡◌, ◌≢◌, ℕ, zero, suc, ◌≤◌, List, [], ◌∷◌, ◌++◌, length}
use Rattle.std.specs.List.{AllByRecursion}
use Rattle.kn_packet.specs.declared.packet.Packet.{Packet}
use Rattle.kn_packet.specs.Spelling.{spelling, HasSpelling, IsPacket}
use Rattle.kn_grpc.specs.Readers.{First, Less, Whole, Bad}
use Rattle.kn_grpc.specs.Packets.{framed, first_of}

-- the packets that stand at the front of these bytes, whole and one behind the other. No more packets than bytes
abbrev pub packets_at : (List ℕ → List Packet) → First Packet ℕ → List Packet
packets_at next Less = []
packets_at next (Whole p rest) = p ∷ next rest
packets_at next (Bad status) = []

unfoldable pub packets_by : ℕ → List ℕ → List Packet
packets_by zero bytes = []
packets_by (suc more) bytes = packets_at (packets_by more) (first_of bytes)

abbrev pub packets_of : List ℕ → List Packet
packets_of bytes = packets_by (length bytes) bytes

-- packets as a stream carries them
unfoldable pub joined : List Packet → List ℕ
joined [] = []
joined (p ∷ ps) = framed p ++ joined ps

-- a packet that a message can carry
pub record CanBeSent (p : Packet) : Type 0 where
  pub is_packet : IsPacket p
  pub has_spelling : HasSpelling p
  pub fits : length (spelling p) ≤ 4194304

-- what is pending while the sender has its end: whole packets, and nothing behind them
abbrev pub ArePackets : List ℕ → List Packet → Type 0
ArePackets bytes ps = (bytes ≡ joined ps) × AllByRecursion CanBeSent ps

-- and once it was lost: packets, and the front of one
abbrev pub BeginAs : List ℕ → List Packet → Type 0
BeginAs bytes ps = (rest : List ℕ) × (bytes ≡ joined ps ++ rest) × (first_of rest ≡ Less) × AllByRecursion CanBeSent ps

abbrev pub IsFrontOf : {A : Type 0} → List A → List A → Type 0
IsFrontOf {A = A} left whole = (rest : List A) × (left ++ rest ≡ whole)

-- packets are read as they were sent
abbrev pub AreRead : Type 0
AreRead = (bytes : List ℕ) (ps : List Packet) → BeginAs bytes ps → packets_of bytes ≡ ps

-- whatever is cut off at the end of packets, what is left begins with a front of them
abbrev pub CutsLeaveFronts : Type 0
CutsLeaveFronts = (bytes : List ℕ) (ps : List Packet) → AllByRecursion CanBeSent ps → IsFrontOf bytes (joined ps) → (qs : List Packet) × IsFrontOf qs ps × BeginAs bytes qs

-- a packet that is queued stands behind the others
abbrev pub QueuedLast : Type 0
QueuedLast = (bytes : List ℕ) (ps : List Packet) (p : Packet) → CanBeSent p → ArePackets bytes ps → ArePackets (bytes ++ framed p) (ps ++ p ∷ [])

-- a message that came whole is the first packet, and the others are behind it
pub record FirstOf (more : List ℕ) (ps : List Packet) (p : Packet) : Type 0 where
  pub others : List Packet
  pub all : ps ≡ p ∷ others
  pub behind : BeginAs more others

abbrev pub TakenFirst : Type 0
TakenFirst = (kept more : List ℕ) (ps : List Packet) (p : Packet) → BeginAs (kept ++ more) ps → first_of kept ≡ Whole p [] → FirstOf more ps p

-- no message is bad
abbrev pub NoneIsBad : Type 0
NoneIsBad = (kept more : List ℕ) (ps : List Packet) (status : ℕ) → BeginAs (kept ++ more) ps → first_of kept ≢ Bad status

-- what is left where less than a message came, and nothing else is on its way, is no packet
abbrev pub NothingLeft : Type 0
NothingLeft = (bytes : List ℕ) (ps : List Packet) → ArePackets bytes ps → first_of bytes ≡ Less → (ps ≡ []) × (bytes ≡ [])
