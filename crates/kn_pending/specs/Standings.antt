-- How a list of packets stands to the bytes that are on their way.
use Rattle.std.specs.Prelude.{◌≡◌, ℕ, List, [], ◌∷◌, ◌++◌}
use Rattle.kn_packet.specs.declared.packet.Packet.{Packet}
use Rattle.kn_grpc.specs.Readers.{Whole}
use Rattle.kn_grpc.specs.Packets.{framed, first_of}
use Rattle.kn_pending.specs.Packets.{ArePackets, BeginAs, CanBeSent, IsFrontOf}

pub data Standing : Type 0 where
  Both : Standing  -- both ends have it
  Cut : Standing  -- its sender lost it: the front of a packet may be left over
  Dropped : Standing  -- its receiver lost it: what comes is nothing to it
  Losing : Standing  -- its sender is about to lose it: the last packets may have been dropped before they were queued

abbrev pub Stands : Standing → List ℕ → List Packet → Type 0
Stands Both bytes ps = ArePackets bytes ps
Stands Cut bytes ps = BeginAs bytes ps
Stands Dropped bytes ps = ps ≡ []
Stands Losing bytes ps = (qs : List Packet) × ArePackets bytes qs × IsFrontOf qs ps

-- ---- what the steps of an end come to

-- the first message is handled
pub record Handled (standing : Standing) (more : List ℕ) (ps : List Packet) (p : Packet) : Type 0 where
  pub others : List Packet
  pub all : ps ≡ p ∷ others
  pub behind : Stands standing more others

abbrev pub HandlesFirst : Type 0
HandlesFirst = (kept more : List ℕ) (ps : List Packet) (p : Packet) → first_of kept ≡ Whole p []
    → (Stands Both (kept ++ more) ps → Handled Both more ps p) × (Stands Cut (kept ++ more) ps → Handled Cut more ps p)

-- a packet is queued; one that is dropped at a full queue makes the link one that is about to be lost
abbrev pub QueuesLast : Type 0
QueuesLast = (bytes : List ℕ) (ps : List Packet) (p : Packet) → CanBeSent p → Stands Both bytes ps → Stands Both (bytes ++ framed p) (ps ++ p ∷ [])

abbrev pub DropsLast : Type 0
DropsLast = (bytes : List ℕ) (ps : List Packet) (p : Packet) → (Stands Both bytes ps → Stands Losing bytes (ps ++ p ∷ [])) × (Stands Losing bytes ps → Stands Losing bytes (ps ++ p ∷ []))

-- the sender loses it: whatever of the bytes is left, a front of the list is left
pub record Left (bytes : List ℕ) (ps : List Packet) : Type 0 where
  pub left : List Packet
  pub front : IsFrontOf left ps
  pub stands : Stands Cut bytes left

abbrev pub LosesSome : Type 0
LosesSome = (whole bytes : List ℕ) (ps : List Packet) → IsFrontOf bytes whole
    → (Stands Both whole ps → Left bytes ps) × (Stands Cut whole ps → Left bytes ps) × (Stands Losing whole ps → Left bytes ps)
