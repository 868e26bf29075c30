use Rattle.std.proofs.Common.{◌≡◌, ◌+◌, drop}
use Rattle.kn_ends.specs.Queues.{total}
use Rattle.kn_ends.proofs.packet_queue.PacketQueue.exceeds.Given as goal

-- so many bytes of the limit are used by the packets before this one
abbrev pub invariant-loop-index : goal.invariant-loop-index
invariant-loop-index l = l.limit + total (drop l.index l.fn.self) ≡ l.left + total l.fn.self
