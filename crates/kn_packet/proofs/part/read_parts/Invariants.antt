use Rattle.std.proofs.Common.{◌≡◌, List, length}
use Rattle.kn_packet.specs.Reading.{Part, IsPart}
use Rattle.kn_packet.specs.Progress.{with_parts}
use Rattle.kn_packet.specs.Drafts.{draft_seen}
use Rattle.kn_packet.proofs.Steps.{HasRead}
use Rattle.kn_packet.proofs.part.read_parts.Given as goal

abbrev pub invariant-loop-rest : goal.invariant-loop-rest
invariant-loop-rest l = (parts : List Part) × HasRead IsPart l.bytes l.rest parts × (draft_seen l.draft ≡ with_parts (draft_seen l.fn.start) parts)

abbrev pub decreases-loop-rest : goal.decreases-loop-rest
decreases-loop-rest l = length l.rest
