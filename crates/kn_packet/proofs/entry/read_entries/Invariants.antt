use Rattle.std.proofs.Common.{◌≡◌, List, length}
use Rattle.kn_packet.specs.Reading.{Entry, IsEntry}
use Rattle.kn_packet.specs.Progress.{with_entries}
use Rattle.kn_packet.specs.Seen.{values_seen}
use Rattle.kn_packet.proofs.Steps.{HasRead}
use Rattle.kn_packet.proofs.entry.read_entries.Given as goal

abbrev pub invariant-loop-rest : goal.invariant-loop-rest
invariant-loop-rest l = (entries : List Entry) × HasRead (IsEntry l.payload) l.bytes l.rest entries × (values_seen l.values ≡ with_entries (values_seen l.fn.start) entries)

abbrev pub decreases-loop-rest : goal.decreases-loop-rest
decreases-loop-rest l = length l.rest
