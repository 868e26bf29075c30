-- What was read of a packet so far, without where it lies.
use Rattle.kn_packet.specs.declared.draft.Draft.{Draft}
use Rattle.kn_packet.specs.Progress.{SoFar}
use Rattle.kn_packet.specs.Seen.{values_seen}

abbrev pub draft_seen : Draft → SoFar
draft_seen draft = record { kind = draft.kind; payload = draft.payload; values = values_seen draft.values }
