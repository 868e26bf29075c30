use Rattle.kn_packet.specs.Messages.{message}
use Rattle.kn_packet.specs.Drafts.{draft_seen}
use Rattle.kn_packet.proofs.Readings.{reads_finished}
use Rattle.kn_packet.proofs.viewing.first_reading.Goals as goal

pub returns-in-Ok-clause-packet : goal.returns-in-Ok-clause-packet
returns-in-Ok-clause-packet c =
    let read = c.in-Ok.ensures in
    reads_finished c.args.bytes.now (message c.finished.result) (draft_seen c.empty_draft.result) (draft_seen c.in-Ok.draft) read.0 read.1 read.2 c.empty_draft.ensures c.finished.ensures
