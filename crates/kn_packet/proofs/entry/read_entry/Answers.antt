use Rattle.kn_packet.specs.Seen.{field_seen, entry_seen}
use Rattle.kn_packet.proofs.Entries.{entry_begins, text_is_faulty, entry_is_faulty}
use Rattle.kn_packet.proofs.entry.read_entry.Goals as goal

pub returns-in-Some : goal.returns-in-Some
returns-in-Some c =
    entry_begins c.args.payload c.args.bytes.now c.in-Ok.rest.now (field_seen c.in-Ok.field) c.kind.result (entry_seen c.in-Some.entry) c.requires c.in-Ok.ensures c.kind.ensures c.in-Some.ensures.0 c.in-Some.ensures.1

pub returns-in-None : goal.returns-in-None
returns-in-None c = text_is_faulty c.args.payload c.args.bytes.now c.in-Ok.rest.now (field_seen c.in-Ok.field) c.kind.result c.requires c.in-Ok.ensures c.kind.ensures c.in-None.ensures

pub returns-in-Err : goal.returns-in-Err
returns-in-Err c = entry_is_faulty c.args.payload c.args.bytes.now c.in-Err.reason c.reason_within.result c.requires c.in-Err.ensures c.reason_within.ensures
