use Rattle.std.proofs.Common.{◌∷◌, [], ◌++◌, arith}
use Rattle.kn_packet.specs.Reading.{IsEntry}
use Rattle.kn_packet.specs.Faults.{EntryFault}
use Rattle.kn_packet.specs.Progress.{with_entry}
use Rattle.kn_packet.specs.Seen.{entry_seen, values_seen}
use Rattle.kn_packet.proofs.Decisions.{decided_entry}
use Rattle.kn_packet.proofs.Steps.{one_more_read, stopped, shorter, folded_one_more}
use Rattle.kn_packet.proofs.entry.read_entries.Goals as goal

pub loop-rest-smaller : goal.loop-rest-smaller
loop-rest-smaller c =
    let begins = c.in-Ok.ensures in
    shorter (IsEntry c.args.payload) c.loop-rest.rest.now c.in-Ok.after.now (entry_seen c.in-Ok.entry) begins ((decided_entry c.args.payload).some begins.spelled (entry_seen c.in-Ok.entry) begins.is_thing)

pub loop-rest-preserved : goal.loop-rest-preserved
loop-rest-preserved c =
    let before = c.loop-rest.invariant in
    let entry = entry_seen c.in-Ok.entry in (
      before.0 ++ entry ∷ [],
      one_more_read (IsEntry c.args.payload) c.args.bytes.now c.loop-rest.rest.now c.in-Ok.after.now before.0 entry before.1 c.in-Ok.ensures,
      folded_one_more with_entry (values_seen c.args.start) (values_seen c.loop-rest.values) (values_seen c.put-values.result) before.0 entry before.2 c.put-values.ensures,
    )

pub returns-in-Err : goal.returns-in-Err
returns-in-Err c =
    let before = c.loop-rest.invariant in
    stopped (IsEntry c.args.payload) (EntryFault c.args.payload) c.args.bytes.now c.loop-rest.rest.now before.0 _ before.1 (record { before = []; faulty = c.in-Err.ensures; left-is = omega arith })
