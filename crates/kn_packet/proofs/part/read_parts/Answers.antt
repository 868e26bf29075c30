use Rattle.std.proofs.Common.{◌∷◌, [], ◌++◌}
use Rattle.kn_packet.specs.Reading.{IsPart}
use Rattle.kn_packet.specs.Faults.{PartFault}
use Rattle.kn_packet.specs.Progress.{with_part}
use Rattle.kn_packet.specs.Drafts.{draft_seen}
use Rattle.kn_packet.proofs.Decisions.{decided_part}
use Rattle.kn_packet.proofs.Steps.{one_more_read, stopped, shorter, folded_one_more}
use Rattle.kn_packet.proofs.part.read_parts.Goals as goal

pub loop-rest-smaller : goal.loop-rest-smaller
loop-rest-smaller c =
    let read = c.in-Ok.ensures in
    shorter IsPart c.loop-rest.rest.now c.in-Ok.after.now read.0 read.1 (decided_part.some read.1.spelled read.0 read.1.is_thing)

pub loop-rest-preserved : goal.loop-rest-preserved
loop-rest-preserved c =
    let before = c.loop-rest.invariant in
    let read = c.in-Ok.ensures in (
      before.0 ++ read.0 ∷ [],
      one_more_read IsPart c.args.bytes.now c.loop-rest.rest.now c.in-Ok.after.now before.0 read.0 before.1 read.1,
      folded_one_more with_part (draft_seen c.args.start) (draft_seen c.loop-rest.draft) (draft_seen c.in-Ok.next) before.0 read.0 before.2 read.2,
    )

pub returns-in-Err : goal.returns-in-Err
returns-in-Err c =
    let before = c.loop-rest.invariant in
    stopped IsPart PartFault c.args.bytes.now c.loop-rest.rest.now before.0 c.in-Err.stop before.1 c.in-Err.ensures
