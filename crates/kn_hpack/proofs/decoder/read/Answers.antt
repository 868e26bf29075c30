use Rattle.std.proofs.Common.{arith, ◌≤◌, ◌<◌, ◌-◌, ◌+◌, length}
use Rattle.std.proofs.lemmas.Bool.Decides.{nat_tests}
use Rattle.kn_hpack.specs.Blocks.{read_block, progress}
use Rattle.kn_hpack.proofs.BlockSteps.{goes, stops, at_end, out_of_steps}
use Rattle.kn_hpack.proofs.decoder.read.Goals as goal

pub returns-then-is_empty : goal.returns-then-is_empty
returns-then-is_empty c =
    let z : length c.loop.rest.now ≤ 0 = grind (arith, nat_tests, c.if-is_empty.ensures, c.if-is_empty.true) in
    rw c.into_headers.ensures
    (at_end (length c.args.block.now) (length c.args.block.now - c.loop.counter) (progress c.loop.table c.loop.fields) c.loop.rest.now (read_block c.args.table.now c.args.block.now) z c.loop.invariant)

pub returns-in-Err-Fault : goal.returns-in-Err-Fault
returns-in-Err-Fault c =
    let some : 0 < length c.loop.rest.now = grind (arith, nat_tests, c.if-is_empty.ensures, c.if-is_empty.false) in
    rw (c.saturating_sub-place.ensures, c.in-Err-Fault.reason-is)
    (stops (length c.args.block.now) (length c.args.block.now - (c.loop.counter + 1)) (length c.args.block.now - c.loop.counter) (progress c.loop.table c.loop.fields) c.in-Err-Fault.reason
    c.loop.rest.now (read_block c.args.table.now c.args.block.now) (omega arith) some (rw c.in-Err-Fault.field-0-is at c.in-Err-Fault.ensures) c.loop.invariant)

pub loop-preserved : goal.loop-preserved
loop-preserved c =
    let some : 0 < length c.loop.rest.now = grind (arith, nat_tests, c.if-is_empty.ensures, c.if-is_empty.false) in
    goes (length c.args.block.now) (length c.args.block.now - (c.loop.counter + 1)) (length c.args.block.now - c.loop.counter) (progress c.loop.table c.loop.fields) (progress c.step.new.table c.step.new.fields)
    c.loop.rest.now c.in-Ok.after.now (read_block c.args.table.now c.args.block.now) (omega arith) some c.in-Ok.ensures c.loop.invariant

pub returns : goal.returns
returns c =
    rw c.into_headers-2.ensures
    (out_of_steps (length c.args.block.now) (length c.args.block.now - c.loop.counter) (progress c.loop.table c.loop.fields) c.loop.rest.now (read_block c.args.table.now c.args.block.now) (omega arith) c.loop.invariant)
