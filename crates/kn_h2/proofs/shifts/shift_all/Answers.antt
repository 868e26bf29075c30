use Rattle.std.proofs.Common.{◌<◌, length, arith}
use Rattle.kn_h2_state.specs.Rules.{shifted_one, shifts_over}
use Rattle.kn_h2.proofs.ShiftLemmas.{changed_step, none_over}
use Rattle.kn_h2.proofs.shifts.shift_all.Goals as goal

pub shift_at-requires-clause-fits : goal.shift_at-requires-clause-fits
shift_at-requires-clause-fits c =
    let lt : c.loop-place.place < length c.args.streams.now = omega arith in
    none_over (shifted_one c.args.old c.args.new) (shifts_over c.args.old c.args.new) c.args.streams.now c.loop-place.streams c.loop-place.place c.loop-place.invariant lt c.requires.fits

pub loop-place-preserved : goal.loop-place-preserved
loop-place-preserved c =
    let lt : c.loop-place.place < length c.args.streams.now = omega arith in
    rw c.shift_at.ensures (changed_step (shifted_one c.args.old c.args.new) c.args.streams.now c.loop-place.streams c.loop-place.place c.loop-place.invariant lt)
