use Rattle.std.proofs.Common.{sym}
use Rattle.kn_h2_state.specs.Rules.{shifted_one}
use Rattle.kn_h2.proofs.ShiftLemmas.{changed_some, changed_none}
use Rattle.kn_h2.proofs.shifts.shift_at.Goals as goal

pub returns-in-Some : goal.returns-in-Some
returns-in-Some c = rw c.shift_one.ensures (changed_some c.args.streams.now c.args.place (shifted_one c.args.old c.args.new) c.in-Some.stream.now (sym c.in-Some.ensures.value))

pub returns-in_default : goal.returns-in_default
returns-in_default c = changed_none c.args.streams.now c.args.place (shifted_one c.args.old c.args.new) (sym c.in_default.ensures.value)
