use Rattle.std.proofs.Common.{◌<◌, arith, rules}
use Rattle.kn_h2.proofs.CallBounds.{text_owed, text_owed_one, holds_take}
use Rattle.kn_h2.proofs.taking.take.Goals as goal

pub overflow_cast-count : goal.overflow_cast-count
overflow_cast-count c =
    let k = text_owed c.args.state.now c.args.number c.args.count c.requires.holds c.requires.part in
    let f : c.args.count < 4294967296 = omega arith in
    search rules

pub take_and_tidy-requires-clause-fits : goal.take_and_tidy-requires-clause-fits
take_and_tidy-requires-clause-fits c = text_owed_one c.args.state.now c.args.number c.args.count c.requires.holds c.requires.part

pub overflow_add-state : goal.overflow_add-state
overflow_add-state c =
    let k = text_owed c.args.state.now c.args.number c.args.count c.requires.holds c.requires.part in
    search rules

pub returns-clause-holds : goal.returns-clause-holds
returns-clause-holds c = rw c.take_and_tidy.ensures (holds_take c.args.state.now c.args.number c.args.count c.requires.part c.requires.holds)
