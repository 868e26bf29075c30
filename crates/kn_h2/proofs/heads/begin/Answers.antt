use Rattle.std.proofs.Common.{sym, subst}
use Rattle.kn_h2_state.specs.Holding.{Holds}
use Rattle.kn_h2.proofs.BeginLemmas.{number_of_begin, holds_begin}
use Rattle.kn_h2.proofs.heads.begin.Goals as goal

pub open_stream-requires-clause-number : goal.open_stream-requires-clause-number
open_stream-requires-clause-number c = number_of_begin c.args.state.now (sym c.in-None.ensures)

pub returns-in-Ok-clause-holds : goal.returns-in-Ok-clause-holds
returns-in-Ok-clause-holds c =
    subst Holds (sym c.in-Ok.ensures.opened) (holds_begin c.args.headers.now c.args.state.now (number_of_begin c.args.state.now (sym c.in-None.ensures)) c.requires)
