-- There is nothing in either part.
use Rattle.std.proofs.Common.{◌≡◌, false}
use Rattle.kn_h2_state.specs.declared.stream.Stream.{Stream}
use Rattle.kn_h2.specs.Finding.{has_work}
use Rattle.kn_h2.proofs.FindLemmas.{none_of_both}
use Rattle.kn_h2.proofs.finding.move_of_turn.Goals as goal

pub returns-in-None-clause-none : goal.returns-in-None-clause-none
returns-in-None-clause-none c =
    none_of_both (λ (st : Stream). has_work c.args.window.now st ≡ false) c.args.streams.now c.place_after-place.result c.first_move-in-None.result
    c.place_after-place.ensures c.in-None.ensures.none c.first_move-in-None.ensures.none
