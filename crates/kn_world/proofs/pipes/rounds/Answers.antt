use Rattle.std.proofs.Common.{◌∙◌, ◌-◌, sym, ap, arith}
use Rattle.kn_world.specs.Pipes.{rounds}
use Rattle.kn_world.proofs.RoundLemmas.{no_rounds, rounds_quiet, rounds_more}
use Rattle.kn_world.proofs.pipes.rounds.Goals as goal

pub returns-then-nothing_in_flight : goal.returns-then-nothing_in_flight
returns-then-nothing_in_flight c =
    sym (rounds_quiet c.rounds.left c.rounds.state (sym c.if-nothing_in_flight.ensures)) ∙ c.rounds.invariant

pub rounds-preserved : goal.rounds-preserved
rounds-preserved c =
    ap (rounds (c.rounds.left - 1)) c.in_ok-round.ensures
    ∙ sym (rounds_more c.rounds.left c.rounds.state (sym c.if-nothing_in_flight.ensures) (omega arith))
    ∙ c.rounds.invariant

pub returns : goal.returns
returns c = sym (no_rounds c.rounds.left c.rounds.state (omega arith)) ∙ c.rounds.invariant
