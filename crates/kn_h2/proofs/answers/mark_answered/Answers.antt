use Rattle.std.proofs.Common.{sym, true}
use Rattle.kn_h2_state.specs.declared.stream.Stream.{Stream}
use Rattle.kn_h2.proofs.StreamLemmas.{change_some}
use Rattle.kn_h2.proofs.answers.mark_answered.Goals as goal

pub returns-in-Some : goal.returns-in-Some
returns-in-Some c = sym (change_some c.args.streams.now c.args.number (λ (st : Stream). record st { answered = true }) c.in-Some.stream.now (sym c.in-Some.ensures.value))
