use Rattle.std.proofs.Common.{sym, ◌∙◌}
use Rattle.kn_h2_state.specs.Streams.{stream_at}
use Rattle.kn_h2.proofs.BlockLemmas.{response_open}
use Rattle.kn_h2.proofs.responses.response_at.Goals as goal

pub returns-in-Some : goal.returns-in-Some
returns-in-Some c =
    rw (response_open c.args.number c.args.ends c.args.fields c.args.state.now (stream_at c.args.state.now.streams c.args.number) c.in-Some.answered (sym c.answered_at.ensures ∙ c.in-Some.is))
    c.responded.ensures
