use Rattle.std.proofs.Common.{sym, ◌∙◌}
use Rattle.std.proofs.lemmas.Result.{on_ok_weaker}
use Rattle.kn_h2_state.specs.Streams.{stream_at}
use Rattle.kn_h2.proofs.ResetLemmas.{reset_whole, reset_cut}
use Rattle.kn_h2.proofs.resets.reset_open.Goals as goal

pub returns-then-loses_nothing : goal.returns-then-loses_nothing
returns-then-loses_nothing c =
    let s = c.args.state.now in
    c.shut_off.ensures ∙ reset_whole c.args.frame.now s c.args.code (stream_at s.streams c.args.frame.now.stream) c.requires.code (sym c.loses_nothing.ensures ∙ c.if-loses_nothing.true)

pub returns-else-loses_nothing : goal.returns-else-loses_nothing
returns-else-loses_nothing c =
    let s = c.args.state.now in
    on_ok_weaker c.cut_off.result
    (λ e. e ∙ reset_cut c.args.frame.now s c.args.code (stream_at s.streams c.args.frame.now.stream) c.args.unread c.requires.code c.requires.open (sym c.loses_nothing.ensures ∙ c.if-loses_nothing.false))
    c.cut_off.ensures
