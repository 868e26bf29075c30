use Rattle.std.proofs.Common.{sym, ◌∙◌}
use Rattle.kn_h2_state.specs.declared.stream.Stream.{Stream}
use Rattle.kn_h2.proofs.CallBounds.{fits_of, number_fits, holds_after_reset}
use Rattle.kn_h2.proofs.stream_calls.reset.Goals as goal

pub shut_and_tell-requires : goal.shut_and_tell-requires
shut_and_tell-requires c =
    let s = c.args.state.now in
    number_fits (λ (st : Stream). st.own_open) s c.args.number c.requires (fits_of (λ (st : Stream). st.own_open) s c.args.number (sym c.reset_refusal.ensures ∙ c.in-None.is))

pub returns-in-Ok-clause-holds : goal.returns-in-Ok-clause-holds
returns-in-Ok-clause-holds c = rw c.in-Ok.ensures (holds_after_reset c.args.number c.args.code c.args.state.now c.requires)
