use Rattle.std.proofs.Common.{ap, ◌∙◌}
use Rattle.kn_h2_state.specs.Streams.{tidied}
use Rattle.kn_h2.proofs.MakeLemmas.{end_number, client_ended}
use Rattle.kn_h2.proofs.moves.end_at_client.Goals as goal

pub write_frame-requires-clause-stream_fits : goal.write_frame-requires-clause-stream_fits
write_frame-requires-clause-stream_fits c = end_number c.args.state.now c.args.number c.requires.holds c.requires.may

pub returns : goal.returns
returns c = client_ended c.args.state.now c.args.number _ _ c.requires.role c.requires.may c.in_ok-write_frame.ensures (c.tidy.ensures ∙ ap tidied c.end_own_half_at.ensures)
