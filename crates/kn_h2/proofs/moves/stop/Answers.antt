use Rattle.std.proofs.Common.{ℕ, List, true, ap, ◌∙◌}
use Rattle.kn_frames.specs.Frames.{spelled}
use Rattle.kn_h2_state.specs.Outgoing.{put}
use Rattle.kn_h2_state.specs.Streams.{tidied}
use Rattle.kn_h2.proofs.MakeLemmas.{stop_number, stop_made}
use Rattle.kn_h2.proofs.moves.stop.Goals as goal

pub write_frame-requires-clause-stream_fits : goal.write_frame-requires-clause-stream_fits
write_frame-requires-clause-stream_fits c = stop_number c.args.state.now c.args.number c.requires.holds c.requires.may

pub returns : goal.returns
returns c = stop_made c.args.state.now c.args.number _ _ c.requires.may (c.in_ok-write_frame.ensures ∙ ap (λ (xs : List ℕ). put c.args.state.now.out true (spelled 3 0 c.args.number xs)) c.to_be_bytes.ensures) (c.tidy.ensures ∙ ap tidied c.stop_peer.ensures)
