use Rattle.kn_h2.proofs.MakeLemmas.{send_needs, send_made}
use Rattle.kn_h2.proofs.moves.send.Goals as goal

pub write_data-requires-clause-number_fits : goal.write_data-requires-clause-number_fits
write_data-requires-clause-number_fits c = (send_needs c.args.state.now c.args.number c.args.count c.requires.holds c.requires.may).number

pub write_data-requires-clause-frame : goal.write_data-requires-clause-frame
write_data-requires-clause-frame c = (send_needs c.args.state.now c.args.number c.args.count c.requires.holds c.requires.may).frame

pub write_data-requires-clause-queued : goal.write_data-requires-clause-queued
write_data-requires-clause-queued c = (send_needs c.args.state.now c.args.number c.args.count c.requires.holds c.requires.may).queued

pub take_sent_at-requires-clause-queued : goal.take_sent_at-requires-clause-queued
take_sent_at-requires-clause-queued c = (send_needs c.args.state.now c.args.number c.args.count c.requires.holds c.requires.may).waits

pub take_sent_at-requires-clause-window : goal.take_sent_at-requires-clause-window
take_sent_at-requires-clause-window c = (send_needs c.args.state.now c.args.number c.args.count c.requires.holds c.requires.may).stream

pub spend-requires : goal.spend-requires
spend-requires c = (send_needs c.args.state.now c.args.number c.args.count c.requires.holds c.requires.may).connection

pub returns : goal.returns
returns c = send_made c.args.state.now c.args.number c.args.count _ _ _ c.requires.may c.in_ok-write_data.ensures c.take_sent_at.ensures c.spend.ensures
