use Rattle.std.proofs.Common.{ap, ◌∙◌}
use Rattle.kn_h2_state.specs.Streams.{tidied}
use Rattle.kn_h2.proofs.MakeLemmas.{end_number, end_asked, server_ended}
use Rattle.kn_h2.proofs.moves.end_at_server.Goals as goal

pub write_finish-requires-clause-number_fits : goal.write_finish-requires-clause-number_fits
write_finish-requires-clause-number_fits c = end_number c.args.state.now c.args.number c.requires.holds c.requires.may

pub write_finish-requires-clause-asked : goal.write_finish-requires-clause-asked
write_finish-requires-clause-asked c = end_asked c.args.state.now c.args.number c.requires.may

pub returns : goal.returns
returns c = server_ended c.args.state.now c.args.number _ _ _ c.requires.role c.requires.may c.in_ok-write_finish.ensures.out c.in_ok-write_finish.ensures.wrote (c.tidy.ensures ∙ ap tidied c.end_own_half_at.ensures)
