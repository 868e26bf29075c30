use Rattle.kn_pending.proofs.FacingLemmas.{facing_delivers}
use Rattle.kn_pending.proofs.laws.facing_delivers.Goals as goal

pub returns : goal.returns
returns c = facing_delivers c.wire_splits.ensures c.pieces_are_read.ensures.rest c.facing_goes_on.ensures.pieces c.unended_streams_are_heard.ensures
