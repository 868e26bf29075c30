use Rattle.kn_h2_state.proofs.StepLaws.{next_is_read}
use Rattle.kn_h2_state.proofs.laws.next_block_is_read.Goals as goal

pub returns : goal.returns
returns c = next_is_read c.round_trip_laws.ensures.encoded_is_block c.block_laws.ensures.block_is_read
