use Rattle.kn_hpack.proofs.RoundFacts as facts
use Rattle.kn_hpack.proofs.laws.round_trip_laws.Goals as goal

pub returns : goal.returns
returns c = record {
  encoded_is_block = facts.encoded_is_block;
  decoder_gives_back = facts.decoder_gives_back;
}
