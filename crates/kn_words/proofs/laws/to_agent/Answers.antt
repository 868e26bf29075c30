-- The word with one packet more at the end of its list, or as it was.
use Rattle.kn_words.proofs.Puts.{down_put_bytes, down_put_close}
use Rattle.kn_words.proofs.laws.to_agent.Goals as goal

pub returns : goal.returns
returns c = record {
  bytes = λ item ps p there bytes e. down_put_bytes item ps p there bytes e;
  close = λ item ps p there e. down_put_close item ps p there e;
}
