-- The word with one packet more at the end of its list, or as it was.
use Rattle.kn_words.proofs.Puts.{in_put_bytes, in_put_cancel, in_put_close, in_put_request}
use Rattle.kn_words.proofs.laws.from_stream.Goals as goal

pub returns : goal.returns
returns c = record {
  request = λ item ps p there e. in_put_request item ps p there e;
  cancel = λ item ps p there e. in_put_cancel item ps p there e;
  bytes = λ item ps p there bytes e. in_put_bytes item ps p there bytes e;
  close = λ item ps p there e. in_put_close item ps p there e;
}
