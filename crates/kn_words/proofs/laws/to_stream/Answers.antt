-- The word with one packet more at the end of its list, or as it was.
use Rattle.kn_words.proofs.Puts.{out_put_bytes, out_put_close, out_put_refusal, out_put_reply}
use Rattle.kn_words.proofs.laws.to_stream.Goals as goal

pub returns : goal.returns
returns c = record {
  refusal = λ item ps p there e. out_put_refusal item ps p there e;
  reply = λ item ps p there e. out_put_reply item ps p there e;
  bytes = λ item ps p there bytes e. out_put_bytes item ps p there bytes e;
  close = λ item ps p there e. out_put_close item ps p there e;
}
