-- The word with one packet more at the end of its list, or as it was.
use Rattle.kn_words.proofs.Puts.{up_put_bytes, up_put_close, up_put_refusal, up_put_reply}
use Rattle.kn_words.proofs.laws.from_agent.Goals as goal

pub returns : goal.returns
returns c = record {
  refusal = λ item ps p there e. up_put_refusal item ps p there e;
  reply = λ item ps p there e. up_put_reply item ps p there e;
  bytes = λ item ps p there bytes e. up_put_bytes item ps p there bytes e;
  close = λ item ps p there e. up_put_close item ps p there e;
}
