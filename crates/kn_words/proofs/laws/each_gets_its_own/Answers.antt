-- What the entries of others give counts for nothing, so what counts is what the own ones give.
use Rattle.kn_words.proofs.DownGiven.{down_none_queued, down_own_queued}
use Rattle.kn_words.proofs.OutGiven.{out_none_queued, out_own_queued}
use Rattle.kn_words.proofs.laws.each_gets_its_own.Goals as goal

pub returns : goal.returns
returns c start = record {
  to_stream = λ item give own others ps es h once. out_own_queued item give own others ps es h once;
  nothing_to_stream = λ item give own others ps es none. out_none_queued item give own others ps es none;
  to_agent = λ item give own others ps es h once. down_own_queued item give own others ps es h once;
  nothing_to_agent = λ item give own others ps es none. down_none_queued item give own others ps es none;
}
