-- A number is the number that it is.
use Rattle.kn_words.proofs.Items.{down_own_data, in_own_data, out_own_data, up_own_data, up_own_refusal, up_own_reply}
use Rattle.kn_words.proofs.laws.own_packets_are_found.Goals as goal

pub returns : goal.returns
returns c = record {
  reply = up_own_reply;
  refusal = up_own_refusal;
  to_app = out_own_data;
  to_server = in_own_data;
  to_agent = down_own_data;
  from_agent = up_own_data;
}
