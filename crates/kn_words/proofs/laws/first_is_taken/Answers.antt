-- The order says that what was first is not there again.
use Rattle.kn_words.proofs.Taken.{down_close_taken, in_cancel_taken, in_close_taken, in_request_taken, out_refusal_taken, out_reply_taken, up_refusal_taken, up_reply_taken}
use Rattle.kn_words.proofs.laws.first_is_taken.Goals as goal

pub returns : goal.returns
returns c = record {
  reply = up_reply_taken;
  refusal = up_refusal_taken;
  close = down_close_taken;
  request = in_request_taken;
  cancel = in_cancel_taken;
  close_of_app = in_close_taken;
  refusal_to_app = out_refusal_taken;
  reply_to_app = out_reply_taken;
}
