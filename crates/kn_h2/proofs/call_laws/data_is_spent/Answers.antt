use Rattle.kn_h2.proofs.SpendingLemmas.{openings_spend, calls_spend, answers_spend, fills_spend, frames_take_all}
use Rattle.kn_h2.proofs.call_laws.data_is_spent.Goals as goal

pub returns : goal.returns
returns c = record {
  fills = fills_spend c.all_data_splits.ensures.none c.written_is_read.ensures c.calls_are_written.ensures.fills c.sending_laws.ensures.spends;
  opening = openings_spend c.all_data_splits.ensures.none c.written_is_carried.ensures.opening;
  calls = calls_spend c.all_data_splits.ensures.none c.written_is_carried.ensures.calls;
  answers = answers_spend c.all_data_splits.ensures.none c.answers_are_written.ensures.piece_sums;
  taken = frames_take_all c.windows_follow.ensures.connection;
}
