-- By going along the list: what stands before a word may stay there.
use Rattle.kn_words.proofs.DownOrder.{down_order_append}
use Rattle.kn_words.proofs.InOrder.{in_order_append}
use Rattle.kn_words.proofs.OutOrder.{out_order_append}
use Rattle.kn_words.proofs.UpOrder.{up_order_append}
use Rattle.kn_words.proofs.laws.order_is_kept.Goals as goal

pub returns : goal.returns
returns c = record {
  up = λ item ps p. up_order_append item ps p;
  down = λ item ps p. down_order_append item ps p;
  inward = λ item ps p. in_order_append item ps p;
  outward = λ item ps p. out_order_append item ps p;
}
