-- By going along the list.
use Rattle.kn_words.proofs.DownOrder.{down_prefix_cut, down_prefix_ordered}
use Rattle.kn_words.proofs.InOrder.{in_prefix_cut, in_prefix_ordered}
use Rattle.kn_words.proofs.OutOrder.{out_prefix_cut, out_prefix_ordered}
use Rattle.kn_words.proofs.UpOrder.{up_prefix_cut, up_prefix_ordered}
use Rattle.kn_words.proofs.laws.fronts_of_lists.Goals as goal

pub returns : goal.returns
returns c = record {
  up = λ item ps qs h. (up_prefix_ordered item ps qs h, up_prefix_cut item ps qs h);
  down = λ item ps qs h. (down_prefix_ordered item ps qs h, down_prefix_cut item ps qs h);
  inward = λ item ps qs h. (in_prefix_ordered item ps qs h, in_prefix_cut item ps qs h);
  outward = λ item ps qs h. (out_prefix_ordered item ps qs h, out_prefix_cut item ps qs h);
}
