-- By going along the list.
use Rattle.kn_words.proofs.Ends.{down_append, in_append, out_append, up_append}
use Rattle.kn_words.proofs.laws.words_of_lists.Goals as goal

pub returns : goal.returns
returns c = record {
  up = λ item ps p. up_append item ps p;
  down = λ item ps p. down_append item ps p;
  inward = λ item ps p. in_append item ps p;
  outward = λ item ps p. out_append item ps p;
}
