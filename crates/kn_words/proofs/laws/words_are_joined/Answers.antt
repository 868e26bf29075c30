-- By going along the first list.
use Rattle.kn_words.proofs.Joins.{down_joined, in_joined, out_joined, up_joined}
use Rattle.kn_words.proofs.laws.words_are_joined.Goals as goal

pub returns : goal.returns
returns c = record {
  up = λ item ps qs. up_joined item ps qs;
  down = λ item ps qs. down_joined item ps qs;
  inward = λ item ps qs. in_joined item ps qs;
  outward = λ item ps qs. out_joined item ps qs;
}
