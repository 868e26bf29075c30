-- By going along the parts.
use Rattle.kn_words.proofs.Parts.{down_parts, out_parts, two_parts}
use Rattle.kn_words.proofs.laws.parts_are_joined.Goals as goal

pub returns : goal.returns
returns c = record {
  two = two_parts;
  to_stream = λ item give given ps parts. out_parts item give given ps parts;
  to_agent = λ item give given ps parts. down_parts item give given ps parts;
}
