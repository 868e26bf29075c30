use Rattle.kn_hpack.proofs.HuffmanFacts as facts
use Rattle.kn_hpack.proofs.laws.huffman_laws.Goals as goal

pub returns : goal.returns
returns c = record {
  no_code_begins_another = facts.no_code_begins_another;
  text_is_huff = facts.text_is_huff;
  huff_is_read = facts.huff_is_read;
  eos_is_there = facts.eos_is_there;
  eos_is_told = facts.eos_is_told;
  padding_is_bad = facts.padding_is_bad;
  bad_padding_is_told = facts.bad_padding_is_told;
}
