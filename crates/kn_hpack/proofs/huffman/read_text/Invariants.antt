use Rattle.std.proofs.Common.{◌≡◌, ◌<◌, drop, []}
use Rattle.kn_hpack.specs.Walks.{walk}
use Rattle.kn_hpack.specs.Codes.{bits_of}
use Rattle.kn_hpack.proofs.huffman.read_text.Given as goal

abbrev pub invariant-loop-byte : goal.invariant-loop-byte
invariant-loop-byte l = record {
  node : l.at < 256;
  walked : walk l.at l.text.items (bits_of (drop l.byte-index l.bytes)) ≡ walk 0 [] (bits_of l.bytes);
}
