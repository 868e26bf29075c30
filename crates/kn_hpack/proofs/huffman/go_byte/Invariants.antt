use Rattle.std.proofs.Common.{◌≡◌, ◌<◌}
use Rattle.kn_hpack.specs.Walks.{walk}
use Rattle.kn_hpack.specs.Codes.{bits}
use Rattle.kn_hpack.proofs.huffman.go_byte.Given as goal

abbrev pub invariant-loop-shift : goal.invariant-loop-shift
invariant-loop-shift l = record {
  node : l.at < 256;
  walked : walk l.at l.text.items (bits l.shift l.byte) ≡ walk l.fn.node l.fn.text.items (bits 8 l.byte);
}
