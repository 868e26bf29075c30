use Rattle.std.proofs.Common.{◌≡◌, ◌++◌, drop}
use Rattle.std.specs.List.{flat_map}
use Rattle.kn_hpack.specs.Encoding.{field_text, block_of}
use Rattle.kn_hpack.proofs.encoder.write.Given as goal

abbrev pub invariant-loop-index : goal.invariant-loop-index
invariant-loop-index l = l.out.items ++ flat_map field_text (drop l.index l.headers) ≡ block_of l.wrote l.headers
