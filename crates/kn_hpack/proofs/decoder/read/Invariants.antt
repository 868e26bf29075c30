use Rattle.std.proofs.Common.{◌≡◌, ◌-◌, length}
use Rattle.kn_hpack.specs.Blocks.{read_from, read_block, progress}
use Rattle.kn_hpack.proofs.decoder.read.Given as goal

abbrev pub invariant-loop : goal.invariant-loop
invariant-loop l = read_from (length l.block) (length l.block - l.counter) (progress l.table l.fields) l.rest ≡ read_block l.fn.table l.block
