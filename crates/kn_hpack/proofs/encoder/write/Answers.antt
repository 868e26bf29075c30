use Rattle.std.proofs.Common.{arith}
use Rattle.kn_hpack.specs.Encoding.{block_of}
use Rattle.kn_hpack.proofs.EncodingFacts.{write_on, write_done}
use Rattle.kn_hpack.proofs.encoder.write.Goals as goal

pub loop-index-preserved : goal.loop-index-preserved
loop-index-preserved c =
    write_on c.loop-index.out.items c.push_field.new.out.items c.args.headers.now c.loop-index.index c.name.result.now c.value.result.now (block_of c.args.wrote c.args.headers.now)
    (omega arith) c.name.ensures c.value.ensures c.in_ok-push_field.ensures c.loop-index.invariant

pub returns : goal.returns
returns c = write_done c.loop-index.out.items c.args.headers.now c.loop-index.index (block_of c.args.wrote c.args.headers.now) (omega arith) c.loop-index.invariant
