use Rattle.std.proofs.Common.{arith, []}
use Rattle.std.proofs.lemmas.Result.{err_from_is_err_and}
use Rattle.kn_hpack.specs.Walks.{walk}
use Rattle.kn_hpack.specs.Codes.{bits_of}
use Rattle.kn_hpack.proofs.Walking.{byte_goes, byte_ends, padding_good, padding_bad}
use Rattle.kn_hpack.proofs.huffman.read_text.Goals as goal

pub returns-in_err-at : goal.returns-in_err-at
returns-in_err-at c =
    let p = err_from_is_err_and c.from_residual.result c.from_residual.ensures.1 in
    rw (p.1, p.2) (byte_ends c.in_err-at.field-0.0 c.loop-byte.byte-index c.loop-byte.at c.args.bytes.now c.loop-byte.text.items (omega arith) c.in_err-at.ensures.walks c.loop-byte.invariant.walked)

pub loop-byte-preserved : goal.loop-byte-preserved
loop-byte-preserved c = record {
  node = c.in_ok-at.ensures.bound;
  walked = byte_goes c.loop-byte.byte-index c.loop-byte.at c.in_ok-at.at c.args.bytes.now c.loop-byte.text.items c.go_byte.new.text.items
      (walk 0 [] (bits_of c.args.bytes.now)) (omega arith) c.in_ok-at.ensures.walks c.loop-byte.invariant.walked;
}

pub returns-then-is_padding : goal.returns-then-is_padding
returns-then-is_padding c = padding_good c.loop-byte.byte-index c.loop-byte.at c.args.bytes.now c.loop-byte.text.items (omega arith) c.if-is_padding.ensures c.loop-byte.invariant.walked

pub returns-else-is_padding : goal.returns-else-is_padding
returns-else-is_padding c = padding_bad c.loop-byte.byte-index c.loop-byte.at c.args.bytes.now c.loop-byte.text.items (omega arith) c.if-is_padding.ensures c.loop-byte.invariant.walked
