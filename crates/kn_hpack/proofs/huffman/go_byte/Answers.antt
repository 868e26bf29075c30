use Rattle.std.proofs.Common.{arith}
use Rattle.std.proofs.lemmas.Result.{err_from_is_err_and}
use Rattle.kn_hpack.specs.Walks.{walk}
use Rattle.kn_hpack.specs.Codes.{bits}
use Rattle.kn_hpack.proofs.Walking.{bit_goes, bit_ends, bits_done}
use Rattle.kn_hpack.proofs.huffman.go_byte.Goals as goal

pub returns-in_err-at-clause-walks : goal.returns-in_err-at-clause-walks
returns-in_err-at-clause-walks c =
    let p = err_from_is_err_and c.from_residual.result c.from_residual.ensures.1 in
    rw (p.1, p.2) (bit_ends c.in_err-at.field-0.0 c.loop-shift.shift c.args.byte c.loop-shift.at c.loop-shift.text.items
    (walk c.args.node c.args.text.now.items (bits 8 c.args.byte)) (omega arith) c.in_err-at.ensures.walks c.loop-shift.invariant.walked)

pub loop-shift-preserved : goal.loop-shift-preserved
loop-shift-preserved c = record {
  node = c.in_ok-at.ensures.bound;
  walked = bit_goes c.loop-shift.shift c.args.byte c.loop-shift.at c.in_ok-at.at c.loop-shift.text.items c.go_bit.new.text.items
      (walk c.args.node c.args.text.now.items (bits 8 c.args.byte)) (omega arith) c.in_ok-at.ensures.walks c.loop-shift.invariant.walked;
}

pub returns-clause-walks : goal.returns-clause-walks
returns-clause-walks c =
    bits_done c.loop-shift.shift c.args.byte c.loop-shift.at c.loop-shift.text.items (walk c.args.node c.args.text.now.items (bits 8 c.args.byte)) (omega arith) c.loop-shift.invariant.walked
