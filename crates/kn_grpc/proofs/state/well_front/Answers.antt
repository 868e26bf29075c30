use Rattle.std.proofs.Common.{◌≡◌, length, [], arith, sym, ap, ◌∙◌}
use Rattle.kn_grpc.specs.Messages.{length_of}
use Rattle.kn_grpc.specs.Readers.{Whole}
use Rattle.kn_grpc.proofs.Feeding.{less_head, whole_held, not_all_held, head_within}
use Rattle.kn_grpc.proofs.state.well_front.Goals as goal

pub returns-then-len-lt5 : goal.returns-then-len-lt5
returns-then-len-lt5 c =
    let s = c.args.state.now in
    sym (less_head s.head s.body c.requires.sound c.requires.well (omega arith))

pub returns-then-len-length_of : goal.returns-then-len-length_of
returns-then-len-length_of c =
    let s = c.args.state.now in
    let n : length_of s.head ≡ c.length_of.result = ap length_of (sym c.as_slice.ensures) ∙ sym c.length_of.ensures.value in
    let five : length s.head ≡ 5 = omega (arith, head_within s.head s.body c.requires.sound) in
    let all : length s.body ≡ length_of s.head = sym c.len-2.ensures ∙ c.if-len-length_of.true ∙ sym n in
    ap (λ m. Whole m []) c.as_slice-then-len-length_of.ensures ∙ sym (whole_held s.head s.body c.requires.sound five c.requires.well all)

pub returns-else-len-length_of : goal.returns-else-len-length_of
returns-else-len-length_of c =
    let s = c.args.state.now in
    let n : length_of s.head ≡ c.length_of.result = ap length_of (sym c.as_slice.ensures) ∙ sym c.length_of.ensures.value in
    let five : length s.head ≡ 5 = omega (arith, head_within s.head s.body c.requires.sound) in
    sym (not_all_held s.head s.body c.requires.sound five c.requires.well (λ e. c.if-len-length_of.false (c.len-2.ensures ∙ e ∙ n)))
