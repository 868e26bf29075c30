use Rattle.std.proofs.Common.{◌≡◌, ◌++◌, List, ℕ, sym, ap, ◌∙◌, arith, length-take}
use Rattle.std.specs.Result.{OnOk}
use Rattle.std.proofs.lemmas.Result.{on_ok_weaker}
use Rattle.kn_h2.proofs.HeadLemmas.{head_last, head_pushed, part_fits}
use Rattle.kn_h2.proofs.head_frames.push_headers.Goals as goal

pub returns-then-block-le-FRAME_LIMIT : goal.returns-then-block-le-FRAME_LIMIT
returns-then-block-le-FRAME_LIMIT c = on_ok_weaker c.push_frame.result
    (λ e. e ∙ ap (λ (xs : List ℕ). c.args.out.now ++ xs) (sym (head_last c.args.stream c.args.flags c.args.block.now c.if-block-le-FRAME_LIMIT.true))) c.push_frame.ensures

pub slice_bounds-push_frame-end : goal.slice_bounds-push_frame-end
slice_bounds-push_frame-end c = omega (arith, length-take 16384 c.args.block.now, c.if-block-le-FRAME_LIMIT.false)

pub push_frame-requires-2-clause-length_fits : goal.push_frame-requires-2-clause-length_fits
push_frame-requires-2-clause-length_fits c = part_fits c.args.block.now

pub returns : goal.returns
returns c = head_pushed c.args.stream c.args.flags c.args.block.now c.args.out.now _ (λ (xs : List ℕ). OnOk c.push_more.result (c.push_more.new.out ≡ xs)) c.if-block-le-FRAME_LIMIT.false c.in_ok-push_frame.ensures c.push_more.ensures
