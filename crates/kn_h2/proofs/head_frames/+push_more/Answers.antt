use Rattle.std.proofs.Common.{◌≡◌, ◌++◌, List, ℕ, sym, ap, ◌∙◌, arith, length-take}
use Rattle.std.specs.Result.{OnOk}
use Rattle.std.proofs.lemmas.Result.{on_ok_weaker}
use Rattle.kn_h2.proofs.HeadLemmas.{more_last, more_pushed, part_fits}
use Rattle.kn_h2.proofs.head_frames.+push_more.Goals as goal

pub returns-then-rest-le-FRAME_LIMIT : goal.returns-then-rest-le-FRAME_LIMIT
returns-then-rest-le-FRAME_LIMIT t c = λ fuel l. on_ok_weaker c.push_frame.result
    (λ e. e ∙ ap (λ (xs : List ℕ). c.args.out.now ++ xs) (sym (more_last fuel c.args.stream c.args.rest.now c.if-rest-le-FRAME_LIMIT.true l))) c.push_frame.ensures

pub slice_bounds-push_frame-end : goal.slice_bounds-push_frame-end
slice_bounds-push_frame-end t c = omega (arith, length-take 16384 c.args.rest.now, c.if-rest-le-FRAME_LIMIT.false)

pub push_frame-requires-2-clause-length_fits : goal.push_frame-requires-2-clause-length_fits
push_frame-requires-2-clause-length_fits t c = part_fits c.args.rest.now

pub returns : goal.returns
returns t c = λ fuel l. more_pushed fuel c.args.stream c.args.rest.now c.args.out.now _ (λ (xs : List ℕ). OnOk c.push_more.result (c.push_more.new.out ≡ xs)) c.if-rest-le-FRAME_LIMIT.false l c.in_ok-push_frame.ensures c.push_more.ensures
