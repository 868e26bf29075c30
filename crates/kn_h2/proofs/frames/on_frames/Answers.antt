use Rattle.std.proofs.Common.{◌<◌, ◌+◌, length, drop, sym, ap, ◌∙◌, subst}
use Rattle.std.proofs.lemmas.List.Elements.{All-from_recursion}
use Rattle.kn_frames.specs.Frames.{IsWithinLimits}
use Rattle.kn_h2_state.specs.Feeding.{after_frames}
use Rattle.kn_h2.proofs.EffectLemmas.{frames_next, frames_done}
use Rattle.kn_h2.proofs.FrameBounds.{holds_after_frame}
use Rattle.kn_h2.proofs.frames.on_frames.Goals as goal

pub loop-frame-preserved : goal.loop-frame-preserved
loop-frame-preserved c =
    let i = c.loop-frame.frame-index in
    let fs = c.args.frames.now in
    let x = c.frame-item.result in
    let s = c.loop-frame.state in
    let lt : i < length fs = c.loop-frame-test.true in
    let here : IsWithinLimits x = subst IsWithinLimits (sym c.frame-item.is) (All-from_recursion IsWithinLimits fs c.requires.limits i x lt) in
    record {
      holds = rw c.in_ok-on_frame.ensures (holds_after_frame s x c.loop-frame.invariant.holds here);
      same = ap (λ t. after_frames t (drop (i + 1) fs)) c.in_ok-on_frame.ensures ∙ frames_next s fs i x lt c.frame-item.is ∙ c.loop-frame.invariant.same;
    }

pub returns-clause-after : goal.returns-clause-after
returns-clause-after c = frames_done c.loop-frame.state c.args.frames.now c.loop-frame.frame-index c.loop-frame-test.false ∙ c.loop-frame.invariant.same
