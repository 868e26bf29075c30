use Rattle.std.proofs.Common.{◌≡◌, ℕ, List, ◌+◌, [], ◌∷◌, ◌++◌, length, take, drop, arith, sym, ap, ◌∙◌}
use Rattle.std.proofs.lemmas.List.{take-append-drop, length-take-le}
use Rattle.kn_frames.specs.Frames.{length_of, frame_of}
use Rattle.kn_frames.specs.Readers.{in_frames, count_up, after_bytes, frames_in, fault_in}
use Rattle.kn_frames.specs.Cutters.{seen, is_sound}
use Rattle.kn_frames.proofs.States.{at_body}
use Rattle.kn_frames.proofs.Pieces.{leaves_rest, body_whole}
use Rattle.kn_frames.proofs.steps.end_frame.Goals as goal

pub returns-in-Ok-hand_out-clause-takes : goal.returns-in-Ok-hand_out-clause-takes
returns-in-Ok-hand_out-clause-takes c =
    let s = c.args.state.now in
    let p = c.args.piece.now in
    let n = c.args.wanted in
    let h = at_body s c.requires.phase c.requires.sound c.requires.head in
    let k : length (take n p) ≡ n = length-take-le n p c.requires.piece in
    let new = in_frames [] (count_up s.offset (9 + length (s.body ++ take n p))) in
    let b : c.append.new.self ≡ s.body ++ take n p = c.in-Ok.ensures.ok in
    let e : seen c.hand_out.new.state ≡ new = ap seen c.in-Ok-hand_out.ensures.state ∙ rw (b, c.requires.phase) in
    let before = c.args.frames.now.items in
    let added = frame_of s.front (s.body ++ take n p) ∷ [] in
    let f : c.hand_out.new.frames.items ≡ before ++ added = c.in-Ok-hand_out.ensures.frame ∙ ap (λ (x : List ℕ). before ++ frame_of s.front x ∷ []) b in
    let r = leaves_rest (seen s) new p (take n p) (drop n p) before added (sym (take-append-drop n p))
    (body_whole s (take n p) h (omega (arith, k, c.requires.wanted))) in (
      omega (arith, h.body, c.requires.wanted),
      c.requires.piece,
      ap (λ q. after_bytes q (drop n p)) e ∙ r.state,
      ap (λ g. g ++ frames_in (seen c.hand_out.new.state) (drop n p)) f ∙ ap (λ q. (before ++ added) ++ frames_in q (drop n p)) e ∙ r.frames,
      ap (λ q. fault_in q.phase) e,
    )

pub returns-in-Ok-hand_out-clause-sound : goal.returns-in-Ok-hand_out-clause-sound
unfolding length_of
returns-in-Ok-hand_out-clause-sound c = ap is_sound c.in-Ok-hand_out.ensures.state ∙ rw c.requires.phase
