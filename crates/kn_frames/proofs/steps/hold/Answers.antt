use Rattle.std.proofs.Common.{◌≡◌, [], ◌++◌, length, drop, arith, sym, ap, ◌∙◌}
use Rattle.std.proofs.lemmas.List.{append-nil, drop_all}
use Rattle.kn_frames.specs.Readers.{in_frames, after_bytes, frames_in, fault_in}
use Rattle.kn_frames.specs.Cutters.{seen}
use Rattle.kn_frames.proofs.States.{at_body}
use Rattle.kn_frames.proofs.Pieces.{leaves_rest, body_short}
use Rattle.kn_frames.proofs.steps.hold.Goals as goal

pub returns-in-Ok-clause-takes : goal.returns-in-Ok-clause-takes
returns-in-Ok-clause-takes c frames =
    let s = c.args.state.now in
    let p = c.args.piece.now in
    let h = at_body s c.requires.phase c.requires.sound c.requires.head in
    let new = in_frames (s.front ++ (s.body ++ p)) s.offset in
    let e : seen (record s { body = c.append.new.self }) ≡ new = rw (c.in-Ok.ensures.ok, c.requires.phase) in
    let d : drop (length p) p ≡ [] = drop_all (length p) p (omega arith) in
    let r = leaves_rest (seen s) new p p [] frames [] (sym (append-nil p)) (body_short s p h c.requires.part) in (
      c.requires.piece,
      omega arith,
      ap (λ q. after_bytes q (drop (length p) p)) e ∙ ap (after_bytes new) d ∙ r.state,
      ap (λ q. frames ++ frames_in q (drop (length p) p)) e ∙ ap (λ q. frames ++ frames_in new q) d ∙ ap (λ g. g ++ []) (sym (append-nil frames)) ∙ r.frames,
      ap fault_in c.requires.phase,
    )
