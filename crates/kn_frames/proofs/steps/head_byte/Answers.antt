use Rattle.std.proofs.Common.{◌≡◌, ◌+◌, [], ◌∷◌, ◌++◌, length, drop, arith, sym, ap, ◌∙◌, length-append}
use Rattle.std.proofs.lemmas.List.{append-nil, drop_all}
use Rattle.std.proofs.lemmas.Bool.{ltb-true, ltb-false}
use Rattle.kn_frames.specs.Frames.{length_of, frame_of}
use Rattle.kn_frames.specs.Readers.{frame_at, count_up, is_too_long}
use Rattle.kn_frames.specs.Cutters.{seen, is_sound}
use Rattle.kn_frames.proofs.Bytes.{IsShort, IsWholeText, step_long, step_short, step_whole}
use Rattle.kn_frames.proofs.States.{at_head, told_weaker}
use Rattle.kn_frames.proofs.steps.head_byte.Goals as goal
use Rattle.kn_frames.proofs.steps.head_byte.Goals.{else-length_of-eq0-via-then-length_of-eq0+else-len-eq9, else-length_of-eq0-via-else-length_of-eq0}

pub returns-then-is_too_long-clause-state : goal.returns-then-is_too_long-clause-state
returns-then-is_too_long-clause-state c =
    let s = c.args.state.now in
    let h = at_head s c.requires.phase c.requires.sound c.requires.head in
    let long = ltb-true 16384 (length_of (s.front ++ c.args.byte ∷ [])) (ap is_too_long (sym c.push.ensures ∙ sym c.as_slice.ensures) ∙ sym c.if-is_too_long.ensures) in
    let one = step_long s.front c.args.byte s.offset long in
    let after = one.0 in
    let fault = c.fail_too_long.ensures.fault in
    let new = ap seen c.fail_too_long.ensures.state in
    let body = h.body in
    let old = h.seen in
    cc

pub returns-then-is_too_long-clause-frames : goal.returns-then-is_too_long-clause-frames
returns-then-is_too_long-clause-frames c =
    let s = c.args.state.now in
    let h = at_head s c.requires.phase c.requires.sound c.requires.head in
    let long = ltb-true 16384 (length_of (s.front ++ c.args.byte ∷ [])) (ap is_too_long (sym c.push.ensures ∙ sym c.as_slice.ensures) ∙ sym c.if-is_too_long.ensures) in
    let one = step_long s.front c.args.byte s.offset long in
    let none = one.1 in
    let old = h.seen in
    let frames = append-nil c.args.frames.now.items in
    cc

-- the head is whole, and says that no payload follows
becomes_whole : (c : goal.After-hand_out) → IsWholeText (c.args.state.now.front ++ c.args.byte ∷ [])
becomes_whole c =
    let t = c.args.state.now.front ++ c.args.byte ∷ [] in
    let n : length_of t ≡ 0 = ap length_of (sym c.push.ensures ∙ sym c.as_slice-2.ensures) ∙ sym c.length_of.ensures.value ∙ c.if-length_of-eq0.true in
    let l : length t ≡ 9 = ap length (sym c.push.ensures) ∙ sym c.len.ensures.value ∙ c.if-len-eq9.true in
    record { small = omega arith; len = omega arith }

pub returns-then-len-eq9-clause-state : goal.returns-then-len-eq9-clause-state
returns-then-len-eq9-clause-state c =
    let s = c.args.state.now in
    let t = s.front ++ c.args.byte ∷ [] in
    let h = at_head s c.requires.phase c.requires.sound c.requires.head in
    let l : length t ≡ 9 = ap length (sym c.push.ensures) ∙ sym c.len.ensures.value ∙ c.if-len-eq9.true in
    let one = step_whole s.front c.args.byte s.offset (becomes_whole c) in
    let offset : count_up s.offset (9 + length s.body) ≡ count_up s.offset (length t) = ap (count_up s.offset) (ap (λ b. 9 + length b) h.body ∙ sym l) in
    let old = h.seen in
    let after = one.0 in
    told_weaker c.hand_out.result (λ e. let new = ap seen e in let phase = c.requires.phase in cc) c.hand_out.ensures.state

pub returns-then-len-eq9-clause-frames : goal.returns-then-len-eq9-clause-frames
returns-then-len-eq9-clause-frames c =
    let s = c.args.state.now in
    let t = s.front ++ c.args.byte ∷ [] in
    let h = at_head s c.requires.phase c.requires.sound c.requires.head in
    let l : length t ≡ 9 = ap length (sym c.push.ensures) ∙ sym c.len.ensures.value ∙ c.if-len-eq9.true in
    let one = step_whole s.front c.args.byte s.offset (becomes_whole c) in
    let nothing : drop 9 t ≡ [] = drop_all 9 t (omega arith) in
    let frame : frame_of c.push.new.self s.body ≡ frame_of t (drop 9 t) = rw (c.push.ensures, h.body, nothing) in
    let old = h.seen in
    let made = one.1 in
    told_weaker {Q = c.hand_out.new.frames.items ≡ c.args.frames.now.items ++ frame_at (seen c.args.state.now) c.args.byte} c.hand_out.result (λ e. cc) c.hand_out.ensures.frame

pub returns-then-len-eq9-clause-sound : goal.returns-then-len-eq9-clause-sound
unfolding length_of
returns-then-len-eq9-clause-sound c = told_weaker c.hand_out.result (λ e. ap is_sound e ∙ rw c.requires.phase) c.hand_out.ensures.state

-- the bytes are not yet a frame
becomes_short : (c : goal.Joined-else-length_of-eq0) → IsShort (c.args.state.now.front ++ c.args.byte ∷ [])
becomes_short c =
    let s = c.args.state.now in
    let t = s.front ++ c.args.byte ∷ [] in
    let small = ltb-false 16384 (length_of t) (ap is_too_long (sym c.push.ensures ∙ sym c.as_slice.ensures) ∙ sym c.if-is_too_long.ensures) in
    let n : length_of t ≡ c.length_of.result = ap length_of (sym c.push.ensures ∙ sym c.as_slice-2.ensures) ∙ sym c.length_of.ensures.value in
    let k : length t ≡ length s.front + 1 = length-append s.front (c.args.byte ∷ []) in
    let l : length c.push.new.self ≡ length t = ap length c.push.ensures in
    elim c.else-length_of-eq0.branch [
      | else-length_of-eq0-via-then-length_of-eq0+else-len-eq9 w ↦ record { small = small; short = omega arith }
      | else-length_of-eq0-via-else-length_of-eq0 w ↦ record { small = small; short = omega arith }
    ]

pub returns-clause-state : goal.returns-clause-state
returns-clause-state c =
    let s = c.args.state.now in
    let h = at_head s c.requires.phase c.requires.sound c.requires.head in
    let one = step_short s.front c.args.byte s.offset (becomes_short c) in
    let after = one.0 in
    let old = h.seen in
    let body = h.body in
    let rest = append-nil c.push.new.self in
    let phase = c.requires.phase in
    cc

pub returns-clause-frames : goal.returns-clause-frames
returns-clause-frames c =
    let s = c.args.state.now in
    let h = at_head s c.requires.phase c.requires.sound c.requires.head in
    let one = step_short s.front c.args.byte s.offset (becomes_short c) in
    let none = one.1 in
    let old = h.seen in
    let frames = append-nil c.args.frames.now.items in
    cc
