-- How much waits for the socket after a move.
use Rattle.std.proofs.Common.{◌≡◌, ◌<◌, ◌≤◌, Bool, true, false, not, is_none, ltb, ◌&&◌, List, [], ◌∷◌, length, Option, Some, None, refl, ap, length-append, arith}
use Rattle.std.specs.List.{AllByRecursion}
use Rattle.std.proofs.lemmas.Bool.{and_parts, ltb-true}
use Rattle.kn_frames.specs.declared.frame.Frame.{Frame}
use Rattle.kn_frames.specs.Frames.{spelled, IsWithinLimits}
use Rattle.kn_hpack.specs.Fields.{Field}
use Rattle.kn_h2_state.specs.declared.moves.Move.{Move}
use Rattle.kn_h2_state.specs.declared.moves.Move.TheVariants.{GrantAll, Grant, Send, End, Stop}
use Rattle.kn_h2_state.specs.declared.stream.Stream.{Stream}
use Rattle.kn_h2_state.specs.declared.state.State.{State}
use Rattle.kn_h2_state.specs.Streams.{stream_at}
use Rattle.kn_h2_state.specs.Rules.{is_client}
use Rattle.kn_h2_state.specs.Moves.{may, is_due, target}
use Rattle.kn_h2_state.specs.Wire.{spellings, end_list, made_frames, move_frames}
use Rattle.kn_h2_state.proofs.FrameLemmas.{length_spelled}
use Rattle.kn_h2_state.proofs.WireLaws.{moves_are_written}
use Rattle.kn_h2_courses.specs.Filling.{has_trailers, MovesFillLittle}

-- no frame, or one
abbrev IsOneAtMost : List Frame → Type 0
IsOneAtMost fs = length fs ≤ 1

one_short : (fs : List Frame) → AllByRecursion IsWithinLimits fs → IsOneAtMost fs → length (spellings fs) ≤ 16393
unfolding spellings
one_short [] all h = omega arith
one_short (f ∷ []) all h =
    let a = length_spelled f.kind f.flags f.stream f.payload in
    let b = length-append (spelled f.kind f.flags f.stream f.payload) [] in
    let c = all.0.payload in
    omega (arith, a, b, c)
one_short (f ∷ g ∷ fs) all h = absurd (omega (arith, h))

one_made : (s : State) (m : Move) (o : Option Stream) → has_trailers s m ≡ false → IsOneAtMost (made_frames s m o)
one_made s GrantAll o h = omega arith
one_made s (Grant n) None h = omega arith
one_made s (Grant n) (Some st) h = omega arith
one_made s (Send n count) None h = omega arith
one_made s (Send n count) (Some st) h = omega arith
one_made s (End n) None h = omega arith
one_made s (End n) (Some st) h = by_end st.finish (is_client s.role) refl h
  where
    by_end : (o : Option (List Field)) (b : Bool) → is_client s.role ≡ b → not b ≡ false → IsOneAtMost (end_list s n o)
    by_end None b e t = omega arith
    by_end (Some fields) true e t = rw e (omega arith)
    by_end (Some fields) false e t = absurd cc
one_made s (Stop n) None h = omega arith
one_made s (Stop n) (Some st) h = omega arith

room : (s : State) (m : Move) → may s m ≡ true → length s.out.bytes < 16384
unfolding may
room s m ok =
    let rest = (and_parts (is_none s.failed) (ltb (length s.out.bytes) 16384 && is_due s m) ok).1 in
    ltb-true (length s.out.bytes) 16384 (and_parts (ltb (length s.out.bytes) 16384) (is_due s m) rest).0

pub moves_fill_little : MovesFillLittle
unfolding move_frames
moves_fill_little s m h ok none =
    let is = moves_are_written s m h ok in
    let frames = made_frames s m (stream_at s.streams (target m)) in
    let a = ap length is.written in
    let b = length-append s.out.bytes (spellings frames) in
    let c = one_short frames is.limits (one_made s m (stream_at s.streams (target m)) none) in
    let d = room s m ok in
    omega (arith, a, b, c, d)
