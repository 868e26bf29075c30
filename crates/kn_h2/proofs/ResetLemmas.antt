-- RST_STREAM by the two cases of its definition.
use Rattle.std.proofs.Common.{◌≡◌, ℕ, ◌+◌, ◌<◌, ◌^◌, Bool, true, false, not, ◌&&◌, cond, eqb, length, Option, Some, None, refl, ap, arith}
use Rattle.std.proofs.lemmas.Int.{ints}
use Rattle.std.proofs.lemmas.Bool.{and_parts}
use Rattle.kn_frames.specs.declared.frame.Frame.{Frame}
use Rattle.kn_h2_state.specs.declared.stream.Stream.{Stream}
use Rattle.kn_h2_state.specs.declared.state.State.{State}
use Rattle.kn_h2_state.specs.Payloads.{number_at}
use Rattle.kn_h2_state.specs.Streams.{stream_at, is_open, shut}
use Rattle.kn_h2_state.specs.Rules.{is_client}
use Rattle.kn_h2_state.specs.Effects.{if_open, reset_of, on_stream, cut_off}
use Rattle.kn_h2_state.specs.Holding.{Holds}
use Rattle.kn_h2.specs.Resets.{gone, unread_of, loses_nothing}
use Rattle.kn_h2.proofs.StreamLemmas.{text_at}

pub reset_whole : (f : Frame) (s : State) (code : ℕ) (o : Option Stream) → number_at f.payload 0 ≡ code → loses_nothing code s o ≡ true
    → on_stream f.stream shut s ≡ if_open o s (λ st. reset_of f st s)
unfolding reset_of
reset_whole f s code None is whole = absurd (let p = and_parts (is_client s.role && eqb code 0) false whole in cc)
reset_whole f s code (Some st) is whole =
    let p = and_parts (is_client s.role && eqb code 0) (is_open st && not st.peer_open) whole in
    let q = and_parts (is_open st) (not st.peer_open) p.1 in
    rw (q.0, is, p.0, q.1) refl

pub reset_cut : (f : Frame) (s : State) (code : ℕ) (o : Option Stream) (n : ℕ) → number_at f.payload 0 ≡ code → unread_of o ≡ Some n → loses_nothing code s o ≡ false
    → gone f.stream code n s ≡ if_open o s (λ st. reset_of f st s)
unfolding reset_of cut_off
reset_cut f s code None n is here other = absurd cc
reset_cut f s code (Some st) n is here other = by_open (is_open st) here other
  where
    by_open : (b : Bool) → cond b (Some (length st.text)) None ≡ Some n → (is_client s.role && eqb code 0 && (b && not st.peer_open)) ≡ false
        → gone f.stream code n s ≡ cond b (reset_of f st s) s
    by_open true e t = let long : n ≡ length st.text = cc in rw (is, t) (ap (λ k. gone f.stream code k s) long)
    by_open false e t = absurd cc

pub reset_none : (f : Frame) (s : State) (o : Option Stream) → unread_of o ≡ None → if_open o s (λ st. reset_of f st s) ≡ s
reset_none f s None e = refl
reset_none f s (Some st) e = by_open (is_open st) e
  where
    by_open : (b : Bool) → cond b (Some (length st.text)) None ≡ None → cond b (reset_of f st s) s ≡ s
    by_open true t = absurd cc
    by_open false t = refl

-- what is owed and unread is no more than the window
pub unread_fits : (s : State) (n k : ℕ) → Holds s → unread_of (stream_at s.streams n) ≡ Some k → s.owed + k < 2 ^ 32
unread_fits s n k h e = by_stream (stream_at s.streams n) refl e
  where
    by_open : (st : Stream) (b : Bool) → stream_at s.streams n ≡ Some st → cond b (Some (length st.text)) None ≡ Some k → s.owed + k < 2 ^ 32
    by_open st true here t =
        let long : length st.text ≡ k = cc in
        let part = text_at s.streams n st here in
        let sum = h.sum in
        let room = h.room in
        omega (arith, ints)
    by_open st false here t = absurd cc

    by_stream : (o : Option Stream) → stream_at s.streams n ≡ o → unread_of o ≡ Some k → s.owed + k < 2 ^ 32
    by_stream None here t = absurd cc
    by_stream (Some st) here t = by_open st (is_open st) here t
