-- The two windows of a stream, through frames and what an end does of its own.
use Rattle.std.proofs.Common.{◌≡◌, ◌⊎◌, inl, inr, ◌<◌, ℤ, pos, ◌+ℤ◌, ◌-ℤ◌, ◌&&◌, ℕ, Bool, true, false, eqb, nat_lt, nat_le, List, [], ◌∷◌, ◌++◌, length, Option, Some, None, IfSome, Result, Ok, Err, refl, sym, ap, ◌∙◌, subst, arith, if◌then◌else◌}
use Rattle.std.specs.Prelude.{◌==◌}
use Rattle.std.proofs.lemmas.Int.{ints}
use Rattle.std.proofs.lemmas.Bool.{eqb-true, eqb-false, or_right, and_parts}
use Rattle.kn_frames.specs.declared.frame.Frame.{Frame}
use Rattle.kn_hpack.specs.Fields.{Field}
use Rattle.kn_hpack.specs.Blocks.{Progress, read_block}
use Rattle.kn_hpack.specs.declared.fault.HpackFault.{HpackFault}
use Rattle.kn_h2_state.specs.declared.event.H2Event.TheVariants.{Opened}
use Rattle.kn_h2_state.specs.declared.stream.Stream.{Stream}
use Rattle.kn_h2_state.specs.declared.state.State.{State}
use Rattle.kn_h2_state.specs.Limits.{stream_window, default_window, stream_limit}
use Rattle.kn_h2_state.specs.Streams.{stream_at, change, is_open, open_count}
use Rattle.kn_h2_state.specs.Payloads.{increment_of, reset_frame}
use Rattle.kn_h2_state.specs.Heads.{is_malformed_request}
use Rattle.kn_h2_state.specs.Rules.{is_client, block_with, ends_block, verdict}
use Rattle.kn_h2_state.specs.Effects.{event, reply, peer_ends, if_open, ended_if, new_stream, opens, accepted, request, response, head_of, decoded, block_ends, block_grown, block_of_headers, settings, ping, goaway, with_grant, window_update, effect}
use Rattle.kn_h2_state.specs.Feeding.{judged, after_frame}
use Rattle.kn_h2_state.specs.Laws.{seen}
use Rattle.kn_h2_state.specs.Opening.{FramesOpenAbove}
use Rattle.kn_h2_state.specs.Holding.{Holds}
use Rattle.kn_h2_state.specs.Wire.{frame_grant, data_length}
use Rattle.kn_h2.specs.Windows.{FramesShift}
use Rattle.kn_h2_state.proofs.OtherLaws.{either, by_kind, reply_streams, alike_all_settings, same_ping, same_goaway, frames_leave_others}
use Rattle.kn_h2_state.proofs.PieceLaws.{after_frame-judged}
use Rattle.kn_h2_state.proofs.PreorderLaws.{Silent, silent, old_data, old_reset, old_grant, shifted_open}
use Rattle.kn_h2_state.proofs.BorneLemmas.{Rises, Bears, rises, climbing, rises_change, rises_push, none_above, at_change, at_tidied, at_push, grant_number, borne_frame, borne_start}
use Rattle.kn_facing.specs.Sums.{MayCome, MayGo, FramesTake, FramesGrant}

-- ---- a stream that was not begun before a frame

-- there is none, or it has both windows whole
abbrev Young : ℕ → Option Stream → Type 0
Young i o = IfSome o (λ st. (st.receive ≡ pos stream_window) × (st.send ≡ pos i))

young_none : (i : ℕ) (o : Option Stream) → o ≡ None → Young i o
young_none i o e = subst (λ (p : Option Stream). Young i p) (sym e) tt

unseen : (o p : Option Stream) → seen o ≡ seen p → p ≡ None → o ≡ None
unseen None p e none = refl
unseen (Some st) p e none = let gone : seen (Some st) ≡ None = e ∙ ap seen none in absurd cc

none_change : (ss : List Stream) (m n : ℕ) (by : ℕ) → stream_at ss n ≡ None → stream_at (change ss m (with_grant by)) n ≡ None
none_change ss m n by e = at_change (λ (o : Option Stream). o ≡ None) ss m n (with_grant by) (grant_number by) (λ st h. absurd cc) e

-- a stream that is not there is not open
not_there : (P : State → Type 0) (o : Option Stream) (s : State) (next : Stream → State) → o ≡ None → P s → P (if_open o s next)
not_there P o s next e p = subst (λ (q : Option Stream). P (if_open q s next)) (sym e) p

young_ended : (ends : Bool) (n i : ℕ) (u : State) (high : ℕ) → Rises 0 high u.streams → Young i (stream_at u.streams n) → Young i (stream_at (ended_if ends n u).streams n)
unfolding peer_ends
young_ended false n i u high r y = y
young_ended true n i u high r y =
    at_tidied (Young i) 0 n (change u.streams n (λ st. record st { peer_open = false })) (λ st k h. tt)
    (climbing 0 high (change u.streams n (λ st. record st { peer_open = false })) (rises_change 0 high u.streams n (λ st. record st { peer_open = false }) (λ st. refl) r))
    (at_change (Young i) u.streams n n (λ st. record st { peer_open = false }) (λ st. refl) (λ st h. h) y)

young_request : (n : ℕ) (ends : Bool) (fields : List Field) (t : State) → Rises 0 t.opened t.streams → t.opened < n → Young t.initial (stream_at (request n ends fields t).streams n)
unfolding request accepted
young_request n ends fields t r above =
    either P (nat_le stream_limit (open_count t.streams)) (reply (reset_frame n 7) (opens n t))
    (if is_malformed_request fields then reply (reset_frame n 1) (opens n t) else accepted n ends fields t)
    (refused 7)
    (either P (is_malformed_request fields) (reply (reset_frame n 1) (opens n t)) (accepted n ends fields t) (refused 1)
    (young_ended ends n t.initial begun n (rises_push 0 t.opened t.streams (new_stream n t) r above)
    (at_push (Young t.initial) t.streams n (new_stream n t) (λ e. (refl, refl)) (young_none t.initial (stream_at t.streams n) none))))
  where
    P : State → Type 0
    P u = Young t.initial (stream_at u.streams n)

    begun : State
    begun = event (record t { opened = n; streams = t.streams ++ new_stream n t ∷ [] }) (Opened n fields)

    none : stream_at t.streams n ≡ None
    none = none_above 0 t.opened n t.streams r above

    refused : (code : ℕ) → P (reply (reset_frame n code) (opens n t))
    refused code = young_none t.initial (stream_at (reply (reset_frame n code) (opens n t)).streams n) (ap (λ (ss : List Stream). stream_at ss n) (reply_streams (reset_frame n code) (opens n t)) ∙ none)

young_head : (n : ℕ) (ends : Bool) (fields : List Field) (t : State) → Rises 0 t.opened t.streams → t.opened < n → Young t.initial (stream_at (head_of n ends fields t).streams n)
unfolding head_of
young_head n ends fields t r above =
    either P (is_client t.role) (if_open (stream_at t.streams n) t (λ st. response n ends fields st t))
    (if nat_lt t.opened n then request n ends fields t else if_open (stream_at t.streams n) t (λ st. peer_ends n t))
    (not_there P (stream_at t.streams n) t (λ st. response n ends fields st t) none young)
    (either P (nat_lt t.opened n) (request n ends fields t) (if_open (stream_at t.streams n) t (λ st. peer_ends n t)) (young_request n ends fields t r above)
    (not_there P (stream_at t.streams n) t (λ st. peer_ends n t) none young))
  where
    P : State → Type 0
    P u = Young t.initial (stream_at u.streams n)

    none : stream_at t.streams n ≡ None
    none = none_above 0 t.opened n t.streams r above

    young : Young t.initial (stream_at t.streams n)
    young = young_none t.initial (stream_at t.streams n) none

young_decoded : (n : ℕ) (ends : Bool) (t : State) (o : Result Progress HpackFault) → Rises 0 t.opened t.streams → t.opened < n → Young t.initial (stream_at (decoded n ends t o).streams n)
young_decoded n ends t (Ok p) r above = young_head n ends p.fields (record t { block = None; decoder = p.table }) r above
young_decoded n ends t (Err e) r above = young_none t.initial (stream_at t.streams n) (none_above 0 t.opened n t.streams r above)

young_block : (f : Frame) (t : State) → Rises 0 t.opened t.streams → t.opened < f.stream → Young t.initial (stream_at (block_of_headers f t).streams f.stream)
unfolding block_of_headers block_grown
young_block f t r above =
    either (λ u. Young t.initial (stream_at u.streams f.stream)) (ends_block f) (decoded f.stream (block_ends t.block f) t (read_block t.decoder (block_with t f))) (block_grown f t)
    (young_decoded f.stream (block_ends t.block f) t (read_block t.decoder (block_with t f)) r above)
    (young_none t.initial (stream_at t.streams f.stream) (none_above 0 t.opened f.stream t.streams r above))

young_update : (f : Frame) (t : State) (n : ℕ) → stream_at t.streams n ≡ None → stream_at (window_update f t).streams n ≡ None
unfolding window_update
young_update f t n none =
    either (λ u. stream_at u.streams n ≡ None) (f.stream == 0) (record t { send = t.send +ℤ pos (increment_of f.payload) })
    (record t { streams = change t.streams f.stream (with_grant (increment_of f.payload)) }) none (none_change t.streams f.stream n (increment_of f.payload) none)

young_effect : (t : State) (f : Frame) → ((f.kind == 0) ≡ true → ⊥) → ((f.kind == 3) ≡ true → ⊥) → Rises 0 t.opened t.streams → t.opened < f.stream → Young t.initial (stream_at (effect t f).streams f.stream)
young_effect t f no_data no_reset r above =
    by_kind (λ u. Young t.initial (stream_at u.streams f.stream)) t f
    (λ e. absurd (no_data e))
    (young_block f t r above)
    (λ e. absurd (no_reset e))
    (young (stream_at (settings f t).streams f.stream) (unseen (stream_at (settings f t).streams f.stream) (stream_at t.streams f.stream) (alike_all_settings f f.stream t) none))
    (young (stream_at (ping f t).streams f.stream) (same_ping f f.stream t ∙ none))
    (young (stream_at (goaway f t).streams f.stream) (same_goaway f f.stream t ∙ none))
    (young (stream_at (window_update f t).streams f.stream) (young_update f t f.stream none))
    (young (stream_at t.streams f.stream) none)
  where
    none : stream_at t.streams f.stream ≡ None
    none = none_above 0 t.opened f.stream t.streams r above

    young : (o : Option Stream) → o ≡ None → Young t.initial o
    young = young_none t.initial

-- after any frame that breaks no rule
young_frame : (t : State) (f : Frame) (n : ℕ) → Holds t → t.failed ≡ None → verdict t f ≡ None → t.opened < n → Young t.initial (stream_at (after_frame t f).streams n)
young_frame t f n holds on v above = by_test (eqb f.stream n) refl
  where
    r : Rises 0 t.opened t.streams
    r = rises 0 t.opened t.streams holds.rising

    to : after_frame t f ≡ effect (record t { began = true }) f
    to = after_frame-judged t f on ∙ ap (λ o. judged t f o) v

    by_test : (b : Bool) → eqb f.stream n ≡ b → Young t.initial (stream_at (after_frame t f).streams n)
    by_test true e =
        let same : f.stream ≡ n = eqb-true f.stream n e in
        subst (λ (k : ℕ). Young t.initial (stream_at (after_frame t f).streams k)) same
        (subst (λ (u : State). Young t.initial (stream_at u.streams f.stream)) (sym to)
        (young_begun (silent t f v) (subst (λ (k : ℕ). t.opened < k) (sym same) above)))
      where
        young_begun : Silent t f → t.opened < f.stream → Young t.initial (stream_at (effect (record t { began = true }) f).streams f.stream)
        young_begun q low = young_effect (record t { began = true }) f (λ e. old_data t f q.streams e low) (λ e. old_reset t f q.streams e low) r low
    by_test false e =
        young_none t.initial (stream_at (after_frame t f).streams n)
        (unseen (stream_at (after_frame t f).streams n) (stream_at t.streams n) (frames_leave_others t f n holds (eqb-false f.stream n e)) (none_above 0 t.opened n t.streams r above))

-- ---- a stream that is open after a frame was so before, or is young

abbrev WasOpen : State → ℕ → Type 0
WasOpen t n = (b : Stream) × (stream_at t.streams n ≡ Some b) × (is_open b ≡ true)

abbrev OpenBefore : State → ℕ → Option Stream → Type 0
OpenBefore t n o = IfSome o (λ st. is_open st ≡ true → WasOpen t n ⊎ (t.opened < n))

grant_open : (by : ℕ) (st : Stream) → is_open (with_grant by st) ≡ is_open st
grant_open by st = by_open (is_open st) refl
  where
    by_open : (b : Bool) → is_open st ≡ b → is_open (if b then record st { send = st.send +ℤ pos by } else st) ≡ is_open st
    by_open true e = refl
    by_open false e = refl

bears_open : (c : Bool) (t : State) (n : ℕ) → Bears c (Unit {0}) (OpenBefore t n) n t.opened
bears_open c t n = record {
  gone = λ st k q. tt;
  texts = λ k text st q. q;
  ends = λ st q up. q (or_right st.peer_open st.own_open up);
  heads = λ e st q. q;
  shuts = λ _ st q up. absurd cc;
  cuts = λ _ st q up. absurd cc;
  grants = λ by st q up. q (sym (grant_open by st) ∙ up);
  shifts = λ old new st q up. q (sym (shifted_open old new st) ∙ up);
  fresh = λ m u low e up. inr (subst (λ (k : ℕ). t.opened < k) e low);
}

before_itself : (t : State) (n : ℕ) (o : Option Stream) → stream_at t.streams n ≡ o → OpenBefore t n o
before_itself t n None e = tt
before_itself t n (Some st) e = λ up. inl (st, e, up)

open_before : (t : State) (f : Frame) (n : ℕ) (st : Stream) → Holds t → stream_at (after_frame t f).streams n ≡ Some st → is_open st ≡ true → WasOpen t n ⊎ (t.opened < n)
open_before t f n st holds found up =
    let b = borne_frame (bears_open (is_client t.role) t n) t f refl (borne_start t (rises 0 t.opened t.streams holds.rising) (before_itself t n (stream_at t.streams n) refl)) in
    subst (λ (o : Option Stream). OpenBefore t n o) found b.there up

-- ---- sums of one frame

-- no text comes on a stream that was not begun, and no grant
young_data : (t : State) (f : Frame) (n : ℕ) → verdict t f ≡ None → t.opened < n → data_length n f ≡ 0
unfolding data_length
young_data t f n v above = by_test ((f.kind == 0) && (f.stream == n)) refl
  where
    by_test : (b : Bool) → ((f.kind == 0) && (f.stream == n)) ≡ b → (if b then length f.payload else 0) ≡ 0
    by_test false e = refl
    by_test true e =
        let both = and_parts (f.kind == 0) (f.stream == n) e in
        absurd (old_data t f (silent t f v).streams both.0 (subst (λ (k : ℕ). t.opened < k) (sym (eqb-true f.stream n both.1)) above))

young_grant : (t : State) (f : Frame) (n : ℕ) → verdict t f ≡ None → t.opened < n → frame_grant n f ≡ 0
unfolding frame_grant
young_grant t f n v above = by_test ((f.kind == 8) && (f.stream == n)) refl
  where
    by_test : (b : Bool) → ((f.kind == 8) && (f.stream == n)) ≡ b → (if b then increment_of f.payload else 0) ≡ 0
    by_test false e = refl
    by_test true e =
        let both = and_parts (f.kind == 8) (f.stream == n) e in
        absurd (old_grant t f (silent t f v).streams both.0 (subst (λ (k : ℕ). t.opened < k) (sym (eqb-true f.stream n both.1)) above))

no_more : (y z : ℤ) (k : ℕ) → k ≡ 0 → y ≡ z → (y +ℤ pos k) ≡ z
no_more y z k e g = omega (arith, ints, e, g)

no_less : (y z : ℤ) (k : ℕ) → k ≡ 0 → y ≡ z → (y -ℤ pos k) ≡ z
no_less y z k e g = omega (arith, ints, e, g)

back_up : (y b r : ℤ) (k : ℕ) → y ≡ b → b ≡ (r -ℤ pos k) → (y +ℤ pos k) ≡ r
back_up y b r k e g = omega (arith, ints, e, g)

back_down : (x a r : ℤ) (k i : ℕ) → x ≡ a → a ≡ ((r +ℤ pos k) +ℤ (pos i -ℤ pos i)) → (x -ℤ pos k) ≡ r
back_down x a r k i e g = omega (arith, ints, e, g)

pub frames_take : FramesOpenAbove → FramesShift → FramesTake
frames_take above shift t f n y holds on v (inr (low, whole)) =
    let raise = (above t f holds).opened in
    let below : t.opened < n = omega (arith, raise, low) in
    inr (below, no_more y (pos stream_window) (data_length n f) (young_data t f n v below) whole)
frames_take above shift t f n y holds on v (inl (b, found, up, is)) = by_before (open_before t f n b holds found up)
  where
    by_before : WasOpen t n ⊎ (t.opened < n) → MayCome t n (y +ℤ pos (data_length n f))
    by_before (inl (a, there, was)) = inl (a, there, was, back_up y b.receive a.receive (data_length n f) is (shift t f n a b holds on v there was found).receive)
    by_before (inr below) =
        let young = subst (λ (o : Option Stream). Young t.initial o) found (young_frame t f n holds on v below) in
        inr (below, no_more y (pos stream_window) (data_length n f) (young_data t f n v below) (is ∙ young.0))

pub frames_grant : FramesOpenAbove → FramesShift → FramesGrant
frames_grant above shift s f n x holds on v first stays (inr (low, whole)) =
    let raise = (above s f holds).opened in
    let below : s.opened < n = omega (arith, raise, low) in
    inr (below, no_less x (pos default_window) (frame_grant n f) (young_grant s f n v below) whole)
frames_grant above shift s f n x holds on v first stays (inl (a, found, up, is)) = by_before (open_before s f n a holds found up)
  where
    by_before : WasOpen s n ⊎ (s.opened < n) → MayGo s n (x -ℤ pos (frame_grant n f))
    by_before (inl (b, there, was)) =
        let moved : a.send ≡ ((b.send +ℤ pos (frame_grant n f)) +ℤ (pos (after_frame s f).initial -ℤ pos s.initial)) = (shift s f n b a holds on v there was found).send in
        let kept : a.send ≡ ((b.send +ℤ pos (frame_grant n f)) +ℤ (pos default_window -ℤ pos default_window)) =
        subst (λ (i : ℕ). a.send ≡ ((b.send +ℤ pos (frame_grant n f)) +ℤ (pos default_window -ℤ pos i))) first
        (subst (λ (i : ℕ). a.send ≡ ((b.send +ℤ pos (frame_grant n f)) +ℤ (pos i -ℤ pos s.initial))) stays moved) in
        inl (b, there, was, back_down x a.send b.send (frame_grant n f) default_window is kept)
    by_before (inr below) =
        let young = subst (λ (o : Option Stream). Young s.initial o) found (young_frame s f n holds on v below) in
        inr (below, no_less x (pos default_window) (frame_grant n f) (young_grant s f n v below) (is ∙ (young.1 ∙ ap (λ (i : ℕ). pos i) first)))
