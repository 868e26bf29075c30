-- What holds of a connection goes on to hold through a header block, and through each frame.
use Rattle.std.proofs.Common.{◌≡◌, ◌≢◌, ℕ, ◌<◌, ◌≤◌, ◌%◌, Bool, true, false, not, ◌&&◌, ◌||◌, eqb, ltb, leb, List, length, Option, Some, None, is_some, is_none, Result, Ok, Err, IfSome, refl, arith}
use Rattle.std.proofs.lemmas.Int.{ints}
use Rattle.std.proofs.lemmas.Bool.{eqb-true, eqb-false, eq-eqb, ltb-true, ltb-false, or_parts, or_right, and_parts, not-false, cond_both}
use Rattle.kn_frames.specs.declared.frame.Frame.{Frame}
use Rattle.kn_frames.specs.Frames.{IsWithinLimits}
use Rattle.kn_windows.specs.Windows.{can_spend}
use Rattle.kn_hpack.specs.Fields.{Field}
use Rattle.kn_hpack.specs.Blocks.{Progress, read_block}
use Rattle.kn_hpack.specs.declared.fault.HpackFault.{HpackFault}
use Rattle.kn_h2_state.specs.declared.stream.Stream.{Stream}
use Rattle.kn_h2_state.specs.declared.state.Block.{Block}
use Rattle.kn_h2_state.specs.declared.state.State.{State}
use Rattle.kn_h2_state.specs.Limits.{block_limit, highest_stream, stream_limit}
use Rattle.kn_h2_state.specs.Streams.{stream_at, is_open, is_kept, open_count, shut, on_open}
use Rattle.kn_h2_state.specs.Payloads.{settings_of}
use Rattle.kn_h2_state.specs.Heads.{is_malformed_request, is_malformed_response, is_informational}
use Rattle.kn_h2_state.specs.Rules.{is_client, is_idle, continues, block_with, ends_block, breaks_windows, verdict}
use Rattle.kn_h2_state.specs.Effects.{peer_ends, if_open, new_stream, opens, accepted, request, headed, refused_response, response, head_of, decoded, block_ends, block_grown, block_of_headers, effect}
use Rattle.kn_h2_state.specs.Feeding.{without_blocks, judged, after_frame}
use Rattle.kn_h2_state.specs.Holding.{HasSum, HasRoom, IsHigh, is_at_rest, is_odd_or_none, Holds}
use Rattle.kn_h2.proofs.StreamLemmas.{all_push, rising_higher, rising_push, text_push}
use Rattle.kn_h2.proofs.HoldsLemmas.{holds_event, holds_fail, holds_reply, holds_gentle, shut_is_gentle, answered_is_gentle, holds_peer_ends, holds_ended_if, holds_data, holds_reset, holds_settings, holds_ping, holds_goaway, holds_window_update, holds_began}
use Rattle.kn_h2.specs.Passing.{Passes}
use Rattle.kn_h2.proofs.RuleLemmas.{passes_rules}

-- ---- a header block that has ended

odd_or_none : (n : ℕ) → n % 2 ≡ 1 → is_odd_or_none n ≡ true
odd_or_none n odd = or_right (eqb n 0) _ (eq-eqb _ _ odd)

holds_opens : (n : ℕ) (s : State) → n % 2 ≡ 1 → s.opened < n → n ≤ highest_stream → Holds s → Holds (opens n s)
holds_opens n s odd above small h = record {
  rising = let le : s.opened ≤ n = omega arith in rising_higher _ _ n s.streams le h.rising;
  numbers = small;
  parity = odd_or_none n odd;
  kept = h.kept;
  rest = h.rest;
  sums = h.sums;
  sum = h.sum;
  room = h.room;
  rooms = h.rooms;
  high = h.high;
  block = h.block;
  replies = h.replies;
  marked = h.marked;
  initial = h.initial;
}

holds_accepted : (n : ℕ) (ends : Bool) (fields : List Field) (s : State) → n % 2 ≡ 1 → s.opened < n → n ≤ highest_stream → Holds s → Holds (accepted n ends fields s)
unfolding accepted
holds_accepted n ends fields s odd above small h =
    let new = new_stream n s in
    holds_ended_if ends n _ (holds_event _ _ (record {
      rising = rising_push 0 s.opened s.streams new h.rising above odd;
      numbers = small;
      parity = odd_or_none n odd;
      kept = all_push (λ x. is_kept x ≡ true) s.streams new h.kept refl;
      rest = all_push (λ x. is_at_rest x ≡ true) s.streams new h.rest refl;
      sums = all_push HasSum s.streams new h.sums refl;
      sum = let e = text_push s.streams new refl in rw e h.sum;
      room = h.room;
      rooms = all_push HasRoom s.streams new h.rooms (omega (arith, ints));
      high = all_push (IsHigh s.initial) s.streams new h.high (λ q. omega (arith, ints));
      block = h.block;
      replies = h.replies;
      marked = h.marked;
      initial = h.initial;
    }))

holds_request : (n : ℕ) (ends : Bool) (fields : List Field) (s : State) → n % 2 ≡ 1 → s.opened < n → n ≤ highest_stream → Holds s → Holds (request n ends fields s)
unfolding request
holds_request n ends fields s odd above small h =
    cond_both (leb stream_limit (open_count s.streams)) _ _ Holds (λ e. holds_reply _ _ (holds_opens n s odd above small h))
    (λ e. cond_both (is_malformed_request fields) _ _ Holds (λ e. holds_reply _ _ (holds_opens n s odd above small h)) (λ e. holds_accepted n ends fields s odd above small h))

holds_response : (n : ℕ) (ends : Bool) (fields : List Field) (st : Stream) (s : State) → Holds s → Holds (response n ends fields st s)
unfolding response refused_response headed
holds_response n ends fields st s h =
    cond_both st.answered _ _ Holds (λ e. holds_peer_ends n s h)
    (λ e. cond_both (is_informational fields && not ends) _ _ Holds (λ e. h)
    (λ e. cond_both (is_malformed_response fields || is_informational fields) _ _ Holds
    (λ e. holds_reply _ _ (holds_event _ _ (holds_gentle n shut s shut_is_gentle h)))
    (λ e. holds_ended_if ends n _ (holds_event _ _ (holds_gentle n (λ st. record st { answered = true }) s answered_is_gentle h)))))

holds_if_open : (o : Option Stream) (s : State) (next : Stream → State) → Holds s → ((st : Stream) → Holds (next st)) → Holds (if_open o s next)
holds_if_open None s next h then = h
holds_if_open (Some st) s next h then = cond_both (is_open st) _ _ Holds (λ e. then st) (λ e. h)

pub holds_head_of : (n : ℕ) (ends : Bool) (fields : List Field) (s : State) → n % 2 ≡ 1 → n ≤ highest_stream → Holds s → Holds (head_of n ends fields s)
unfolding head_of
holds_head_of n ends fields s odd small h =
    cond_both (is_client s.role) _ _ Holds (λ e. holds_if_open (stream_at s.streams n) s (λ st. response n ends fields st s) h (λ st. holds_response n ends fields st s h))
    (λ e. cond_both (ltb s.opened n) _ _ Holds (λ e. holds_request n ends fields s odd (ltb-true _ _ e) small h)
    (λ e. holds_if_open (stream_at s.streams n) s (λ st. peer_ends n s) h (λ st. holds_peer_ends n s h)))

-- ---- a frame of a header block

holds_decoded : (n : ℕ) (ends : Bool) (s : State) (r : Result Progress HpackFault) → n % 2 ≡ 1 → n ≤ highest_stream → Holds s → Holds (decoded n ends s r)
holds_decoded n ends s (Ok p) odd small h = holds_head_of n ends p.fields _ odd small
    (record { rising = h.rising; numbers = h.numbers; parity = h.parity; kept = h.kept; rest = h.rest; sums = h.sums; sum = h.sum; room = h.room; rooms = h.rooms; high = h.high; block = tt; replies = h.replies; marked = h.marked; initial = h.initial })
holds_decoded n ends s (Err e) odd small h = h

pub holds_block_of_headers : (f : Frame) (s : State) → f.stream % 2 ≡ 1 → f.stream ≤ highest_stream → length (block_with s f) ≤ block_limit → Holds s → Holds (block_of_headers f s)
unfolding block_of_headers block_grown
holds_block_of_headers f s odd small short h =
    cond_both (ends_block f) _ _ Holds (λ e. holds_decoded f.stream (block_ends s.block f) s (read_block s.decoder (block_with s f)) odd small h)
    (λ e. record { rising = h.rising; numbers = h.numbers; parity = h.parity; kept = h.kept; rest = h.rest; sums = h.sums; sum = h.sum; room = h.room; rooms = h.rooms; high = h.high; block = (short, odd, small); replies = h.replies; marked = h.marked; initial = h.initial })

-- ---- a frame

-- the block under way is of an odd stream, and so is the frame that goes on with it
pub odd_block : (s : State) (f : Frame) → Holds s → Passes s f → (eqb f.kind 1 || eqb f.kind 9) ≡ true → f.stream % 2 ≡ 1
odd_block s f h p k = by_kind (eqb f.kind 1) (eqb f.kind 9) refl refl k
  where
    by_block : (o : Option Block) → IfSome o (λ b. (length b.bytes ≤ block_limit) × (b.stream % 2 ≡ 1) × (b.stream ≤ highest_stream)) → eqb f.kind 9 ≡ true
        → ((is_some o && not (continues o f)) || (is_none o && eqb f.kind 9)) ≡ false → f.stream % 2 ≡ 1
    by_block None i nine e = absurd (let b : (true && eqb f.kind 9) ≡ false = e in cc)
    by_block (Some b) i nine e =
        let on = not-false _ ((or_parts _ _ e).0) in
        let same : f.stream ≡ b.stream = eqb-true _ _ (and_parts _ _ on).1 in
        rw same i.1

    by_kind : (a b : Bool) → eqb f.kind 1 ≡ a → eqb f.kind 9 ≡ b → (a || b) ≡ true → f.stream % 2 ≡ 1
    by_kind true b one nine e =
        let t : (true && (eqb (f.stream % 2) 0 || (is_client s.role && is_idle s f.stream))) ≡ false = rw one at p.head in
        let even : f.stream % 2 ≢ 0 = eqb-false _ _ (or_parts _ _ t).0 in
        omega arith
    by_kind false true one nine e = by_block s.block h.block nine p.block
    by_kind false false one nine e = absurd cc

pub holds_effect : (s : State) (f : Frame) → Holds s → Passes s f → f.stream < 2147483648 → Holds (effect (record s { began = true }) f)
unfolding effect
holds_effect s f h p small =
    let t : State = record s { began = true } in
    let k : Holds t = holds_began s h in
    cond_both (eqb f.kind 0) _ _ Holds (λ e. let w = in_window e in holds_data f t (not-false _ w.0) w.1 k)
    (λ e. cond_both (eqb f.kind 1 || eqb f.kind 9) _ _ Holds (λ e. holds_block_of_headers f t (odd_block s f h p e) (omega arith) (short e) k)
    (λ e. cond_both (eqb f.kind 3) _ _ Holds (λ e. holds_reset f t k)
    (λ e. cond_both (eqb f.kind 4) _ _ Holds (λ e. holds_settings f t (fits e) k)
    (λ e. cond_both (eqb f.kind 6) _ _ Holds (λ e. holds_ping f t k)
    (λ e. cond_both (eqb f.kind 7) _ _ Holds (λ e. holds_goaway f t k)
    (λ e. cond_both (eqb f.kind 8) _ _ Holds (λ e. holds_window_update f t k)
    (λ e. k)))))))
  where
    in_window : eqb f.kind 0 ≡ true → (not (can_spend s.receive (length f.payload)) ≡ false) × (on_open s.streams f.stream (λ st. not (can_spend st.receive (length f.payload))) ≡ false)
    in_window e = or_parts _ _ (let w : (true && (not (can_spend s.receive (length f.payload)) || on_open s.streams f.stream (λ st. not (can_spend st.receive (length f.payload))))) ≡ false = rw e at p.window in w)

    short : (eqb f.kind 1 || eqb f.kind 9) ≡ true → length (block_with s f) ≤ block_limit
    short e = let t : (true && ltb block_limit (length (block_with s f))) ≡ false = rw e at p.bounded in ltb-false _ _ t

    fits : eqb f.kind 4 ≡ true → breaks_windows s.initial s.streams (settings_of f.payload) ≡ false
    fits e = rw e at p.settings

pub holds_after_frame : (s : State) (f : Frame) → Holds s → IsWithinLimits f → Holds (after_frame s f)
unfolding after_frame
holds_after_frame s f h limits = cond_both (is_some s.failed) _ _ Holds (λ e. h) (λ e. by_verdict (verdict s f) refl)
  where
    by_verdict : (o : Option ℕ) → verdict s f ≡ o → Holds (judged s f o)
    by_verdict None e = holds_effect s f h (passes_rules s f e) limits.stream
    by_verdict (Some code) e = holds_fail code (without_blocks s)
        (record { rising = h.rising; numbers = h.numbers; parity = h.parity; kept = h.kept; rest = h.rest; sums = h.sums; sum = h.sum; room = h.room; rooms = h.rooms; high = h.high; block = tt; replies = h.replies; marked = h.marked; initial = h.initial })
