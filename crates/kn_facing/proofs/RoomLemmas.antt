-- Reply frames to a list of frames, and the streams that are open.
use Rattle.std.proofs.Common.{◌≡◌, ◌<◌, ◌≤◌, ◌+◌, ◌*◌, ◌%◌, ◌+ℤ◌, pos, ◌&&◌, ◌||◌, ℕ, Bool, true, false, not, nat_lt, nat_le, length, List, [], ◌∷◌, ◌++◌, Option, Some, None, Result, Ok, Err, refl, sym, ap, ◌∙◌, subst, arith, length-append, if◌then◌else◌}
use Rattle.std.specs.Prelude.{◌==◌}
use Rattle.std.specs.Int.{to_be_bytes, w32}
use Rattle.std.specs.List.{AllByRecursion}
use Rattle.std.proofs.lemmas.Bool.{ltb-true, eqb-true}
use Rattle.kn_frames.specs.declared.frame.Frame.{Frame}
use Rattle.kn_frames.specs.Frames.{spelled, head, IsWithinLimits}
use Rattle.kn_hpack.specs.Fields.{Field}
use Rattle.kn_hpack.specs.Blocks.{Progress, read_block}
use Rattle.kn_hpack.specs.declared.fault.HpackFault.{HpackFault}
use Rattle.kn_h2_state.specs.declared.event.H2Event.TheVariants.{Opened, Head, Text, Reset}
use Rattle.kn_h2_state.specs.declared.stream.Stream.{Stream}
use Rattle.kn_h2_state.specs.declared.state.State.{State}
use Rattle.kn_h2_state.specs.Limits.{reply_limit, stream_limit}
use Rattle.kn_h2_state.specs.Outgoing.{Out, put, reply_bytes}
use Rattle.kn_h2_state.specs.Streams.{stream_at, change, is_open, open_count, shut}
use Rattle.kn_h2_state.specs.Payloads.{has, content, number_at, increment_of, settings_of, reset_frame}
use Rattle.kn_h2_state.specs.Heads.{is_malformed_request, is_malformed_response, is_informational}
use Rattle.kn_h2_state.specs.Rules.{is_client, block_with, ends_block, shifted, has_wrong_length, verdict}
use Rattle.kn_h2_state.specs.Effects.{event, reply, fail, on_stream, peer_ends, if_open, data_taken, text_told, ended_if, data_in, data_dropped, data_of, new_stream, opens, accepted, request, headed, refused_response, response, head_of, decoded, block_ends, block_grown, block_of_headers, cut_off, reset_of, after_setting, after_settings, settings, ping, goaway, with_grant, window_update, effect}
use Rattle.kn_h2_state.specs.Feeding.{judged, after_frame, after_frames}
use Rattle.kn_h2_state.specs.Holding.{Holds, Rising}
use Rattle.kn_h2_state.specs.Preorder.{Accepts, HasRoomFor}
use Rattle.kn_h2_state.specs.Opening.{FramesOpenAbove}
use Rattle.kn_h2_state.proofs.OtherLaws.{either, open_or}
use Rattle.kn_h2_state.proofs.PieceLaws.{after_frame-judged}
use Rattle.kn_h2.proofs.HoldsLemmas.{replies_more}
use Rattle.kn_h2.proofs.RuleLemmas.{passes_rules}
use Rattle.kn_facing.specs.Facing.{asks, asking}
use Rattle.kn_facing.specs.Laws.{FewAreRead}

-- ---- replies to one frame

-- it goes on, with so many bytes of reply frames more at most
pub record Replied (k : ℕ) (s t : State) : Type 0 where
  pub goes : t.failed ≡ None
  pub few : reply_bytes t.out ≤ reply_bytes s.out + k

-- neither what waits nor a failure is touched
record Quiet (s t : State) : Type 0 where
  out : t.out ≡ s.out
  failed : t.failed ≡ s.failed

same : (s : State) → Quiet s s
same s = record { out = refl; failed = refl }

quiet : (k : ℕ) (s t : State) → s.failed ≡ None → Quiet s t → Replied k s t
quiet k s t on q = let e = ap (λ (o : Out). reply_bytes o) q.out in record { goes = q.failed ∙ on; few = omega (arith, e) }

-- a reply frame of 17 bytes at most, which there is room for
one_reply : (s t : State) (bytes : List ℕ) → s.failed ≡ None → reply_bytes s.out + 17 ≤ reply_limit → length bytes ≤ 17 → Quiet s t → Replied 17 s (reply bytes t)
unfolding reply
one_reply s t bytes on room short q = by_test (nat_lt reply_limit (reply_bytes t.out + length bytes)) refl
  where
    same_bytes : reply_bytes t.out ≡ reply_bytes s.out
    same_bytes = ap (λ (o : Out). reply_bytes o) q.out

    by_test : (b : Bool) → nat_lt reply_limit (reply_bytes t.out + length bytes) ≡ b → Replied 17 s (if b then fail 11 t else record t { out = put t.out true bytes })
    by_test true e = let over = ltb-true reply_limit (reply_bytes t.out + length bytes) e in let k = same_bytes in absurd (omega (arith, over, k, room, short))
    by_test false e = let more = replies_more t.out bytes in let k = same_bytes in record { goes = q.failed ∙ on; few = omega (arith, more, k, short) }

head_length : (kind flags stream len : ℕ) → length (head kind flags stream len) ≡ 9
unfolding head
head_length kind flags stream len = refl

spelled_length : (kind flags stream : ℕ) (payload : List ℕ) → length (spelled kind flags stream payload) ≡ 9 + length payload
spelled_length kind flags stream payload =
    let e = length-append (head kind flags stream (length payload)) payload in let h = head_length kind flags stream (length payload) in omega (arith, e, h)

reset_length : (n code : ℕ) → length (reset_frame n code) ≤ 17
reset_length n code = let e = spelled_length 3 0 n (to_be_bytes w32 code) in let four : length (to_be_bytes w32 code) ≡ 4 = refl in omega (arith, e, four)

-- ---- the parts of which effects are made

ends_quiet : (m : ℕ) (s t : State) → Quiet s t → Quiet s (peer_ends m t)
unfolding peer_ends
ends_quiet m s t q = record { out = q.out; failed = q.failed }

ended_quiet : (ends : Bool) (m : ℕ) (s t : State) → Quiet s t → Quiet s (ended_if ends m t)
ended_quiet ends m s t q = either (Quiet s) ends (peer_ends m t) t (ends_quiet m s t q) q

data_quiet : (f : Frame) (s : State) (o : Option Stream) → Quiet s (data_of f s o)
unfolding data_in data_taken data_dropped
data_quiet f s None = record { out = refl; failed = refl }
data_quiet f s (Some st) =
    either (Quiet s) (is_open st) (data_in f s) (data_dropped f s)
    (ended_quiet (has f 1) f.stream s (text_told f.stream (content f) (data_taken f s))
    (either (Quiet s) (length (content f) == 0) (data_taken f s) (event (data_taken f s) (Text f.stream)) (record { out = refl; failed = refl }) (record { out = refl; failed = refl })))
    (record { out = refl; failed = refl })

setting_quiet : (s t : State) (x : ℕ × ℕ) → Quiet s t → Quiet s (after_setting t x)
unfolding after_setting
setting_quiet s t x q =
    either (Quiet s) (x.0 == 4) (record t { initial = x.1; streams = shifted t.initial x.1 t.streams }) (if x.0 == 3 then record t { most = Some x.1 } else t) (record { out = q.out; failed = q.failed })
    (either (Quiet s) (x.0 == 3) (record t { most = Some x.1 }) t (record { out = q.out; failed = q.failed }) q)

settings_quiet : (s t : State) (xs : List (ℕ × ℕ)) → Quiet s t → Quiet s (after_settings t xs)
unfolding after_settings
settings_quiet s t [] q = q
settings_quiet s t (x ∷ xs) q = settings_quiet s (after_setting t x) xs (setting_quiet s t x q)

-- ---- effects

record HasPlace (s : State) : Type 0 where
  on : s.failed ≡ None
  room : reply_bytes s.out + 17 ≤ reply_limit

by_request : (m : ℕ) (ends : Bool) (fields : List Field) (s t : State) → HasPlace s → Quiet s t → Replied 17 s (request m ends fields t)
unfolding request accepted
by_request m ends fields s t p q =
    let begun : Replied 17 s (accepted m ends fields t) =
    quiet 17 s (accepted m ends fields t) p.on (ended_quiet ends m s (event (record t { opened = m; streams = t.streams ++ new_stream m t ∷ [] }) (Opened m fields)) (record { out = q.out; failed = q.failed })) in
    let opened : Quiet s (opens m t) = record { out = q.out; failed = q.failed } in
    either (Replied 17 s) (nat_le stream_limit (open_count t.streams)) (reply (reset_frame m 7) (opens m t))
    (if is_malformed_request fields then reply (reset_frame m 1) (opens m t) else accepted m ends fields t)
    (one_reply s (opens m t) (reset_frame m 7) p.on p.room (reset_length m 7) opened)
    (either (Replied 17 s) (is_malformed_request fields) (reply (reset_frame m 1) (opens m t)) (accepted m ends fields t)
    (one_reply s (opens m t) (reset_frame m 1) p.on p.room (reset_length m 1) opened) begun)

by_response : (m : ℕ) (ends : Bool) (fields : List Field) (st : Stream) (s t : State) → HasPlace s → Quiet s t → Replied 17 s (response m ends fields st t)
unfolding response refused_response headed
by_response m ends fields st s t p q =
    either (Replied 17 s) st.answered (peer_ends m t)
    (if is_informational fields && not ends then t else (if is_malformed_response fields || is_informational fields then refused_response m t else headed m ends fields t))
    (quiet 17 s (peer_ends m t) p.on (ends_quiet m s t q))
    (either (Replied 17 s) (is_informational fields && not ends) t (if is_malformed_response fields || is_informational fields then refused_response m t else headed m ends fields t) (quiet 17 s t p.on q)
    (either (Replied 17 s) (is_malformed_response fields || is_informational fields) (refused_response m t) (headed m ends fields t)
    (one_reply s (event (on_stream m shut t) (Reset m 1)) (reset_frame m 1) p.on p.room (reset_length m 1) (record { out = q.out; failed = q.failed }))
    (quiet 17 s (headed m ends fields t) p.on (ended_quiet ends m s (event (on_stream m (λ x. record x { answered = true }) t) (Head m fields)) (record { out = q.out; failed = q.failed })))))

by_head : (m : ℕ) (ends : Bool) (fields : List Field) (s t : State) → HasPlace s → Quiet s t → Replied 17 s (head_of m ends fields t)
unfolding head_of
by_head m ends fields s t p q =
    let at_client : Replied 17 s (if_open (stream_at t.streams m) t (λ st. response m ends fields st t)) =
    open_or (Replied 17 s) (stream_at t.streams m) t (λ st. response m ends fields st t) (quiet 17 s t p.on q) (λ st. by_response m ends fields st s t p q) in
    let trailers : Replied 17 s (if_open (stream_at t.streams m) t (λ st. peer_ends m t)) =
    open_or (Replied 17 s) (stream_at t.streams m) t (λ st. peer_ends m t) (quiet 17 s t p.on q) (λ st. quiet 17 s (peer_ends m t) p.on (ends_quiet m s t q)) in
    either (Replied 17 s) (is_client t.role) (if_open (stream_at t.streams m) t (λ st. response m ends fields st t))
    (if nat_lt t.opened m then request m ends fields t else if_open (stream_at t.streams m) t (λ st. peer_ends m t)) at_client
    (either (Replied 17 s) (nat_lt t.opened m) (request m ends fields t) (if_open (stream_at t.streams m) t (λ st. peer_ends m t)) (by_request m ends fields s t p q) trailers)

by_decoded : (m : ℕ) (ends : Bool) (s : State) (o : Result Progress HpackFault) → HasPlace s → Replied 17 s (decoded m ends s o)
by_decoded m ends s (Ok p) place = by_head m ends p.fields s (record s { block = None; decoder = p.table }) place (record { out = refl; failed = refl })
by_decoded m ends s (Err e) place = quiet 17 s s place.on (same s)

by_block : (f : Frame) (s : State) → HasPlace s → Replied 17 s (block_of_headers f s)
unfolding block_of_headers block_grown
by_block f s p =
    either (Replied 17 s) (ends_block f) (decoded f.stream (block_ends s.block f) s (read_block s.decoder (block_with s f))) (block_grown f s)
    (by_decoded f.stream (block_ends s.block f) s (read_block s.decoder (block_with s f)) p) (quiet 17 s (block_grown f s) p.on (record { out = refl; failed = refl }))

reset_quiet : (f : Frame) (st : Stream) (s : State) → Quiet s (reset_of f st s)
unfolding reset_of cut_off
reset_quiet f st s =
    either (Quiet s) (is_client s.role && (number_at f.payload 0 == 0) && not st.peer_open) (on_stream f.stream shut s) (cut_off f.stream (number_at f.payload 0) st s)
    (record { out = refl; failed = refl }) (record { out = refl; failed = refl })

by_settings : (f : Frame) (s : State) → s.failed ≡ None → (has f 1 ≡ false → reply_bytes s.out + 17 ≤ reply_limit) → Replied (if not (has f 1) then 17 else 0) s (settings f s)
unfolding settings
by_settings f s on room = by_test (has f 1) refl
  where
    by_test : (b : Bool) → has f 1 ≡ b → Replied (if not b then 17 else 0) s (if b then s else reply (spelled 4 1 0 []) (after_settings s (settings_of f.payload)))
    by_test true e = quiet 0 s s on (same s)
    by_test false e =
        one_reply s (after_settings s (settings_of f.payload)) (spelled 4 1 0 []) on (room e) (let k = spelled_length 4 1 0 [] in omega (arith, k))
        (settings_quiet s s (settings_of f.payload) (same s))

by_ping : (f : Frame) (s : State) → length f.payload ≤ 8 → s.failed ≡ None → (has f 1 ≡ false → reply_bytes s.out + 17 ≤ reply_limit) → Replied (if not (has f 1) then 17 else 0) s (ping f s)
unfolding ping
by_ping f s short on room = by_test (has f 1) refl
  where
    by_test : (b : Bool) → has f 1 ≡ b → Replied (if not b then 17 else 0) s (if b then s else reply (spelled 6 1 0 f.payload) s)
    by_test true e = quiet 0 s s on (same s)
    by_test false e = one_reply s s (spelled 6 1 0 f.payload) on (room e) (let k = spelled_length 6 1 0 f.payload in omega (arith, k, short)) (same s)

goaway_quiet : (f : Frame) (s : State) → Quiet s (goaway f s)
unfolding goaway
goaway_quiet f s = record { out = refl; failed = refl }

update_quiet : (f : Frame) (s : State) → Quiet s (window_update f s)
unfolding window_update
update_quiet f s =
    either (Quiet s) (f.stream == 0) (record s { send = s.send +ℤ pos (increment_of f.payload) }) (record s { streams = change s.streams f.stream (with_grant (increment_of f.payload)) })
    (record { out = refl; failed = refl }) (record { out = refl; failed = refl })

-- ---- what a frame asks

third : (a b c d e : Bool) → (a || b || c || d || e) ≡ false → c ≡ false
third true b c d e h = absurd cc
third false true c d e h = absurd cc
third false false true d e h = absurd cc
third false false false d e h = refl

held : (b : Bool) → not b ≡ false → b ≡ true
held true h = refl
held false h = absurd cc

ping_length : (f : Frame) → has_wrong_length f ≡ false → (f.kind == 6) ≡ true → length f.payload ≤ 8
ping_length f wrong e =
    let test : ((f.kind == 6) && not (length f.payload == 8)) ≡ false = third ((f.kind == 2) && not (length f.payload == 5)) (((f.kind == 3) || (f.kind == 8)) && not (length f.payload == 4)) ((f.kind == 6) && not (length f.payload == 8)) ((f.kind == 7) && nat_lt (length f.payload) 8)
    ((f.kind == 4) && (not (length f.payload % 6 == 0) || (has f 1 && not (length f.payload == 0)))) wrong in
    let eight : length f.payload ≡ 8 = eqb-true (length f.payload) 8 (held (length f.payload == 8) (subst (λ (b : Bool). (b && not (length f.payload == 8)) ≡ false) e test)) in
    omega (arith, eight)

asks_block : (a b c d h : Bool) → (a || b) ≡ true → (a || b || ((c || d) && not h)) ≡ true
asks_block true b c d h e = refl
asks_block false true c d h e = refl
asks_block false false c d h e = absurd cc

asks_settings : (a b c d h : Bool) → (a || b) ≡ false → c ≡ true → (a || b || ((c || d) && not h)) ≡ not h
asks_settings true b c d h e k = absurd cc
asks_settings false true c d h e k = absurd cc
asks_settings false false true d h e k = refl
asks_settings false false false d h e k = absurd cc

asks_ping : (a b c d h : Bool) → (a || b) ≡ false → d ≡ true → (a || b || ((c || d) && not h)) ≡ not h
asks_ping true b c d h e k = absurd cc
asks_ping false true c d h e k = absurd cc
asks_ping false false true true h e k = refl
asks_ping false false false true h e k = refl
asks_ping false false c false h e k = absurd cc

-- how many bytes of replies a frame may ask for
abbrev pub most : Bool → ℕ
most b = 17 * (if b then 1 else 0)

plain_most : (b : Bool) → (if b then 17 else 0) ≡ most b
plain_most true = refl
plain_most false = refl

chosen : (P : State → Type 0) (b : Bool) (x y : State) → (b ≡ true → P x) → (b ≡ false → P y) → P (if b then x else y)
chosen P true x y p q = p refl
chosen P false x y p q = q refl

asks_with : (f : Frame) (s t : State) → (asks f ≡ not (has f 1)) → Replied (if not (has f 1) then 17 else 0) s t → Replied (most (asks f)) s t
asks_with f s t e r = subst (λ (k : ℕ). Replied k s t) (plain_most (not (has f 1)) ∙ ap most (sym e)) r

by_effect : (f : Frame) (s : State) → s.failed ≡ None → (asks f ≡ true → reply_bytes s.out + 17 ≤ reply_limit) → has_wrong_length f ≡ false → Replied (most (asks f)) s (effect s f)
unfolding effect
by_effect f s on room wrong =
    chosen P (f.kind == 0) (data_of f s (stream_at s.streams f.stream)) _ (λ e. quiet k s _ on (data_quiet f s (stream_at s.streams f.stream)))
    (λ e0. chosen P ((f.kind == 1) || (f.kind == 9)) (block_of_headers f s) _
    (λ e. let a : asks f ≡ true = asks_block (f.kind == 1) (f.kind == 9) (f.kind == 4) (f.kind == 6) (has f 1) e in
    subst (λ (b : Bool). Replied (most b) s (block_of_headers f s)) (sym a) (by_block f s (record { on = on; room = room a })))
    (λ e1. chosen P (f.kind == 3) (if_open (stream_at s.streams f.stream) s (λ st. reset_of f st s)) _
    (λ e. open_or P (stream_at s.streams f.stream) s (λ st. reset_of f st s) (quiet k s s on (same s)) (λ st. quiet k s (reset_of f st s) on (reset_quiet f st s)))
    (λ e3. chosen P (f.kind == 4) (settings f s) _
    (λ e. let a : asks f ≡ not (has f 1) = asks_settings (f.kind == 1) (f.kind == 9) (f.kind == 4) (f.kind == 6) (has f 1) e1 e in
    asks_with f s (settings f s) a (by_settings f s on (λ (h : has f 1 ≡ false). room (a ∙ ap not h))))
    (λ e4. chosen P (f.kind == 6) (ping f s) _
    (λ e. let a : asks f ≡ not (has f 1) = asks_ping (f.kind == 1) (f.kind == 9) (f.kind == 4) (f.kind == 6) (has f 1) e1 e in
    asks_with f s (ping f s) a (by_ping f s (ping_length f wrong e) on (λ (h : has f 1 ≡ false). room (a ∙ ap not h))))
    (λ e6. either P (f.kind == 7) (goaway f s) _ (quiet k s (goaway f s) on (goaway_quiet f s))
    (either P (f.kind == 8) (window_update f s) s (quiet k s (window_update f s) on (update_quiet f s)) (quiet k s s on (same s))))))))
  where
    k : ℕ
    k = most (asks f)

    P : State → Type 0
    P t = Replied (most (asks f)) s t

-- ---- a frame that breaks no rule

pub few_replies : (s : State) (f : Frame) → s.failed ≡ None → verdict s f ≡ None → reply_bytes s.out + most (asks f) ≤ reply_limit → Replied (most (asks f)) s (after_frame s f)
few_replies s f on v room =
    let to : after_frame s f ≡ effect (record s { began = true }) f = after_frame-judged s f on ∙ ap (λ o. judged s f o) v in
    let full : asks f ≡ true → reply_bytes s.out + 17 ≤ reply_limit = λ a. subst (λ (b : Bool). reply_bytes s.out + most b ≤ reply_limit) a room in
    let r = by_effect f (record s { began = true }) on full (passes_rules s f v).long in
    subst (λ t. Replied (most (asks f)) s t) (sym to) (record { goes = r.goes; few = r.few })

-- ---- streams that are open

up_to : (low high : ℕ) (ss : List Stream) → Rising low high ss → low ≤ high
unfolding Rising
up_to low high [] r = r
up_to low high (st ∷ ss) (above, odd, r) = let rest = up_to st.number high ss r in omega (arith, rest, above)

pub one_open : (high : ℕ) (ss : List Stream) → Rising 0 high ss → high ≤ 1 → open_count ss < stream_limit
unfolding Rising
one_open high [] r one = omega arith
one_open high (st ∷ []) r one = by_test (is_open st)
  where
    by_test : (b : Bool) → 0 + (if b then 1 else 0) < stream_limit
    by_test true = omega arith
    by_test false = omega arith
one_open high (st ∷ more ∷ ss) (first, odd, (second, other, r)) one = let rest = up_to more.number high ss r in absurd (omega (arith, first, second, rest, one))

-- ---- all of them

abbrev pub Keeps : Type 0
Keeps = (s : State) (f : Frame) → Holds s → IsWithinLimits f → Holds (after_frame s f)

pub opened_on : FramesOpenAbove → Keeps → (s : State) (fs : List Frame) → Holds s → AllByRecursion IsWithinLimits fs → s.opened ≤ (after_frames s fs).opened
unfolding after_frames
opened_on above keep s [] holds limits = omega arith
opened_on above keep s (f ∷ fs) holds limits =
    let raise = (above s f holds).opened in
    let rest = opened_on above keep (after_frame s f) fs (keep s f holds limits.0) limits.1 in
    omega (arith, raise, rest)

pub few_are_read : FramesOpenAbove → Keeps → FewAreRead
unfolding after_frames Accepts HasRoomFor asking
few_are_read above keep s [] holds on limits a room one = record { room = tt; goes = on; replies = omega arith }
few_are_read above keep s (f ∷ fs) holds on limits a room one =
    let first : Replied (most (asks f)) s (after_frame s f) = few_replies s f on a.0 (omega (arith, room)) in
    let fits = first.few in
    let next = keep s f holds limits.0 in
    let rest = few_are_read above keep (after_frame s f) fs next first.goes limits.1 a.1 (omega (arith, room, fits)) one in
    let more = rest.replies in
    let raised = opened_on above keep (after_frame s f) fs next limits.1 in
    let raise = (above s f holds).opened in
    record {
      room = (on, (λ server. one_open s.opened s.streams holds.rising (omega (arith, one, raised, raise))), rest.room);
      goes = rest.goes;
      replies = omega (arith, more, fits);
    }
