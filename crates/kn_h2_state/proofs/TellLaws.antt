-- What a connection tells, and when it tells its end.
use Rattle.std.proofs.Common.{◌≡◌, ◌≢◌, ℕ, Bool, true, false, not, ◌&&◌, ◌||◌, nat_lt, nat_le, length, List, [], ◌∷◌, ◌++◌, Option, Some, None, Result, Ok, Err, refl, sym, ap, ◌∙◌, subst, ◌+◌, ◌+ℤ◌, pos, append-nil, append_assoc, arith, if◌then◌else◌}
use Rattle.std.specs.Bool.{◌==◌}
use Rattle.std.proofs.lemmas.Bool.{eqb-true, and_parts}
use Rattle.kn_frames.specs.declared.frame.Frame.{Frame}
use Rattle.kn_frames.specs.Frames.{spelled}
use Rattle.kn_hpack.specs.Fields.{Field}
use Rattle.kn_hpack.specs.Encoding.{block_of}
use Rattle.kn_hpack.specs.Blocks.{Progress, read_block}
use Rattle.kn_hpack.specs.declared.fault.HpackFault.{HpackFault}
use Rattle.kn_h2_state.specs.declared.event.H2Event.{H2Event}
use Rattle.kn_h2_state.specs.declared.event.H2Event.TheVariants.{Opened, Head, Text, Ended, Reset, Away, Closed}
use Rattle.kn_h2_state.specs.declared.moves.Move.{Move}
use Rattle.kn_h2_state.specs.declared.moves.Move.TheVariants.{GrantAll, Grant, Send, End, Stop}
use Rattle.kn_h2_state.specs.declared.stream.Stream.{Stream}
use Rattle.kn_h2_state.specs.declared.state.State.{State}
use Rattle.kn_h2_state.specs.Limits.{reply_limit, stream_limit}
use Rattle.kn_h2_state.specs.Outgoing.{put, reply_bytes}
use Rattle.kn_h2_state.specs.Streams.{stream_at, change, is_open, open_count, on_open, passes, shut}
use Rattle.kn_h2_state.specs.Payloads.{has, content, number_at, increment_of, settings_of, reset_frame}
use Rattle.kn_h2_state.specs.Heads.{is_malformed_request, is_malformed_response, is_informational}
use Rattle.kn_h2_state.specs.Rules.{is_client, block_with, ends_block, shifted, verdict}
use Rattle.kn_h2_state.specs.Effects.{event, fail, reply, on_stream, peer_ends, if_open, data_taken, text_told, ended_if, data_in, data_dropped, data_of, new_stream, opens, accepted, request, headed, refused_response, response, head_of, decoded, block_ends, block_grown, block_of_headers, cut_off, reset_of, after_setting, after_settings, settings, ping, goaway, with_grant, window_update, effect}
use Rattle.kn_h2_state.specs.Feeding.{without_blocks, judged, after_frame}
use Rattle.kn_h2_state.specs.Moves.{made, target, after_move, headers_frames}
use Rattle.kn_h2_state.specs.Calls.{after_take, after_begin, after_queue, after_finish, after_answer, after_reset}
use Rattle.kn_h2_state.specs.Laws.{brought}
use Rattle.kn_h2_state.specs.Telling.{is_closing, GoesOn, EndsAs, Tells, FramesTell, IsQuiet, CallsTell, MovesAreQuiet, TextIsTold}
use Rattle.kn_h2_state.proofs.OtherLaws.{either, open_or, by_kind}
use Rattle.kn_h2_state.proofs.PieceLaws.{after_frame-judged}
use Rattle.kn_h2_state.proofs.TextLaws.{data_effect}

-- the connection goes on, and told no end
record On (s t : State) : Type 0 where
  told : List H2Event
  events : t.events ≡ s.events ++ told
  failed : t.failed ≡ None
  on : GoesOn told

goes_push : (es : List H2Event) (e : H2Event) → GoesOn es → is_closing e ≡ false → GoesOn (es ++ e ∷ [])
goes_push [] e all h = (h, tt)
goes_push (x ∷ es) e all h = (all.0, goes_push es e all.1 h)

on_start : (s t : State) → t.events ≡ s.events → t.failed ≡ None → On s t
on_start s t e g = record { told = []; events = e ∙ sym (append-nil s.events); failed = g; on = tt }

-- the same events, and no failure
on_same : (s t u : State) → On s t → u.events ≡ t.events → u.failed ≡ t.failed → On s u
on_same s t u o e g = record { told = o.told; events = e ∙ o.events; failed = g ∙ o.failed; on = o.on }

on_event : (s t u : State) (e : H2Event) → On s t → u.events ≡ t.events ++ e ∷ [] → u.failed ≡ t.failed → is_closing e ≡ false → On s u
on_event s t u e o h g c = record {
  told = o.told ++ e ∷ [];
  events = h ∙ (ap (λ es. es ++ e ∷ []) o.events ∙ append_assoc s.events o.told (e ∷ []));
  failed = g ∙ o.failed;
  on = goes_push o.told e o.on c;
}

tells_on : (s t : State) → On s t → Tells s t
tells_on s t o = record { told = o.told; events = o.events; ends = subst (λ code. EndsAs code o.told) (sym o.failed) o.on }

tells_fail : (code : ℕ) (s t : State) → On s t → Tells s (fail code t)
unfolding fail
tells_fail code s t o = record {
  told = o.told ++ Closed code ∷ [];
  events = ap (λ es. es ++ Closed code ∷ []) o.events ∙ append_assoc s.events o.told (Closed code ∷ []);
  ends = (o.told, refl, o.on);
}

tells_reply : (bytes : List ℕ) (s t : State) → On s t → Tells s (reply bytes t)
unfolding reply
tells_reply bytes s t o =
    either (Tells s) (nat_lt reply_limit (reply_bytes t.out + length bytes)) (fail 11 t) (record t { out = put t.out true bytes })
    (tells_fail 11 s t o) (tells_on s (record t { out = put t.out true bytes }) (on_same s t (record t { out = put t.out true bytes }) o refl refl))

-- ---- effects

on_ends : (m : ℕ) (s t : State) → On s t → On s (peer_ends m t)
unfolding peer_ends
on_ends m s t o = on_event s t (peer_ends m t) (Ended m) o refl refl refl

on_ended : (ends : Bool) (m : ℕ) (s t : State) → On s t → On s (ended_if ends m t)
on_ended ends m s t o = either (On s) ends (peer_ends m t) t (on_ends m s t o) o

on_data : (f : Frame) (s : State) (x : Option Stream) → s.failed ≡ None → On s (data_of f s x)
unfolding data_in data_taken data_dropped
on_data f s None g = on_start s (data_dropped f s) refl g
on_data f s (Some st) g =
    let taken : On s (data_taken f s) = on_start s (data_taken f s) refl g in
    let told : On s (text_told f.stream (content f) (data_taken f s)) =
    either (On s) (length (content f) == 0) (data_taken f s) (event (data_taken f s) (Text f.stream)) taken
    (on_event s (data_taken f s) (event (data_taken f s) (Text f.stream)) (Text f.stream) taken refl refl refl) in
    either (On s) (is_open st) (data_in f s) (data_dropped f s) (on_ended (has f 1) f.stream s (text_told f.stream (content f) (data_taken f s)) told)
    (on_start s (data_dropped f s) refl g)

tells_request : (m : ℕ) (ends : Bool) (fields : List Field) (s t : State) → On s t → Tells s (request m ends fields t)
unfolding request accepted
tells_request m ends fields s t o =
    let refused : (code : ℕ) → Tells s (reply (reset_frame m code) (opens m t)) = λ code. tells_reply (reset_frame m code) s (opens m t) (on_same s t (opens m t) o refl refl) in
    let pushed : State = event (record t { opened = m; streams = t.streams ++ new_stream m t ∷ [] }) (Opened m fields) in
    let begun : Tells s (accepted m ends fields t) =
    tells_on s (accepted m ends fields t) (on_ended ends m s pushed (on_event s t pushed (Opened m fields) o refl refl refl)) in
    either (Tells s) (nat_le stream_limit (open_count t.streams)) (reply (reset_frame m 7) (opens m t))
    (if is_malformed_request fields then reply (reset_frame m 1) (opens m t) else accepted m ends fields t) (refused 7)
    (either (Tells s) (is_malformed_request fields) (reply (reset_frame m 1) (opens m t)) (accepted m ends fields t) (refused 1) begun)

tells_response : (m : ℕ) (ends : Bool) (fields : List Field) (st : Stream) (s t : State) → On s t → Tells s (response m ends fields st t)
unfolding response refused_response headed
tells_response m ends fields st s t o =
    let gone : State = event (on_stream m shut t) (Reset m 1) in
    let told : State = event (on_stream m (λ x. record x { answered = true }) t) (Head m fields) in
    either (Tells s) st.answered (peer_ends m t)
    (if is_informational fields && not ends then t else (if is_malformed_response fields || is_informational fields then refused_response m t else headed m ends fields t))
    (tells_on s (peer_ends m t) (on_ends m s t o))
    (either (Tells s) (is_informational fields && not ends) t (if is_malformed_response fields || is_informational fields then refused_response m t else headed m ends fields t) (tells_on s t o)
    (either (Tells s) (is_malformed_response fields || is_informational fields) (refused_response m t) (headed m ends fields t)
    (tells_reply (reset_frame m 1) s gone (on_event s t gone (Reset m 1) o refl refl refl))
    (tells_on s (headed m ends fields t) (on_ended ends m s told (on_event s t told (Head m fields) o refl refl refl)))))

tells_head : (m : ℕ) (ends : Bool) (fields : List Field) (s t : State) → On s t → Tells s (head_of m ends fields t)
unfolding head_of
tells_head m ends fields s t o =
    let at_client : Tells s (if_open (stream_at t.streams m) t (λ st. response m ends fields st t)) =
    open_or (Tells s) (stream_at t.streams m) t (λ st. response m ends fields st t) (tells_on s t o) (λ st. tells_response m ends fields st s t o) in
    let trailers : Tells s (if_open (stream_at t.streams m) t (λ st. peer_ends m t)) =
    open_or (Tells s) (stream_at t.streams m) t (λ st. peer_ends m t) (tells_on s t o) (λ st. tells_on s (peer_ends m t) (on_ends m s t o)) in
    either (Tells s) (is_client t.role) (if_open (stream_at t.streams m) t (λ st. response m ends fields st t))
    (if nat_lt t.opened m then request m ends fields t else if_open (stream_at t.streams m) t (λ st. peer_ends m t)) at_client
    (either (Tells s) (nat_lt t.opened m) (request m ends fields t) (if_open (stream_at t.streams m) t (λ st. peer_ends m t)) (tells_request m ends fields s t o) trailers)

tells_decoded : (m : ℕ) (ends : Bool) (s : State) (x : Result Progress HpackFault) → s.failed ≡ None → Tells s (decoded m ends s x)
tells_decoded m ends s (Ok p) g =
    tells_head m ends p.fields s (record s { block = None; decoder = p.table }) (on_start s (record s { block = None; decoder = p.table }) refl g)
tells_decoded m ends s (Err e) g = tells_on s s (on_start s s refl g)

tells_block : (f : Frame) (s : State) → s.failed ≡ None → Tells s (block_of_headers f s)
unfolding block_of_headers block_grown
tells_block f s g =
    either (Tells s) (ends_block f) (decoded f.stream (block_ends s.block f) s (read_block s.decoder (block_with s f))) (block_grown f s)
    (tells_decoded f.stream (block_ends s.block f) s (read_block s.decoder (block_with s f)) g) (tells_on s (block_grown f s) (on_start s (block_grown f s) refl g))

tells_reset : (f : Frame) (st : Stream) (s : State) → s.failed ≡ None → Tells s (reset_of f st s)
unfolding reset_of cut_off
tells_reset f st s g =
    either (Tells s) (is_client s.role && (number_at f.payload 0 == 0) && not st.peer_open) (on_stream f.stream shut s) (cut_off f.stream (number_at f.payload 0) st s)
    (tells_on s (on_stream f.stream shut s) (on_start s (on_stream f.stream shut s) refl g))
    (tells_on s (cut_off f.stream (number_at f.payload 0) st s)
    (on_event s s (cut_off f.stream (number_at f.payload 0) st s) (Reset f.stream (number_at f.payload 0)) (on_start s s refl g) refl refl refl))

on_setting : (s t : State) (x : ℕ × ℕ) → On s t → On s (after_setting t x)
unfolding after_setting
on_setting s t x o =
    either (On s) (x.0 == 4) (record t { initial = x.1; streams = shifted t.initial x.1 t.streams }) (if x.0 == 3 then record t { most = Some x.1 } else t)
    (on_same s t (record t { initial = x.1; streams = shifted t.initial x.1 t.streams }) o refl refl)
    (either (On s) (x.0 == 3) (record t { most = Some x.1 }) t (on_same s t (record t { most = Some x.1 }) o refl refl) o)

on_settings : (s t : State) (xs : List (ℕ × ℕ)) → On s t → On s (after_settings t xs)
unfolding after_settings
on_settings s t [] o = o
on_settings s t (x ∷ xs) o = on_settings s (after_setting t x) xs (on_setting s t x o)

tells_settings : (f : Frame) (s : State) → s.failed ≡ None → Tells s (settings f s)
unfolding settings
tells_settings f s g =
    either (Tells s) (has f 1) s (reply (spelled 4 1 0 []) (after_settings s (settings_of f.payload))) (tells_on s s (on_start s s refl g))
    (tells_reply (spelled 4 1 0 []) s (after_settings s (settings_of f.payload)) (on_settings s s (settings_of f.payload) (on_start s s refl g)))

tells_ping : (f : Frame) (s : State) → s.failed ≡ None → Tells s (ping f s)
unfolding ping
tells_ping f s g =
    either (Tells s) (has f 1) s (reply (spelled 6 1 0 f.payload) s) (tells_on s s (on_start s s refl g)) (tells_reply (spelled 6 1 0 f.payload) s s (on_start s s refl g))

tells_goaway : (f : Frame) (s : State) → s.failed ≡ None → Tells s (goaway f s)
unfolding goaway
tells_goaway f s g = tells_on s (goaway f s) (on_event s s (goaway f s) (Away (number_at f.payload 4)) (on_start s s refl g) refl refl refl)

tells_update : (f : Frame) (s : State) → s.failed ≡ None → Tells s (window_update f s)
unfolding window_update
tells_update f s g =
    either (Tells s) (f.stream == 0) (record s { send = s.send +ℤ pos (increment_of f.payload) })
    (record s { streams = change s.streams f.stream (with_grant (increment_of f.payload)) })
    (tells_on s (record s { send = s.send +ℤ pos (increment_of f.payload) }) (on_start s (record s { send = s.send +ℤ pos (increment_of f.payload) }) refl g))
    (tells_on s (record s { streams = change s.streams f.stream (with_grant (increment_of f.payload)) })
    (on_start s (record s { streams = change s.streams f.stream (with_grant (increment_of f.payload)) }) refl g))

tells_effect : (s : State) (f : Frame) → s.failed ≡ None → Tells s (effect s f)
tells_effect s f g =
    by_kind (Tells s) s f
    (λ _. tells_on s (data_of f s (stream_at s.streams f.stream)) (on_data f s (stream_at s.streams f.stream) g))
    (tells_block f s g)
    (λ _. open_or (Tells s) (stream_at s.streams f.stream) s (λ st. reset_of f st s) (tells_on s s (on_start s s refl g)) (λ st. tells_reset f st s g))
    (tells_settings f s g)
    (tells_ping f s g)
    (tells_goaway f s g)
    (tells_update f s g)
    (tells_on s s (on_start s s refl g))

pub frames_tell : FramesTell
frames_tell s f g = subst (Tells s) (sym (after_frame-judged s f g)) (by_verdict (verdict s f))
  where
    by_verdict : (o : Option ℕ) → Tells s (judged s f o)
    by_verdict (Some code) = tells_fail code s (without_blocks s) (on_start s (without_blocks s) refl g)
    by_verdict None =
        let a : Tells (record s { began = true }) (effect (record s { began = true }) f) = tells_effect (record s { began = true }) f g in
        record { told = a.told; events = a.events; ends = a.ends }

-- ---- moves and calls

pub moves_are_quiet : MovesAreQuiet
unfolding after_move
moves_are_quiet s m = by_move m (stream_at s.streams (target m))
  where
    by_move : (k : Move) (o : Option Stream) → IsQuiet s (made s k o)
    by_move GrantAll o = record { events = refl; failed = refl }
    by_move (Grant n) None = record { events = refl; failed = refl }
    by_move (Grant n) (Some st) = record { events = refl; failed = refl }
    by_move (Send n count) None = record { events = refl; failed = refl }
    by_move (Send n count) (Some st) = record { events = refl; failed = refl }
    by_move (End n) None = record { events = refl; failed = refl }
    by_move (End n) (Some st) = record { events = refl; failed = refl }
    by_move (Stop n) None = record { events = refl; failed = refl }
    by_move (Stop n) (Some st) = record { events = refl; failed = refl }

pub calls_tell : (s : State) (n : ℕ) → s.failed ≡ None → CallsTell s n
unfolding after_take after_begin after_queue after_finish after_answer after_reset
calls_tell s n g =
    let answered : State = record s { streams = change s.streams n (λ st. record st { answered = true }); encoder = true } in
    record {
      answer = λ fields. tells_reply (headers_frames n 0 (block_of s.encoder fields)) s answered (on_start s answered refl g);
      reset = λ code. tells_reply (reset_frame n code) s (on_stream n shut s) (on_start s (on_stream n shut s) refl g);
      take = λ count. record { events = refl; failed = refl };
      begin = λ fields. record { events = refl; failed = refl };
      queue = λ bytes. record { events = refl; failed = refl };
      finish = λ trailers. record { events = refl; failed = refl };
    }

-- ---- text

told_first : (f : Frame) (s : State) → content f ≢ [] → (more : List H2Event) × ((data_in f s).events ≡ s.events ++ Text f.stream ∷ more)
unfolding data_in data_taken peer_ends
told_first f s some = by_length (length (content f) == 0) refl (has f 1)
  where
    empty : (xs : List ℕ) → length xs ≡ 0 → xs ≡ []
    empty [] e = refl
    empty (x ∷ xs) e = absurd (omega arith)

    by_length : (b : Bool) → (length (content f) == 0) ≡ b → (ends : Bool)
        → (more : List H2Event) × ((ended_if ends f.stream (if b then data_taken f s else event (data_taken f s) (Text f.stream))).events ≡ s.events ++ Text f.stream ∷ more)
    by_length true t ends = absurd (some (empty (content f) (eqb-true (length (content f)) 0 t)))
    by_length false t true = (Ended f.stream ∷ [], append_assoc s.events (Text f.stream ∷ []) (Ended f.stream ∷ []))
    by_length false t false = ([], refl)

pub text_is_told : TextIsTold
unfolding brought
text_is_told s f n g v some = by_test ((f.kind == 0) && ((f.stream == n) && on_open s.streams n (λ st. true))) refl some
  where
    by_open : (o : Option Stream) → stream_at s.streams f.stream ≡ o → passes (λ st. true) o ≡ true → (f.kind == 0) ≡ true → f.stream ≡ n → content f ≢ []
        → (more : List H2Event) × ((after_frame s f).events ≡ s.events ++ Text n ∷ more)
    by_open None e p kind same h = absurd cc
    by_open (Some st) e p kind same h =
        let t : State = record s { began = true } in
        let is : is_open st ≡ true = (and_parts (is_open st) true p).0 in
        let goes : after_frame s f ≡ data_in f t =
        after_frame-judged s f g ∙ (ap (λ o. judged s f o) v ∙ (data_effect t f kind ∙ (ap (λ o. data_of f t o) e ∙ ap (λ b. if b then data_in f t else data_dropped f t) is))) in
        let first = told_first f t h in
        (first.0, ap (λ (u : State). u.events) goes ∙ (first.1 ∙ ap (λ k. s.events ++ Text k ∷ first.0) same))

    by_test : (b : Bool) → ((f.kind == 0) && ((f.stream == n) && on_open s.streams n (λ st. true))) ≡ b → (if b then content f else []) ≢ []
        → (more : List H2Event) × ((after_frame s f).events ≡ s.events ++ Text n ∷ more)
    by_test false t h = absurd (h refl)
    by_test true t h =
        let outer = and_parts (f.kind == 0) ((f.stream == n) && on_open s.streams n (λ st. true)) t in
        let inner = and_parts (f.stream == n) (on_open s.streams n (λ st. true)) outer.1 in
        let same : f.stream ≡ n = eqb-true f.stream n inner.0 in
        by_open (stream_at s.streams f.stream) refl (ap (λ k. on_open s.streams k (λ st. true)) same ∙ inner.1) outer.0 same h
