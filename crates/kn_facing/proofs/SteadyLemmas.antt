-- What frames never change: what this end has written of header blocks, and at a client the streams that were opened.
use Rattle.std.proofs.Common.{◌≡◌, ◌+◌, ◌+ℤ◌, pos, ◌&&◌, ◌||◌, ℕ, Bool, true, false, not, nat_lt, nat_le, length, List, [], ◌∷◌, ◌++◌, Option, Some, None, Result, Ok, Err, refl, sym, ap, ◌∙◌, subst, if◌then◌else◌}
use Rattle.std.specs.Prelude.{◌==◌}
use Rattle.std.specs.List.{AllByRecursion}
use Rattle.kn_frames.specs.declared.frame.Frame.{Frame}
use Rattle.kn_frames.specs.Frames.{spelled}
use Rattle.kn_hpack.specs.Fields.{Field}
use Rattle.kn_hpack.specs.Blocks.{Progress, read_block}
use Rattle.kn_hpack.specs.declared.fault.HpackFault.{HpackFault}
use Rattle.kn_h2_state.specs.declared.event.H2Event.TheVariants.{Opened, Head, Text, Reset}
use Rattle.kn_h2_state.specs.declared.stream.Stream.{Stream}
use Rattle.kn_h2_state.specs.declared.state.State.{State}
use Rattle.kn_h2_state.specs.Limits.{reply_limit, stream_limit}
use Rattle.kn_h2_state.specs.Outgoing.{put, reply_bytes}
use Rattle.kn_h2_state.specs.Streams.{stream_at, change, is_open, open_count, shut}
use Rattle.kn_h2_state.specs.Payloads.{has, content, number_at, increment_of, settings_of, reset_frame}
use Rattle.kn_h2_state.specs.Heads.{is_malformed_request, is_malformed_response, is_informational}
use Rattle.kn_h2_state.specs.Rules.{is_client, block_with, ends_block, shifted, verdict}
use Rattle.kn_h2_state.specs.Effects.{event, reply, fail, on_stream, peer_ends, if_open, data_taken, text_told, ended_if, data_in, data_dropped, data_of, new_stream, opens, accepted, request, headed, refused_response, response, head_of, decoded, block_ends, block_grown, block_of_headers, cut_off, reset_of, after_setting, after_settings, settings, ping, goaway, with_grant, window_update, effect}
use Rattle.kn_h2_state.specs.Feeding.{judged, after_frame}
use Rattle.kn_facing.specs.Facing.{IsPlain}
use Rattle.kn_h2_state.proofs.OtherLaws.{either, open_or}
use Rattle.kn_h2_state.proofs.PieceLaws.{after_frame-judged}

pub record Steady (s t : State) : Type 0 where
  pub role : t.role ≡ s.role
  pub encoder : t.encoder ≡ s.encoder
  pub initial : t.initial ≡ s.initial
  pub opened : is_client s.role ≡ true → t.opened ≡ s.opened

same : (s : State) → Steady s s
same s = record { role = refl; encoder = refl; initial = refl; opened = λ e. refl }

-- neither is touched
record Beside (t u : State) : Type 0 where
  role : u.role ≡ t.role
  encoder : u.encoder ≡ t.encoder
  initial : u.initial ≡ t.initial
  opened : u.opened ≡ t.opened

beside : (s t u : State) → Steady s t → Beside t u → Steady s u
beside s t u h b = record { role = b.role ∙ h.role; encoder = b.encoder ∙ h.encoder; initial = b.initial ∙ h.initial; opened = λ e. b.opened ∙ h.opened e }

reply_beside : (bytes : List ℕ) (t : State) → Beside t (reply bytes t)
unfolding reply fail
reply_beside bytes t =
    either (Beside t) (nat_lt reply_limit (reply_bytes t.out + length bytes)) (fail 11 t) (record t { out = put t.out true bytes }) (record { role = refl; encoder = refl; initial = refl; opened = refl }) (record { role = refl; encoder = refl; initial = refl; opened = refl })

ends_beside : (m : ℕ) (t : State) → Beside t (peer_ends m t)
unfolding peer_ends
ends_beside m t = record { role = refl; encoder = refl; initial = refl; opened = refl }

steady_reply : (s t : State) (bytes : List ℕ) → Steady s t → Steady s (reply bytes t)
steady_reply s t bytes h = beside s t (reply bytes t) h (reply_beside bytes t)

steady_ends : (m : ℕ) (s t : State) → Steady s t → Steady s (peer_ends m t)
steady_ends m s t h = beside s t (peer_ends m t) h (ends_beside m t)

steady_ended : (ends : Bool) (m : ℕ) (s t : State) → Steady s t → Steady s (ended_if ends m t)
steady_ended ends m s t h = either (Steady s) ends (peer_ends m t) t (steady_ends m s t h) h

steady_data : (f : Frame) (s : State) (o : Option Stream) → Steady s (data_of f s o)
unfolding data_in data_taken data_dropped
steady_data f s None = record { role = refl; encoder = refl; initial = refl; opened = λ e. refl }
steady_data f s (Some st) =
    either (Steady s) (is_open st) (data_in f s) (data_dropped f s)
    (steady_ended (has f 1) f.stream s (text_told f.stream (content f) (data_taken f s))
    (either (Steady s) (length (content f) == 0) (data_taken f s) (event (data_taken f s) (Text f.stream)) (record { role = refl; encoder = refl; initial = refl; opened = λ e. refl }) (record { role = refl; encoder = refl; initial = refl; opened = λ e. refl })))
    (record { role = refl; encoder = refl; initial = refl; opened = λ e. refl })

setting_beside : (t : State) (x : ℕ × ℕ) → (x.0 == 4) ≡ false → Beside t (after_setting t x)
unfolding after_setting
setting_beside t x no_window =
    subst (λ (b : Bool). Beside t (if b then record t { initial = x.1; streams = shifted t.initial x.1 t.streams } else (if x.0 == 3 then record t { most = Some x.1 } else t))) (sym no_window)
    (either (Beside t) (x.0 == 3) (record t { most = Some x.1 }) t (record { role = refl; encoder = refl; initial = refl; opened = refl }) (record { role = refl; encoder = refl; initial = refl; opened = refl }))

steady_settings : (s t : State) (xs : List (ℕ × ℕ)) → AllByRecursion (λ x. (x.0 == 4) ≡ false) xs → Steady s t → Steady s (after_settings t xs)
unfolding after_settings
steady_settings s t [] none h = h
steady_settings s t (x ∷ xs) none h = steady_settings s (after_setting t x) xs none.1 (beside s t (after_setting t x) h (setting_beside t x none.0))

-- a server alone opens a stream that comes
steady_request : (m : ℕ) (ends : Bool) (fields : List Field) (s t : State) → is_client s.role ≡ false → t.role ≡ s.role → t.encoder ≡ s.encoder → t.initial ≡ s.initial → Steady s (request m ends fields t)
unfolding request accepted
steady_request m ends fields s t server r e i =
    either (Steady s) (nat_le stream_limit (open_count t.streams)) (reply (reset_frame m 7) (opens m t))
    (if is_malformed_request fields then reply (reset_frame m 1) (opens m t) else accepted m ends fields t)
    (steady_reply s (opens m t) (reset_frame m 7) (opened (opens m t) r e i))
    (either (Steady s) (is_malformed_request fields) (reply (reset_frame m 1) (opens m t)) (accepted m ends fields t)
    (steady_reply s (opens m t) (reset_frame m 1) (opened (opens m t) r e i))
    (steady_ended ends m s (event (record t { opened = m; streams = t.streams ++ new_stream m t ∷ [] }) (Opened m fields))
    (opened (event (record t { opened = m; streams = t.streams ++ new_stream m t ∷ [] }) (Opened m fields)) r e i)))
  where
    opened : (u : State) → u.role ≡ s.role → u.encoder ≡ s.encoder → u.initial ≡ s.initial → Steady s u
    opened u j k i = record { role = j; encoder = k; initial = i; opened = λ client. absurd (both client) }
      where
        both : is_client s.role ≡ true → ⊥
        both client = cc

steady_response : (m : ℕ) (ends : Bool) (fields : List Field) (st : Stream) (s t : State) → Steady s t → Steady s (response m ends fields st t)
unfolding response refused_response headed
steady_response m ends fields st s t h =
    either (Steady s) st.answered (peer_ends m t)
    (if is_informational fields && not ends then t else (if is_malformed_response fields || is_informational fields then refused_response m t else headed m ends fields t))
    (steady_ends m s t h)
    (either (Steady s) (is_informational fields && not ends) t (if is_malformed_response fields || is_informational fields then refused_response m t else headed m ends fields t) h
    (either (Steady s) (is_malformed_response fields || is_informational fields) (refused_response m t) (headed m ends fields t)
    (steady_reply s (event (on_stream m shut t) (Reset m 1)) (reset_frame m 1) (beside s t (event (on_stream m shut t) (Reset m 1)) h (record { role = refl; encoder = refl; initial = refl; opened = refl })))
    (steady_ended ends m s (event (on_stream m (λ x. record x { answered = true }) t) (Head m fields))
    (beside s t (event (on_stream m (λ x. record x { answered = true }) t) (Head m fields)) h (record { role = refl; encoder = refl; initial = refl; opened = refl })))))

chosen : (P : State → Type 0) (b : Bool) (x y : State) → (b ≡ true → P x) → (b ≡ false → P y) → P (if b then x else y)
chosen P true x y p q = p refl
chosen P false x y p q = q refl

steady_head : (m : ℕ) (ends : Bool) (fields : List Field) (s t : State) → t.role ≡ s.role → Steady s t → Steady s (head_of m ends fields t)
unfolding head_of
steady_head m ends fields s t role h =
    chosen (Steady s) (is_client t.role) (if_open (stream_at t.streams m) t (λ st. response m ends fields st t))
    (if nat_lt t.opened m then request m ends fields t else if_open (stream_at t.streams m) t (λ st. peer_ends m t))
    (λ e. open_or (Steady s) (stream_at t.streams m) t (λ st. response m ends fields st t) h (λ st. steady_response m ends fields st s t h))
    (λ e. either (Steady s) (nat_lt t.opened m) (request m ends fields t) (if_open (stream_at t.streams m) t (λ st. peer_ends m t))
    (steady_request m ends fields s t (ap is_client (sym role) ∙ e) role h.encoder h.initial)
    (open_or (Steady s) (stream_at t.streams m) t (λ st. peer_ends m t) h (λ st. steady_ends m s t h)))

steady_decoded : (m : ℕ) (ends : Bool) (s : State) (o : Result Progress HpackFault) → Steady s (decoded m ends s o)
steady_decoded m ends s (Ok p) = steady_head m ends p.fields s (record s { block = None; decoder = p.table }) refl (record { role = refl; encoder = refl; initial = refl; opened = λ e. refl })
steady_decoded m ends s (Err e) = same s

steady_block : (f : Frame) (s : State) → Steady s (block_of_headers f s)
unfolding block_of_headers block_grown
steady_block f s =
    either (Steady s) (ends_block f) (decoded f.stream (block_ends s.block f) s (read_block s.decoder (block_with s f))) (block_grown f s)
    (steady_decoded f.stream (block_ends s.block f) s (read_block s.decoder (block_with s f))) (record { role = refl; encoder = refl; initial = refl; opened = λ e. refl })

steady_reset : (f : Frame) (st : Stream) (s : State) → Steady s (reset_of f st s)
unfolding reset_of cut_off
steady_reset f st s =
    either (Steady s) (is_client s.role && (number_at f.payload 0 == 0) && not st.peer_open) (on_stream f.stream shut s) (cut_off f.stream (number_at f.payload 0) st s)
    (record { role = refl; encoder = refl; initial = refl; opened = λ e. refl }) (record { role = refl; encoder = refl; initial = refl; opened = λ e. refl })

steady_all_settings : (f : Frame) (s : State) → AllByRecursion (λ x. (x.0 == 4) ≡ false) (settings_of f.payload) → Steady s (settings f s)
unfolding settings
steady_all_settings f s none =
    either (Steady s) (has f 1) s (reply (spelled 4 1 0 []) (after_settings s (settings_of f.payload))) (same s)
    (steady_reply s (after_settings s (settings_of f.payload)) (spelled 4 1 0 []) (steady_settings s s (settings_of f.payload) none (same s)))

steady_ping : (f : Frame) (s : State) → Steady s (ping f s)
unfolding ping
steady_ping f s = either (Steady s) (has f 1) s (reply (spelled 6 1 0 f.payload) s) (same s) (steady_reply s s (spelled 6 1 0 f.payload) (same s))

steady_goaway : (f : Frame) (s : State) → Steady s (goaway f s)
unfolding goaway
steady_goaway f s = record { role = refl; encoder = refl; initial = refl; opened = λ e. refl }

steady_update : (f : Frame) (s : State) → Steady s (window_update f s)
unfolding window_update
steady_update f s =
    either (Steady s) (f.stream == 0) (record s { send = s.send +ℤ pos (increment_of f.payload) }) (record s { streams = change s.streams f.stream (with_grant (increment_of f.payload)) })
    (record { role = refl; encoder = refl; initial = refl; opened = λ e. refl }) (record { role = refl; encoder = refl; initial = refl; opened = λ e. refl })

steady_effect : (s : State) (f : Frame) → IsPlain f → Steady s (effect s f)
unfolding effect
steady_effect s f plain =
    either (Steady s) (f.kind == 0) (data_of f s (stream_at s.streams f.stream)) _ (steady_data f s (stream_at s.streams f.stream))
    (either (Steady s) ((f.kind == 1) || (f.kind == 9)) (block_of_headers f s) _ (steady_block f s)
    (either (Steady s) (f.kind == 3) (if_open (stream_at s.streams f.stream) s (λ st. reset_of f st s)) _
    (open_or (Steady s) (stream_at s.streams f.stream) s (λ st. reset_of f st s) (same s) (λ st. steady_reset f st s))
    (chosen (Steady s) (f.kind == 4) (settings f s) _ (λ e. steady_all_settings f s (plain.windows e))
    (λ _. either (Steady s) (f.kind == 6) (ping f s) _ (steady_ping f s)
    (either (Steady s) (f.kind == 7) (goaway f s) _ (steady_goaway f s)
    (either (Steady s) (f.kind == 8) (window_update f s) s (steady_update f s) (same s)))))))

-- through a frame that breaks no rule
pub steady_frame : (s : State) (f : Frame) → s.failed ≡ None → verdict s f ≡ None → IsPlain f → Steady s (after_frame s f)
steady_frame s f on v plain =
    let to : after_frame s f ≡ effect (record s { began = true }) f = after_frame-judged s f on ∙ ap (λ o. judged s f o) v in
    let h : Steady (record s { began = true }) (effect (record s { began = true }) f) = steady_effect (record s { began = true }) f plain in
    subst (λ (t : State). Steady s t) (sym to) (record { role = h.role; encoder = h.encoder; initial = h.initial; opened = h.opened })
