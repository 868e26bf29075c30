-- What a frame of the peer is answered with.
use Rattle.std.proofs.Common.{◌≡◌, ℕ, Bool, true, not, ◌&&◌, ◌||◌, nat_lt, nat_le, length, List, [], ◌∷◌, ◌++◌, Option, Some, None, is_some, Result, Ok, Err, refl, sym, ap, ◌∙◌, ◌+◌, ◌<◌, ◌≤◌, ◌+ℤ◌, pos, append-nil, arith, if◌then◌else◌}
use Rattle.std.specs.Bool.{◌==◌}
use Rattle.std.specs.Int.{to_be_bytes, w32}
use Rattle.kn_frames.specs.declared.frame.Frame.{Frame}
use Rattle.kn_frames.specs.Frames.{spelled, IsWithinLimits}
use Rattle.kn_hpack.specs.Fields.{Field}
use Rattle.kn_hpack.specs.Blocks.{Progress, read_block}
use Rattle.kn_hpack.specs.declared.fault.HpackFault.{HpackFault}
use Rattle.kn_h2_state.specs.declared.event.H2Event.TheVariants.{Opened, Head, Text, Reset}
use Rattle.kn_h2_state.specs.declared.stream.Stream.{Stream}
use Rattle.kn_h2_state.specs.declared.state.State.{State}
use Rattle.kn_h2_state.specs.Limits.{reply_limit, stream_limit}
use Rattle.kn_h2_state.specs.Outgoing.{Out, put, reply_bytes}
use Rattle.kn_h2_state.specs.Streams.{stream_at, change, is_open, open_count, shut}
use Rattle.kn_h2_state.specs.Payloads.{has, content, number_at, increment_of, settings_of, reset_frame, goaway_frame}
use Rattle.kn_h2_state.specs.Heads.{is_malformed_request, is_malformed_response, is_informational}
use Rattle.kn_h2_state.specs.Rules.{is_client, block_with, ends_block, shifted, verdict}
use Rattle.kn_h2_state.specs.Effects.{event, highest_of_peer, fail, reply, on_stream, peer_ends, if_open, data_taken, text_told, ended_if, data_in, data_dropped, data_of, new_stream, opens, accepted, request, headed, refused_response, response, head_of, decoded, block_ends, block_grown, block_of_headers, cut_off, reset_of, after_setting, after_settings, settings, ping, goaway, with_grant, window_update, effect}
use Rattle.kn_h2_state.specs.Feeding.{without_blocks, judged, after_frame}
use Rattle.kn_h2_state.specs.Wire.{frame, spellings, IsAnswer, Answers, FramesAreAnswered}
use Rattle.kn_h2_state.proofs.OtherLaws.{either, open_or, by_kind}

-- nothing is written
silent : (s t : State) → t.out ≡ s.out → Answers s t
unfolding spellings
silent s t e = record { frames = []; written = ap (λ (o : Out). o.bytes) e ∙ sym (append-nil s.out.bytes); answers = tt }

-- one frame is
one : (s t : State) (g : Frame) → t.out.bytes ≡ s.out.bytes ++ spelled g.kind g.flags g.stream g.payload → IsAnswer g → Answers s t
unfolding spellings
one s t g e a = record {
  frames = g ∷ [];
  written = e ∙ ap (λ xs. s.out.bytes ++ xs) (sym (append-nil (spelled g.kind g.flags g.stream g.payload)));
  answers = (a, tt);
}

answer_fail : (code : ℕ) (s t : State) → t.out ≡ s.out → Answers s (fail code t)
unfolding fail
answer_fail code s t e =
    one s (fail code t) (frame 7 0 0 (to_be_bytes w32 (highest_of_peer t) ++ to_be_bytes w32 code))
    (ap (λ (o : Out). o.bytes ++ goaway_frame (highest_of_peer t) code) e)
    (record { limits = record { payload = omega (arith, long); stream = omega arith }; kind = refl })
  where
    long : length (to_be_bytes w32 (highest_of_peer t) ++ to_be_bytes w32 code) ≡ 8
    long = refl

answer_reply : (s t : State) (g : Frame) → t.out ≡ s.out → IsAnswer g → Answers s (reply (spelled g.kind g.flags g.stream g.payload) t)
unfolding reply
answer_reply s t g e a =
    either (Answers s) (nat_lt reply_limit (reply_bytes t.out + length (spelled g.kind g.flags g.stream g.payload))) (fail 11 t)
    (record t { out = put t.out true (spelled g.kind g.flags g.stream g.payload) })
    (answer_fail 11 s t e)
    (one s (record t { out = put t.out true (spelled g.kind g.flags g.stream g.payload) }) g (ap (λ (o : Out). o.bytes ++ spelled g.kind g.flags g.stream g.payload) e) a)

is_reset : (n code : ℕ) → n < 2147483648 → IsAnswer (frame 3 0 n (to_be_bytes w32 code))
is_reset n code low = record { limits = record { payload = omega (arith, long); stream = low }; kind = refl }
  where
    long : length (to_be_bytes w32 code) ≡ 4
    long = refl

answer_reset : (n code : ℕ) (s t : State) → n < 2147483648 → t.out ≡ s.out → Answers s (reply (reset_frame n code) t)
answer_reset n code s t low e = answer_reply s t (frame 3 0 n (to_be_bytes w32 code)) e (is_reset n code low)

-- ---- what leaves what waits for the socket as it is

ends_out : (m : ℕ) (s : State) → (peer_ends m s).out ≡ s.out
unfolding peer_ends
ends_out m s = refl

ended_out : (ends : Bool) (m : ℕ) (s : State) → (ended_if ends m s).out ≡ s.out
ended_out ends m s = either (λ t. t.out ≡ s.out) ends (peer_ends m s) s (ends_out m s) refl

data_out : (f : Frame) (s : State) (o : Option Stream) → (data_of f s o).out ≡ s.out
unfolding data_in data_taken data_dropped
data_out f s None = refl
data_out f s (Some st) =
    either (λ t. t.out ≡ s.out) (is_open st) (data_in f s) (data_dropped f s)
    (ended_out (has f 1) f.stream (text_told f.stream (content f) (data_taken f s))
    ∙ either (λ t. t.out ≡ s.out) (length (content f) == 0) (data_taken f s) (event (data_taken f s) (Text f.stream)) refl refl)
    refl

setting_out : (s : State) (x : ℕ × ℕ) → (after_setting s x).out ≡ s.out
unfolding after_setting
setting_out s x =
    either (λ t. t.out ≡ s.out) (x.0 == 4) (record s { initial = x.1; streams = shifted s.initial x.1 s.streams }) (if x.0 == 3 then record s { most = Some x.1 } else s) refl
    (either (λ t. t.out ≡ s.out) (x.0 == 3) (record s { most = Some x.1 }) s refl refl)

settings_out : (s : State) (xs : List (ℕ × ℕ)) → (after_settings s xs).out ≡ s.out
unfolding after_settings
settings_out s [] = refl
settings_out s (x ∷ xs) = settings_out (after_setting s x) xs ∙ setting_out s x

-- ---- effects

answer_request : (m : ℕ) (ends : Bool) (fields : List Field) (s t : State) → m < 2147483648 → t.out ≡ s.out → Answers s (request m ends fields t)
unfolding request accepted
answer_request m ends fields s t low e =
    let begun : Answers s (accepted m ends fields t) =
    silent s (accepted m ends fields t) (ended_out ends m (event (record t { opened = m; streams = t.streams ++ new_stream m t ∷ [] }) (Opened m fields)) ∙ e) in
    either (Answers s) (nat_le stream_limit (open_count t.streams)) (reply (reset_frame m 7) (opens m t))
    (if is_malformed_request fields then reply (reset_frame m 1) (opens m t) else accepted m ends fields t)
    (answer_reset m 7 s (opens m t) low e)
    (either (Answers s) (is_malformed_request fields) (reply (reset_frame m 1) (opens m t)) (accepted m ends fields t) (answer_reset m 1 s (opens m t) low e) begun)

answer_response : (m : ℕ) (ends : Bool) (fields : List Field) (st : Stream) (s t : State) → m < 2147483648 → t.out ≡ s.out → Answers s (response m ends fields st t)
unfolding response refused_response headed
answer_response m ends fields st s t low e =
    either (Answers s) st.answered (peer_ends m t)
    (if is_informational fields && not ends then t else (if is_malformed_response fields || is_informational fields then refused_response m t else headed m ends fields t))
    (silent s (peer_ends m t) (ends_out m t ∙ e))
    (either (Answers s) (is_informational fields && not ends) t (if is_malformed_response fields || is_informational fields then refused_response m t else headed m ends fields t) (silent s t e)
    (either (Answers s) (is_malformed_response fields || is_informational fields) (refused_response m t) (headed m ends fields t)
    (answer_reset m 1 s (event (on_stream m shut t) (Reset m 1)) low e)
    (silent s (headed m ends fields t) (ended_out ends m (event (on_stream m (λ x. record x { answered = true }) t) (Head m fields)) ∙ e))))

answer_head : (m : ℕ) (ends : Bool) (fields : List Field) (s t : State) → m < 2147483648 → t.out ≡ s.out → Answers s (head_of m ends fields t)
unfolding head_of
answer_head m ends fields s t low e =
    let at_client : Answers s (if_open (stream_at t.streams m) t (λ st. response m ends fields st t)) =
    open_or (Answers s) (stream_at t.streams m) t (λ st. response m ends fields st t) (silent s t e) (λ st. answer_response m ends fields st s t low e) in
    let trailers : Answers s (if_open (stream_at t.streams m) t (λ st. peer_ends m t)) =
    open_or (Answers s) (stream_at t.streams m) t (λ st. peer_ends m t) (silent s t e) (λ st. silent s (peer_ends m t) (ends_out m t ∙ e)) in
    either (Answers s) (is_client t.role) (if_open (stream_at t.streams m) t (λ st. response m ends fields st t))
    (if nat_lt t.opened m then request m ends fields t else if_open (stream_at t.streams m) t (λ st. peer_ends m t)) at_client
    (either (Answers s) (nat_lt t.opened m) (request m ends fields t) (if_open (stream_at t.streams m) t (λ st. peer_ends m t)) (answer_request m ends fields s t low e) trailers)

answer_decoded : (m : ℕ) (ends : Bool) (s : State) (o : Result Progress HpackFault) → m < 2147483648 → Answers s (decoded m ends s o)
answer_decoded m ends s (Ok p) low = answer_head m ends p.fields s (record s { block = None; decoder = p.table }) low refl
answer_decoded m ends s (Err e) low = silent s s refl

answer_block : (f : Frame) (s : State) → f.stream < 2147483648 → Answers s (block_of_headers f s)
unfolding block_of_headers block_grown
answer_block f s low =
    either (Answers s) (ends_block f) (decoded f.stream (block_ends s.block f) s (read_block s.decoder (block_with s f))) (block_grown f s)
    (answer_decoded f.stream (block_ends s.block f) s (read_block s.decoder (block_with s f)) low) (silent s (block_grown f s) refl)

answer_reset_of : (f : Frame) (st : Stream) (s : State) → Answers s (reset_of f st s)
unfolding reset_of cut_off
answer_reset_of f st s =
    either (Answers s) (is_client s.role && (number_at f.payload 0 == 0) && not st.peer_open) (on_stream f.stream shut s) (cut_off f.stream (number_at f.payload 0) st s)
    (silent s (on_stream f.stream shut s) refl) (silent s (cut_off f.stream (number_at f.payload 0) st s) refl)

answer_settings : (f : Frame) (s : State) → Answers s (settings f s)
unfolding settings
answer_settings f s =
    either (Answers s) (has f 1) s (reply (spelled 4 1 0 []) (after_settings s (settings_of f.payload))) (silent s s refl)
    (answer_reply s (after_settings s (settings_of f.payload)) (frame 4 1 0 []) (settings_out s (settings_of f.payload))
    (record { limits = record { payload = omega arith; stream = omega arith }; kind = refl }))

answer_ping : (f : Frame) (s : State) → length f.payload ≤ 16384 → Answers s (ping f s)
unfolding ping
answer_ping f s small =
    either (Answers s) (has f 1) s (reply (spelled 6 1 0 f.payload) s) (silent s s refl)
    (answer_reply s s (frame 6 1 0 f.payload) refl (record { limits = record { payload = small; stream = omega arith }; kind = refl }))

answer_goaway : (f : Frame) (s : State) → Answers s (goaway f s)
unfolding goaway
answer_goaway f s = silent s (goaway f s) refl

answer_update : (f : Frame) (s : State) → Answers s (window_update f s)
unfolding window_update
answer_update f s =
    either (Answers s) (f.stream == 0) (record s { send = s.send +ℤ pos (increment_of f.payload) })
    (record s { streams = change s.streams f.stream (with_grant (increment_of f.payload)) })
    (silent s (record s { send = s.send +ℤ pos (increment_of f.payload) }) refl)
    (silent s (record s { streams = change s.streams f.stream (with_grant (increment_of f.payload)) }) refl)

answer_effect : (s : State) (f : Frame) → IsWithinLimits f → Answers s (effect s f)
answer_effect s f l =
    by_kind (Answers s) s f
    (λ _. silent s (data_of f s (stream_at s.streams f.stream)) (data_out f s (stream_at s.streams f.stream)))
    (answer_block f s l.stream)
    (λ _. open_or (Answers s) (stream_at s.streams f.stream) s (λ st. reset_of f st s) (silent s s refl) (λ st. answer_reset_of f st s))
    (answer_settings f s)
    (answer_ping f s l.payload)
    (answer_goaway f s)
    (answer_update f s)
    (silent s s refl)

pub frames_are_answered : FramesAreAnswered
unfolding after_frame
frames_are_answered s f l = either (Answers s) (is_some s.failed) s (judged s f (verdict s f)) (silent s s refl) (by_verdict (verdict s f))
  where
    by_verdict : (o : Option ℕ) → Answers s (judged s f o)
    by_verdict (Some code) = answer_fail code s (without_blocks s) refl
    by_verdict None =
        let a : Answers (record s { began = true }) (effect (record s { began = true }) f) = answer_effect (record s { began = true }) f l in
        record { frames = a.frames; written = a.written; answers = a.answers }
