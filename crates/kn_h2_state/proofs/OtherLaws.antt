-- What is done to one stream leaves the others alone.
use Rattle.std.proofs.Common.{◌≡◌, ◌≢◌, ℕ, Bool, true, false, not, ◌&&◌, ◌||◌, nat_lt, nat_le, length, List, [], ◌∷◌, ◌++◌, Option, Some, None, is_some, Result, Ok, Err, refl, sym, ap, ◌∙◌, ◌+◌, ◌+ℤ◌, ◌-ℤ◌, pos, if◌then◌else◌}
use Rattle.std.specs.Bool.{◌==◌}
use Rattle.kn_frames.specs.declared.frame.Frame.{Frame}
use Rattle.kn_frames.specs.Frames.{spelled}
use Rattle.kn_hpack.specs.Fields.{Field}
use Rattle.kn_hpack.specs.Encoding.{block_of}
use Rattle.kn_hpack.specs.Blocks.{Progress, read_block}
use Rattle.kn_hpack.specs.declared.fault.HpackFault.{HpackFault}
use Rattle.kn_h2_state.specs.declared.event.H2Event.TheVariants.{Opened, Head, Text, Reset}
use Rattle.kn_h2_state.specs.declared.moves.Move.{Move}
use Rattle.kn_h2_state.specs.declared.moves.Move.TheVariants.{GrantAll, Grant, Send, End, Stop}
use Rattle.kn_h2_state.specs.declared.stream.Stream.{Stream}
use Rattle.kn_h2_state.specs.declared.state.State.{State}
use Rattle.kn_h2_state.specs.Limits.{reply_limit, stream_limit}
use Rattle.kn_h2_state.specs.Outgoing.{reply_bytes, put}
use Rattle.kn_h2_state.specs.Streams.{stream_at, change, is_open, open_count, shut}
use Rattle.kn_h2_state.specs.Payloads.{has, content, number_at, increment_of, settings_of, reset_frame}
use Rattle.kn_h2_state.specs.Heads.{is_malformed_request, is_malformed_response, is_informational}
use Rattle.kn_h2_state.specs.Rules.{is_client, block_with, ends_block, shifted, shifted_one, verdict}
use Rattle.kn_h2_state.specs.Effects.{event, fail, reply, on_stream, peer_ends, if_open, with_text, data_taken, text_told, ended_if, data_in, data_dropped, data_of, new_stream, opens, accepted, request, headed, refused_response, response, head_of, decoded, block_ends, block_grown, block_of_headers, cut_off, reset_of, after_setting, after_settings, settings, ping, goaway, with_grant, window_update, effect}
use Rattle.kn_h2_state.specs.Feeding.{without_blocks, judged, after_frame}
use Rattle.kn_h2_state.specs.Moves.{headers_frames, granted, sent_some, own_ended, stopped, made, target, after_move}
use Rattle.kn_h2_state.specs.Calls.{with_taken, with_queued, with_finish, next_number, after_take, after_begin, after_queue, after_finish, after_answer, after_reset}
use Rattle.kn_h2_state.specs.Laws.{seen, seen_at, FramesLeaveOthers, MovesLeaveOthers, CallsLeaveOthers, BeginsLeaveOthers}
use Rattle.kn_h2_state.proofs.SeenLemmas.{KeepsNumber, IsKeptAt, kept_at, at_change, at_tidied, at_push, seen_map}

-- one way or the other
pub either : (P : State → Type 0) (b : Bool) (x y : State) → P x → P y → P (if b then x else y)
either P true x y p q = p
either P false x y p q = q

-- the stream n is as it was
abbrev Same : ℕ → State → State → Type 0
Same n s t = stream_at t.streams n ≡ stream_at s.streams n

-- it stays kept
kept_on : (n : ℕ) (s t : State) → Same n s t → IsKeptAt s.streams n → IsKeptAt t.streams n
kept_on n s t e k = λ st h. k st (sym e ∙ h)

-- ---- the parts of which effects are made

pub fail_streams : (code : ℕ) (s : State) → (fail code s).streams ≡ s.streams
unfolding fail
fail_streams code s = refl

pub reply_streams : (frame : List ℕ) (s : State) → (reply frame s).streams ≡ s.streams
unfolding reply
reply_streams frame s =
    either (λ t. t.streams ≡ s.streams) (nat_lt reply_limit (reply_bytes s.out + length frame)) (fail 11 s) (record s { out = put s.out true frame }) (fail_streams 11 s) refl

pub same_reply : (n : ℕ) (frame : List ℕ) (s : State) → Same n s (reply frame s)
same_reply n frame s = ap (λ ss. stream_at ss n) (reply_streams frame s)

same_on : (m n : ℕ) (f : Stream → Stream) (s : State) → KeepsNumber f → m ≢ n → IsKeptAt s.streams n → Same n s (on_stream m f s)
same_on m n f s k other kept =
    let changed : stream_at (change s.streams m f) n ≡ stream_at s.streams n = at_change s.streams m n f k other in
    at_tidied (change s.streams m f) n (λ st e. kept st (sym changed ∙ e)) ∙ changed

same_ends : (m n : ℕ) (s : State) → m ≢ n → IsKeptAt s.streams n → Same n s (peer_ends m s)
unfolding peer_ends
same_ends m n s other kept = same_on m n (λ st. record st { peer_open = false }) s (λ st. refl) other kept

same_ended : (ends : Bool) (m n : ℕ) (s : State) → m ≢ n → IsKeptAt s.streams n → Same n s (ended_if ends m s)
same_ended ends m n s other kept = either (Same n s) ends (peer_ends m s) s (same_ends m n s other kept) refl

-- ---- DATA

same_data_in : (f : Frame) (n : ℕ) (s : State) → f.stream ≢ n → IsKeptAt s.streams n → Same n s (data_in f s)
unfolding data_in data_taken
same_data_in f n s other kept =
    let taken : Same n s (data_taken f s) = at_change s.streams f.stream n (with_text (length f.payload) (content f)) (λ st. refl) other in
    let told : Same n s (text_told f.stream (content f) (data_taken f s)) =
    either (Same n s) (length (content f) == 0) (data_taken f s) (event (data_taken f s) (Text f.stream)) taken taken in
    same_ended (has f 1) f.stream n (text_told f.stream (content f) (data_taken f s)) other (kept_on n s (text_told f.stream (content f) (data_taken f s)) told kept) ∙ told

same_data : (f : Frame) (n : ℕ) (s : State) (o : Option Stream) → f.stream ≢ n → IsKeptAt s.streams n → Same n s (data_of f s o)
unfolding data_dropped
same_data f n s None other kept = refl
same_data f n s (Some st) other kept = either (Same n s) (is_open st) (data_in f s) (data_dropped f s) (same_data_in f n s other kept) refl

-- ---- header blocks

same_request : (m n : ℕ) (ends : Bool) (fields : List Field) (s : State) → m ≢ n → IsKeptAt s.streams n → Same n s (request m ends fields s)
unfolding request accepted
same_request m n ends fields s other kept =
    let refused : (code : ℕ) → Same n s (reply (reset_frame m code) (opens m s)) = λ code. same_reply n (reset_frame m code) (opens m s) in
    let pushed : State = event (record s { opened = m; streams = s.streams ++ new_stream m s ∷ [] }) (Opened m fields) in
    let there : Same n s pushed = at_push s.streams n (new_stream m s) other in
    let begun : Same n s (accepted m ends fields s) = same_ended ends m n pushed other (kept_on n s pushed there kept) ∙ there in
    either (Same n s) (nat_le stream_limit (open_count s.streams)) (reply (reset_frame m 7) (opens m s))
    (if is_malformed_request fields then reply (reset_frame m 1) (opens m s) else accepted m ends fields s) (refused 7)
    (either (Same n s) (is_malformed_request fields) (reply (reset_frame m 1) (opens m s)) (accepted m ends fields s) (refused 1) begun)

same_headed : (m n : ℕ) (ends : Bool) (fields : List Field) (s : State) → m ≢ n → IsKeptAt s.streams n → Same n s (headed m ends fields s)
unfolding headed
same_headed m n ends fields s other kept =
    let told : State = event (on_stream m (λ st. record st { answered = true }) s) (Head m fields) in
    let there : Same n s told = same_on m n (λ st. record st { answered = true }) s (λ st. refl) other kept in
    same_ended ends m n told other (kept_on n s told there kept) ∙ there

same_refused : (m n : ℕ) (s : State) → m ≢ n → IsKeptAt s.streams n → Same n s (refused_response m s)
unfolding refused_response
same_refused m n s other kept =
    same_reply n (reset_frame m 1) (event (on_stream m shut s) (Reset m 1)) ∙ same_on m n shut s (λ st. refl) other kept

same_response : (m n : ℕ) (ends : Bool) (fields : List Field) (st : Stream) (s : State) → m ≢ n → IsKeptAt s.streams n → Same n s (response m ends fields st s)
unfolding response
same_response m n ends fields st s other kept =
    either (Same n s) st.answered (peer_ends m s)
    (if is_informational fields && not ends then s else (if is_malformed_response fields || is_informational fields then refused_response m s else headed m ends fields s))
    (same_ends m n s other kept)
    (either (Same n s) (is_informational fields && not ends) s (if is_malformed_response fields || is_informational fields then refused_response m s else headed m ends fields s) refl
    (either (Same n s) (is_malformed_response fields || is_informational fields) (refused_response m s) (headed m ends fields s) (same_refused m n s other kept)
    (same_headed m n ends fields s other kept)))

pub open_or : (P : State → Type 0) (o : Option Stream) (s : State) (next : Stream → State) → P s → ((st : Stream) → P (next st)) → P (if_open o s next)
open_or P None s next p q = p
open_or P (Some st) s next p q = either P (is_open st) (next st) s (q st) p

same_head : (m n : ℕ) (ends : Bool) (fields : List Field) (s : State) → m ≢ n → IsKeptAt s.streams n → Same n s (head_of m ends fields s)
unfolding head_of
same_head m n ends fields s other kept =
    let at_client : Same n s (if_open (stream_at s.streams m) s (λ st. response m ends fields st s)) =
    open_or (Same n s) (stream_at s.streams m) s (λ st. response m ends fields st s) refl (λ st. same_response m n ends fields st s other kept) in
    let trailers : Same n s (if_open (stream_at s.streams m) s (λ st. peer_ends m s)) =
    open_or (Same n s) (stream_at s.streams m) s (λ st. peer_ends m s) refl (λ st. same_ends m n s other kept) in
    either (Same n s) (is_client s.role) (if_open (stream_at s.streams m) s (λ st. response m ends fields st s))
    (if nat_lt s.opened m then request m ends fields s else if_open (stream_at s.streams m) s (λ st. peer_ends m s)) at_client
    (either (Same n s) (nat_lt s.opened m) (request m ends fields s) (if_open (stream_at s.streams m) s (λ st. peer_ends m s)) (same_request m n ends fields s other kept) trailers)

same_decoded : (m n : ℕ) (ends : Bool) (s : State) (r : Result Progress HpackFault) → m ≢ n → IsKeptAt s.streams n → Same n s (decoded m ends s r)
same_decoded m n ends s (Ok p) other kept = same_head m n ends p.fields (record s { block = None; decoder = p.table }) other kept
same_decoded m n ends s (Err e) other kept = refl

same_block : (f : Frame) (n : ℕ) (s : State) → f.stream ≢ n → IsKeptAt s.streams n → Same n s (block_of_headers f s)
unfolding block_of_headers block_grown
same_block f n s other kept =
    either (Same n s) (ends_block f) (decoded f.stream (block_ends s.block f) s (read_block s.decoder (block_with s f))) (block_grown f s)
    (same_decoded f.stream n (block_ends s.block f) s (read_block s.decoder (block_with s f)) other kept) refl

-- ---- the other frames

pub same_reset : (f : Frame) (n : ℕ) (st : Stream) (s : State) → f.stream ≢ n → IsKeptAt s.streams n → Same n s (reset_of f st s)
unfolding reset_of cut_off
same_reset f n st s other kept =
    either (Same n s) (is_client s.role && (number_at f.payload 0 == 0) && not st.peer_open) (on_stream f.stream shut s) (cut_off f.stream (number_at f.payload 0) st s)
    (same_on f.stream n shut s (λ x. refl) other kept) (same_on f.stream n (λ x. record (shut x) { text = [] }) s (λ x. refl) other kept)

same_update : (f : Frame) (n : ℕ) (s : State) → f.stream ≢ n → Same n s (window_update f s)
unfolding window_update
same_update f n s other =
    either (Same n s) (f.stream == 0) (record s { send = s.send +ℤ pos (increment_of f.payload) })
    (record s { streams = change s.streams f.stream (with_grant (increment_of f.payload)) }) refl
    (at_change s.streams f.stream n (with_grant (increment_of f.payload)) number other)
  where
    number : KeepsNumber (with_grant (increment_of f.payload))
    number st = by_open (is_open st)
      where
        by_open : (b : Bool) → (if b then record st { send = st.send +ℤ pos (increment_of f.payload) } else st).number ≡ st.number
        by_open true = refl
        by_open false = refl

-- the stream n is seen as it was
abbrev Alike : ℕ → State → State → Type 0
Alike n s t = seen_at t n ≡ seen_at s n

alike : (n : ℕ) (s t : State) → Same n s t → Alike n s t
alike n s t e = ap seen e

pub shifted_number : (old new : ℕ) → KeepsNumber (shifted_one old new)
shifted_number old new st = by_open (is_open st)
  where
    by_open : (b : Bool) → (if b then record st { send = st.send +ℤ (pos new -ℤ pos old) } else st).number ≡ st.number
    by_open true = refl
    by_open false = refl

pub shifted_seen : (old new : ℕ) (st : Stream) → seen (Some (shifted_one old new st)) ≡ seen (Some st)
shifted_seen old new st = by_open (is_open st)
  where
    by_open : (b : Bool) → seen (Some (if b then record st { send = st.send +ℤ (pos new -ℤ pos old) } else st)) ≡ seen (Some st)
    by_open true = refl
    by_open false = refl

alike_setting : (n : ℕ) (s : State) (x : ℕ × ℕ) → Alike n s (after_setting s x)
unfolding after_setting
alike_setting n s x =
    either (Alike n s) (x.0 == 4) (record s { initial = x.1; streams = shifted s.initial x.1 s.streams }) (if x.0 == 3 then record s { most = Some x.1 } else s)
    (seen_map s.streams n (shifted_one s.initial x.1) (shifted_number s.initial x.1) (shifted_seen s.initial x.1))
    (either (Alike n s) (x.0 == 3) (record s { most = Some x.1 }) s refl refl)

alike_settings : (n : ℕ) (s : State) (xs : List (ℕ × ℕ)) → Alike n s (after_settings s xs)
unfolding after_settings
alike_settings n s [] = refl
alike_settings n s (x ∷ xs) = alike_settings n (after_setting s x) xs ∙ alike_setting n s x

pub alike_all_settings : (f : Frame) (n : ℕ) (s : State) → Alike n s (settings f s)
unfolding settings
alike_all_settings f n s =
    either (Alike n s) (has f 1) s (reply (spelled 4 1 0 []) (after_settings s (settings_of f.payload))) refl
    (alike n (after_settings s (settings_of f.payload)) (reply (spelled 4 1 0 []) (after_settings s (settings_of f.payload)))
    (same_reply n (spelled 4 1 0 []) (after_settings s (settings_of f.payload))) ∙ alike_settings n s (settings_of f.payload))

pub same_ping : (f : Frame) (n : ℕ) (s : State) → stream_at (ping f s).streams n ≡ stream_at s.streams n
unfolding ping
same_ping f n s = either (Same n s) (has f 1) s (reply (spelled 6 1 0 f.payload) s) refl (same_reply n (spelled 6 1 0 f.payload) s)

pub same_goaway : (f : Frame) (n : ℕ) (s : State) → stream_at (goaway f s).streams n ≡ stream_at s.streams n
unfolding goaway
same_goaway f n s = refl

-- what holds of each kind's effect holds of a frame's
pub by_kind : (P : State → Type 0) (s : State) (f : Frame) → ((f.kind == 0) ≡ true → P (data_of f s (stream_at s.streams f.stream)))
    → P (block_of_headers f s) → ((f.kind == 3) ≡ true → P (if_open (stream_at s.streams f.stream) s (λ st. reset_of f st s)))
    → P (settings f s) → P (ping f s) → P (goaway f s) → P (window_update f s) → P s → P (effect s f)
unfolding effect
by_kind P s f a b c d e g h i =
    chosen (f.kind == 0) refl (data_of f s (stream_at s.streams f.stream)) _ a
    (either P ((f.kind == 1) || (f.kind == 9)) (block_of_headers f s) _ b
    (chosen (f.kind == 3) refl (if_open (stream_at s.streams f.stream) s (λ st. reset_of f st s)) _ c
    (either P (f.kind == 4) (settings f s) _ d
    (either P (f.kind == 6) (ping f s) _ e
    (either P (f.kind == 7) (goaway f s) _ g
    (either P (f.kind == 8) (window_update f s) s h i))))))
  where
    chosen : (b : Bool) → b ≡ b → (x y : State) → (b ≡ true → P x) → P y → P (if b then x else y)
    chosen true t x y p q = p refl
    chosen false t x y p q = q

alike_effect : (s : State) (f : Frame) (n : ℕ) → IsKeptAt s.streams n → f.stream ≢ n → Alike n s (effect s f)
alike_effect s f n kept other =
    by_kind (Alike n s) s f
    (λ _. alike n s (data_of f s (stream_at s.streams f.stream)) (same_data f n s (stream_at s.streams f.stream) other kept))
    (alike n s (block_of_headers f s) (same_block f n s other kept))
    (λ _. open_or (Alike n s) (stream_at s.streams f.stream) s (λ st. reset_of f st s) refl (λ st. alike n s (reset_of f st s) (same_reset f n st s other kept)))
    (alike_all_settings f n s)
    (alike n s (ping f s) (same_ping f n s))
    (alike n s (goaway f s) (same_goaway f n s))
    (alike n s (window_update f s) (same_update f n s other))
    refl

pub frames_leave_others : FramesLeaveOthers
unfolding after_frame
frames_leave_others s f n h other = either (Alike n s) (is_some s.failed) s (judged s f (verdict s f)) refl (by_verdict (verdict s f))
  where
    kept : IsKeptAt s.streams n
    kept = kept_at s.streams n h.kept

    by_verdict : (o : Option ℕ) → Alike n s (judged s f o)
    by_verdict (Some code) = alike n s (fail code (without_blocks s)) (ap (λ ss. stream_at ss n) (fail_streams code (without_blocks s)))
    by_verdict None = alike_effect (record s { began = true }) f n kept other

-- ---- moves and calls

pub moves_leave_others : MovesLeaveOthers
unfolding after_move
moves_leave_others s m n h other = by_move m (stream_at s.streams (target m)) other
  where
    kept : IsKeptAt s.streams n
    kept = kept_at s.streams n h.kept

    by_move : (k : Move) (o : Option Stream) → target k ≢ n → Same n s (made s k o)
    by_move GrantAll o other' = refl
    by_move (Grant k) None other' = refl
    by_move (Grant k) (Some st) other' = at_change s.streams k n granted (λ x. refl) other'
    by_move (Send k count) None other' = refl
    by_move (Send k count) (Some st) other' = at_change s.streams k n (sent_some count) (λ x. refl) other'
    by_move (End k) None other' = refl
    by_move (End k) (Some st) other' = same_on k n (own_ended (not (is_client s.role))) s (λ x. refl) other' kept
    by_move (Stop k) None other' = refl
    by_move (Stop k) (Some st) other' = same_on k n stopped s (λ x. refl) other' kept

pub calls_leave_others : CallsLeaveOthers
unfolding after_take after_queue after_finish after_answer after_reset
calls_leave_others s m n h other =
    let kept : IsKeptAt s.streams n = kept_at s.streams n h.kept in
    record {
      take = λ count. same_on m n (with_taken count) s (λ x. refl) other kept;
      queue = λ bytes. at_change s.streams m n (with_queued bytes) (λ x. refl) other;
      finish = λ trailers. at_change s.streams m n (with_finish trailers) (λ x. refl) other;
      answer = λ fields. same_reply n (headers_frames m 0 (block_of s.encoder fields)) (record s { streams = change s.streams m (λ st. record st { answered = true }); encoder = true })
          ∙ at_change s.streams m n (λ st. record st { answered = true }) (λ x. refl) other;
      reset = λ code. same_reply n (reset_frame m code) (on_stream m shut s) ∙ same_on m n shut s (λ x. refl) other kept;
    }

pub begins_leave_others : BeginsLeaveOthers
unfolding after_begin
begins_leave_others s fields n other = at_push s.streams n (new_stream (next_number s) s) other
