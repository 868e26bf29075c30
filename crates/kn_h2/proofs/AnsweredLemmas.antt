-- What a frame of the peer is answered with, frame by frame.
use Rattle.std.proofs.Common.{◌≡◌, ◌≢◌, ◌⊎◌, inl, inr, ℕ, pos, ◌+ℤ◌, ◌<◌, ◌≤◌, Bool, true, false, not, ◌&&◌, ◌||◌, cond, eqb, leb, ltb, List, [], ◌∷◌, ◌++◌, length, Option, Some, None, is_some, Result, Ok, Err, refl, sym, ap, ◌∙◌, subst, arith}
use Rattle.std.specs.Int.{to_be_bytes, w32}
use Rattle.std.specs.List.{AllByRecursion}
use Rattle.std.proofs.lemmas.Bool.{eqb-true, ne_eqb}
use Rattle.kn_frames.specs.declared.frame.Frame.{Frame}
use Rattle.kn_frames.specs.declared.fault.FrameFault.{FrameFault}
use Rattle.kn_frames.specs.Frames.{spelled, IsWithinLimits}
use Rattle.kn_frames.specs.Readers.{frames_in, after_bytes, fault_in}
use Rattle.kn_hpack.specs.Fields.{Field}
use Rattle.kn_hpack.specs.Blocks.{Progress, read_block}
use Rattle.kn_hpack.specs.declared.fault.HpackFault.{HpackFault}
use Rattle.kn_h2_state.specs.declared.event.H2Event.TheVariants.{Opened, Head, Text, Reset}
use Rattle.kn_h2_state.specs.declared.stream.Stream.{Stream}
use Rattle.kn_h2_state.specs.declared.state.State.{State}
use Rattle.kn_h2_state.specs.Limits.{stream_limit}
use Rattle.kn_h2_state.specs.Outgoing.{Out}
use Rattle.kn_h2_state.specs.Streams.{stream_at, change, is_open, open_count, shut}
use Rattle.kn_h2_state.specs.Payloads.{has, content, number_at, increment_of, settings_of, reset_frame, goaway_frame}
use Rattle.kn_h2_state.specs.Heads.{is_malformed_request, is_malformed_response, is_informational}
use Rattle.kn_h2_state.specs.Rules.{is_client, block_with, ends_block, shifted, verdict}
use Rattle.kn_h2_state.specs.Effects.{event, highest_of_peer, fail, reply, on_stream, peer_ends, if_open, data_taken, text_told, ended_if, data_in, data_dropped, data_of, new_stream, opens, accepted, request, headed, refused_response, response, head_of, decoded, block_ends, block_grown, block_of_headers, cut_off, reset_of, after_setting, after_settings, settings, ping, goaway, with_grant, window_update, effect}
use Rattle.kn_h2_state.specs.Feeding.{Connection, without_blocks, judged, after_frame, after_frames, after_fault, frame_code, after_piece}
use Rattle.kn_h2_state.specs.Wire.{frame, frame_text, frame_grant, data_length, is_end, ends_in, spellings, WrittenIsRead}
use Rattle.kn_h2.specs.Written.{Writes, is_flooded, goaway_list, replied, reset_list, once}
use Rattle.kn_h2.specs.Answered.{request_answer, response_answer, response_answer_at, head_answer, decoded_answer, kept_answer, judged_answer, frame_answer, FramesWrite, AnswersBring, frames_answer, fault_answer, piece_answer, PiecesWrite, PiecesBring}
use Rattle.kn_h2.proofs.WrittenLemmas.{spellings-one, none_written, written_on, goaway_within, reply_written, reset_within}
use Rattle.kn_h2.proofs.CarriedLemmas.{Sums, ends-append, sums_on, brings, no_end, one_more, none, reset_sums, goaway_sums}

-- ---- by a test

both : (s : State) (b : Bool) (x y : State) (fs gs : List Frame) → Writes s x fs → Writes s y gs → Writes s (cond b x y) (cond b fs gs)
both s true x y fs gs p q = p
both s false x y fs gs p q = q

-- nothing is written either way
quiet : (s : State) (b : Bool) (x y : State) → Writes s x [] → Writes s y [] → Writes s (cond b x y) []
quiet s true x y p q = p
quiet s false x y p q = q

same_out : (b : Bool) (x y s : State) → x.out ≡ s.out → y.out ≡ s.out → (cond b x y).out ≡ s.out
same_out true x y s p q = p
same_out false x y s p q = q

-- ---- what leaves what waits for the socket as it is

ends_out : (m : ℕ) (s : State) → (peer_ends m s).out ≡ s.out
unfolding peer_ends
ends_out m s = refl

ended_out : (ends : Bool) (m : ℕ) (s : State) → (ended_if ends m s).out ≡ s.out
ended_out ends m s = same_out ends (peer_ends m s) s s (ends_out m s) refl

data_out : (f : Frame) (s : State) (o : Option Stream) → (data_of f s o).out ≡ s.out
unfolding data_in data_taken data_dropped
data_out f s None = refl
data_out f s (Some st) =
    same_out (is_open st) (data_in f s) (data_dropped f s) s
    (ended_out (has f 1) f.stream (text_told f.stream (content f) (data_taken f s))
    ∙ same_out (eqb (length (content f)) 0) (data_taken f s) (event (data_taken f s) (Text f.stream)) s refl refl)
    refl

-- neither the bytes that wait nor the highest stream change with a setting
record Stays (s t : State) : Type 0 where
  out : t.out ≡ s.out
  highest : highest_of_peer t ≡ highest_of_peer s

setting_stays : (s t : State) (x : ℕ × ℕ) → Stays s t → Stays s (after_setting t x)
unfolding after_setting
setting_stays s t x h = by_test (eqb x.0 4) (eqb x.0 3)
  where
    by_test : (a b : Bool) → Stays s (cond a (record t { initial = x.1; streams = shifted t.initial x.1 t.streams }) (cond b (record t { most = Some x.1 }) t))
    by_test true b = record { out = h.out; highest = h.highest }
    by_test false true = record { out = h.out; highest = h.highest }
    by_test false false = h

settings_stay : (s t : State) (xs : List (ℕ × ℕ)) → Stays s t → Stays s (after_settings t xs)
unfolding after_settings
settings_stay s t [] h = h
settings_stay s t (x ∷ xs) h = settings_stay s (after_setting t x) xs (setting_stays s t x h)

-- ---- header blocks

reset_replied : (s t : State) (n code : ℕ) → n < 2147483648 → t.out ≡ s.out → highest_of_peer t ≡ highest_of_peer s → Writes s (reply (reset_frame n code) t) (replied s (reset_list n code))
reset_replied s t n code low e h =
    subst (λ (xs : List ℕ). Writes s (reply xs t) (replied s (reset_list n code))) (sym (spellings-one (frame 3 0 n (to_be_bytes w32 code)))) (reply_written s t (reset_list n code) e h (reset_within n code low, tt))

-- from another state with the same bytes that wait
from : (s t u : State) (fs : List Frame) → t.out ≡ s.out → Writes t u fs → Writes s u fs
from s t u fs e w = record { written = w.written ∙ ap (λ (o : Out). o.bytes ++ spellings fs) e; limits = w.limits }

request_written : (n : ℕ) (ends : Bool) (fields : List Field) (s : State) → n < 2147483648 → Writes s (request n ends fields s) (request_answer n fields s)
unfolding request accepted
request_written n ends fields s low =
    both s (leb stream_limit (open_count s.streams)) (reply (reset_frame n 7) (opens n s)) (cond (is_malformed_request fields) (reply (reset_frame n 1) (opens n s)) (accepted n ends fields s))
    (replied (opens n s) (reset_list n 7)) (cond (is_malformed_request fields) (replied (opens n s) (reset_list n 1)) [])
    (refused 7)
    (both s (is_malformed_request fields) (reply (reset_frame n 1) (opens n s)) (accepted n ends fields s) (replied (opens n s) (reset_list n 1)) [] (refused 1)
    (none_written s (accepted n ends fields s) (ended_out ends n (event (record s { opened = n; streams = s.streams ++ new_stream n s ∷ [] }) (Opened n fields)))))
  where
    refused : (code : ℕ) → Writes s (reply (reset_frame n code) (opens n s)) (replied (opens n s) (reset_list n code))
    refused code = from s (opens n s) (reply (reset_frame n code) (opens n s)) (replied (opens n s) (reset_list n code)) refl (reset_replied (opens n s) (opens n s) n code low refl refl)

response_written : (n : ℕ) (ends : Bool) (fields : List Field) (st : Stream) (s : State) → n < 2147483648 → Writes s (response n ends fields st s) (response_answer n ends fields st s)
unfolding response refused_response headed
response_written n ends fields st s low =
    both s st.answered (peer_ends n s) (cond (is_informational fields && not ends) s (cond (is_malformed_response fields || is_informational fields) (refused_response n s) (headed n ends fields s)))
    [] (cond (is_informational fields && not ends) [] (cond (is_malformed_response fields || is_informational fields) (replied s (reset_list n 1)) []))
    (none_written s (peer_ends n s) (ends_out n s))
    (both s (is_informational fields && not ends) s (cond (is_malformed_response fields || is_informational fields) (refused_response n s) (headed n ends fields s))
    [] (cond (is_malformed_response fields || is_informational fields) (replied s (reset_list n 1)) [])
    (none_written s s refl)
    (both s (is_malformed_response fields || is_informational fields) (refused_response n s) (headed n ends fields s) (replied s (reset_list n 1)) []
    (reset_replied s (event (on_stream n shut s) (Reset n 1)) n 1 low refl refl)
    (none_written s (headed n ends fields s) (ended_out ends n (event (on_stream n (λ x. record x { answered = true }) s) (Head n fields))))))

response_at : (n : ℕ) (ends : Bool) (fields : List Field) (s : State) (o : Option Stream) → n < 2147483648 → Writes s (if_open o s (λ st. response n ends fields st s)) (response_answer_at n ends fields o s)
response_at n ends fields s None low = none_written s s refl
response_at n ends fields s (Some st) low = both s (is_open st) (response n ends fields st s) s (response_answer n ends fields st s) [] (response_written n ends fields st s low) (none_written s s refl)

trailers_at : (n : ℕ) (s : State) (o : Option Stream) → Writes s (if_open o s (λ st. peer_ends n s)) []
trailers_at n s None = none_written s s refl
trailers_at n s (Some st) = quiet s (is_open st) (peer_ends n s) s (none_written s (peer_ends n s) (ends_out n s)) (none_written s s refl)

head_written : (n : ℕ) (ends : Bool) (fields : List Field) (s : State) → n < 2147483648 → Writes s (head_of n ends fields s) (head_answer n ends fields s)
unfolding head_of
head_written n ends fields s low =
    both s (is_client s.role) (if_open (stream_at s.streams n) s (λ st. response n ends fields st s)) (cond (ltb s.opened n) (request n ends fields s) (if_open (stream_at s.streams n) s (λ st. peer_ends n s)))
    (response_answer_at n ends fields (stream_at s.streams n) s) (cond (ltb s.opened n) (request_answer n fields s) [])
    (response_at n ends fields s (stream_at s.streams n) low)
    (both s (ltb s.opened n) (request n ends fields s) (if_open (stream_at s.streams n) s (λ st. peer_ends n s)) (request_answer n fields s) [] (request_written n ends fields s low) (trailers_at n s (stream_at s.streams n)))

-- the answer does not look at the block under way, the decoder, or whether the connection began
response_decoded : (n : ℕ) (ends : Bool) (fields : List Field) (s : State) (p : Progress) (o : Option Stream) → response_answer_at n ends fields o (record s { block = None; decoder = p.table }) ≡ response_answer_at n ends fields o s
response_decoded n ends fields s p None = refl
response_decoded n ends fields s p (Some st) = refl

head_decoded : (n : ℕ) (ends : Bool) (fields : List Field) (s : State) (p : Progress) → head_answer n ends fields (record s { block = None; decoder = p.table }) ≡ head_answer n ends fields s
head_decoded n ends fields s p = ap (λ (fs : List Frame). cond (is_client s.role) fs (cond (ltb s.opened n) (request_answer n fields s) [])) (response_decoded n ends fields s p (stream_at s.streams n))

response_begun : (n : ℕ) (ends : Bool) (fields : List Field) (s : State) (o : Option Stream) → response_answer_at n ends fields o (record s { began = true }) ≡ response_answer_at n ends fields o s
response_begun n ends fields s None = refl
response_begun n ends fields s (Some st) = refl

decoded_begun : (n : ℕ) (ends : Bool) (s : State) (o : Result Progress HpackFault) → decoded_answer n ends (record s { began = true }) o ≡ decoded_answer n ends s o
decoded_begun n ends s (Ok p) = ap (λ (fs : List Frame). cond (is_client s.role) fs (cond (ltb s.opened n) (request_answer n p.fields s) [])) (response_begun n ends p.fields s (stream_at s.streams n))
decoded_begun n ends s (Err e) = refl

kept_begun : (s : State) (f : Frame) → kept_answer (record s { began = true }) f ≡ kept_answer s f
unfolding kept_answer
kept_begun s f =
    ap (λ (fs : List Frame). cond (eqb f.kind 1 || eqb f.kind 9) (cond (ends_block f) fs []) (cond (eqb f.kind 4) (cond (has f 1) [] (replied s (frame 4 1 0 [] ∷ []))) (cond (eqb f.kind 6) (cond (has f 1) [] (replied s (frame 6 1 0 f.payload ∷ []))) [])))
    (decoded_begun f.stream (block_ends s.block f) s (read_block s.decoder (block_with s f)))

decoded_written : (n : ℕ) (ends : Bool) (s : State) (o : Result Progress HpackFault) → n < 2147483648 → Writes s (decoded n ends s o) (decoded_answer n ends s o)
decoded_written n ends s (Ok p) low =
    let t : State = record s { block = None; decoder = p.table } in
    subst (λ (fs : List Frame). Writes s (decoded n ends s (Ok p)) fs) (head_decoded n ends p.fields s p)
    (from s t (head_of n ends p.fields t) (head_answer n ends p.fields t) refl (head_written n ends p.fields t low))
decoded_written n ends s (Err e) low = none_written s s refl

block_written : (f : Frame) (s : State) → f.stream < 2147483648 → Writes s (block_of_headers f s) (cond (ends_block f) (decoded_answer f.stream (block_ends s.block f) s (read_block s.decoder (block_with s f))) [])
unfolding block_of_headers block_grown
block_written f s low =
    both s (ends_block f) (decoded f.stream (block_ends s.block f) s (read_block s.decoder (block_with s f))) (block_grown f s)
    (decoded_answer f.stream (block_ends s.block f) s (read_block s.decoder (block_with s f))) []
    (decoded_written f.stream (block_ends s.block f) s (read_block s.decoder (block_with s f)) low) (none_written s (block_grown f s) refl)

-- ---- the other frames

reset_written : (f : Frame) (s : State) (o : Option Stream) → Writes s (if_open o s (λ st. reset_of f st s)) []
unfolding reset_of cut_off
reset_written f s None = none_written s s refl
reset_written f s (Some st) =
    quiet s (is_open st) (reset_of f st s) s
    (quiet s (is_client s.role && eqb (number_at f.payload 0) 0 && not st.peer_open) (on_stream f.stream shut s) (cut_off f.stream (number_at f.payload 0) st s)
    (none_written s (on_stream f.stream shut s) refl) (none_written s (cut_off f.stream (number_at f.payload 0) st s) refl))
    (none_written s s refl)

settings_written : (f : Frame) (s : State) → Writes s (settings f s) (cond (has f 1) [] (replied s (frame 4 1 0 [] ∷ [])))
unfolding settings
settings_written f s =
    let after = after_settings s (settings_of f.payload) in
    let stays = settings_stay s s (settings_of f.payload) (record { out = refl; highest = refl }) in
    let one = spellings-one (frame 4 1 0 []) in
    both s (has f 1) s (reply (spelled 4 1 0 []) after) [] (replied s (frame 4 1 0 [] ∷ [])) (none_written s s refl)
    (subst (λ (xs : List ℕ). Writes s (reply xs after) (replied s (frame 4 1 0 [] ∷ []))) (sym one)
    (reply_written s after (frame 4 1 0 [] ∷ []) stays.out stays.highest (record { payload = omega arith; stream = omega arith }, tt)))

ping_written : (f : Frame) (s : State) → length f.payload ≤ 16384 → Writes s (ping f s) (cond (has f 1) [] (replied s (frame 6 1 0 f.payload ∷ [])))
unfolding ping
ping_written f s small =
    let one = spellings-one (frame 6 1 0 f.payload) in
    both s (has f 1) s (reply (spelled 6 1 0 f.payload) s) [] (replied s (frame 6 1 0 f.payload ∷ [])) (none_written s s refl)
    (subst (λ (xs : List ℕ). Writes s (reply xs s) (replied s (frame 6 1 0 f.payload ∷ []))) (sym one)
    (reply_written s s (frame 6 1 0 f.payload ∷ []) refl refl (record { payload = small; stream = omega arith }, tt)))

update_written : (f : Frame) (s : State) → Writes s (window_update f s) []
unfolding window_update
update_written f s = by_test (eqb f.stream 0)
  where
    by_test : (b : Bool) → Writes s (cond b (record s { send = s.send +ℤ pos (increment_of f.payload) }) (record s { streams = change s.streams f.stream (with_grant (increment_of f.payload)) })) []
    by_test true = none_written s (record s { send = s.send +ℤ pos (increment_of f.payload) }) refl
    by_test false = none_written s (record s { streams = change s.streams f.stream (with_grant (increment_of f.payload)) }) refl

-- ---- a frame of any kind

by_kind : (s : State) (k : ℕ) (a b c d e f g h : State) (blocks acks pings : List Frame) → Writes s a [] → Writes s b blocks → Writes s c [] → Writes s d acks → Writes s e pings → Writes s f [] → Writes s g [] → Writes s h []
    → Writes s (cond (eqb k 0) a (cond (eqb k 1 || eqb k 9) b (cond (eqb k 3) c (cond (eqb k 4) d (cond (eqb k 6) e (cond (eqb k 7) f (cond (eqb k 8) g h)))))))
    (cond (eqb k 1 || eqb k 9) blocks (cond (eqb k 4) acks (cond (eqb k 6) pings [])))
by_kind s k a b c d e f g h blocks acks pings pa pb pc pd pe pf pg ph = of_data (eqb k 0) refl
  where
    rest : (x y z : Bool) → Writes s (cond x e (cond y f (cond z g h))) (cond x pings [])
    rest true y z = pe
    rest false true z = pf
    rest false false true = pg
    rest false false false = ph

    resets : (x : Bool) → eqb k 3 ≡ x → Writes s (cond x c (cond (eqb k 4) d (cond (eqb k 6) e (cond (eqb k 7) f (cond (eqb k 8) g h))))) (cond (eqb k 4) acks (cond (eqb k 6) pings []))
    resets true t = subst (λ (j : ℕ). Writes s c (cond (eqb j 4) acks (cond (eqb j 6) pings []))) (sym (eqb-true k 3 t)) pc
    resets false t = both s (eqb k 4) d (cond (eqb k 6) e (cond (eqb k 7) f (cond (eqb k 8) g h))) acks (cond (eqb k 6) pings []) pd (rest (eqb k 6) (eqb k 7) (eqb k 8))

    of_data : (x : Bool) → eqb k 0 ≡ x → Writes s (cond x a (cond (eqb k 1 || eqb k 9) b (cond (eqb k 3) c (cond (eqb k 4) d (cond (eqb k 6) e (cond (eqb k 7) f (cond (eqb k 8) g h)))))))
        (cond (eqb k 1 || eqb k 9) blocks (cond (eqb k 4) acks (cond (eqb k 6) pings [])))
    of_data true t = subst (λ (j : ℕ). Writes s a (cond (eqb j 1 || eqb j 9) blocks (cond (eqb j 4) acks (cond (eqb j 6) pings [])))) (sym (eqb-true k 0 t)) pa
    of_data false t = both s (eqb k 1 || eqb k 9) b (cond (eqb k 3) c (cond (eqb k 4) d (cond (eqb k 6) e (cond (eqb k 7) f (cond (eqb k 8) g h))))) blocks (cond (eqb k 4) acks (cond (eqb k 6) pings [])) pb (resets (eqb k 3) refl)

effect_written : (s : State) (f : Frame) → IsWithinLimits f → Writes s (effect s f) (kept_answer s f)
unfolding effect goaway kept_answer
effect_written s f l =
    by_kind s f.kind (data_of f s (stream_at s.streams f.stream)) (block_of_headers f s) (if_open (stream_at s.streams f.stream) s (λ st. reset_of f st s)) (settings f s) (ping f s) (goaway f s) (window_update f s) s
    (cond (ends_block f) (decoded_answer f.stream (block_ends s.block f) s (read_block s.decoder (block_with s f))) []) (cond (has f 1) [] (replied s (frame 4 1 0 [] ∷ []))) (cond (has f 1) [] (replied s (frame 6 1 0 f.payload ∷ [])))
    (none_written s (data_of f s (stream_at s.streams f.stream)) (data_out f s (stream_at s.streams f.stream)))
    (block_written f s l.stream)
    (reset_written f s (stream_at s.streams f.stream))
    (settings_written f s)
    (ping_written f s l.payload)
    (none_written s (goaway f s) refl)
    (update_written f s)
    (none_written s s refl)

fail_written : (s t : State) (code : ℕ) → t.out ≡ s.out → highest_of_peer t ≡ highest_of_peer s → Writes s (fail code t) (goaway_list s code)
unfolding fail
fail_written s t code e h = record {
  written = ap (λ (o : Out). o.bytes ++ goaway_frame (highest_of_peer t) code) e ∙ ap (λ k. s.out.bytes ++ goaway_frame k code) h
      ∙ ap (λ xs. s.out.bytes ++ xs) (spellings-one (frame 7 0 0 (to_be_bytes w32 (highest_of_peer s) ++ to_be_bytes w32 code)));
  limits = (goaway_within (highest_of_peer s) code, tt);
}

judged_written : (s : State) (f : Frame) (o : Option ℕ) → IsWithinLimits f → Writes s (judged s f o) (judged_answer s f o)
judged_written s f (Some code) l = fail_written s (without_blocks s) code refl refl
judged_written s f None l =
    let t : State = record s { began = true } in
    subst (λ (fs : List Frame). Writes s (judged s f None) fs) (kept_begun s f) (from s t (effect t f) (kept_answer t f) refl (effect_written t f l))

pub frames_write : FramesWrite
unfolding after_frame frame_answer
frames_write s f l = both s (is_some s.failed) s (judged s f (verdict s f)) [] (judged_answer s f (verdict s f)) (none_written s s refl) (judged_written s f (verdict s f) l)

-- ---- pieces

all_write : (fs : List Frame) (s : State) → AllByRecursion IsWithinLimits fs → Writes s (after_frames s fs) (frames_answer s fs)
unfolding after_frames frames_answer
all_write [] s l = none_written s s refl
all_write (f ∷ fs) s l = written_on s (after_frame s f) (after_frames (after_frame s f) fs) (frame_answer s f) (frames_answer (after_frame s f) fs) (frames_write s f l.0) (all_write fs (after_frame s f) l.1)

fault_written : (s : State) (fault : Option FrameFault) → Writes s (after_fault s fault) (fault_answer s fault)
fault_written s None = none_written s s refl
fault_written s (Some fault) = both s (is_some s.failed) s (fail (frame_code fault.reason) s) [] (goaway_list s (frame_code fault.reason)) (none_written s s refl) (fail_written s s (frame_code fault.reason) refl refl)

pub pieces_write : PiecesWrite
unfolding after_piece piece_answer
pieces_write c piece limits = by_test (is_some c.state.failed) refl
  where
    fs : List Frame
    fs = frames_in c.cutter piece

    fault : Option FrameFault
    fault = fault_in (after_bytes c.cutter piece).phase

    by_test : (b : Bool) → is_some c.state.failed ≡ b
        → Writes c.state (cond b c (record { cutter = after_bytes c.cutter piece; state = after_fault (after_frames c.state fs) fault })).state (cond b [] (frames_answer c.state fs ++ fault_answer (after_frames c.state fs) fault))
    by_test true t = none_written c.state c.state refl
    by_test false t = written_on c.state (after_frames c.state fs) (after_fault (after_frames c.state fs) fault) (frames_answer c.state fs) (fault_answer (after_frames c.state fs) fault) (all_write fs c.state (limits t)) (fault_written (after_frames c.state fs) fault)

-- ---- what they bring

-- nothing but an end, and this of one stream
record Plain (n m : ℕ) (fs : List Frame) : Type 0 where
  sums : Sums n fs [] 0 0 (ends_in n fs)
  others : m ≢ n → ends_in n fs ≡ 0

plain_none : (n m : ℕ) → Plain n m []
plain_none n m =
    let e = (none n).ends in
    record { sums = record { text = (none n).text; grants = (none n).grants; taken = (none n).taken; ends = refl }; others = λ _. e }

plain_both : (n m : ℕ) (b : Bool) (fs gs : List Frame) → Plain n m fs → Plain n m gs → Plain n m (cond b fs gs)
plain_both n m true fs gs p q = p
plain_both n m false fs gs p q = q

plain_reset : (n m code : ℕ) → Plain n m (reset_list m code)
plain_reset n m code =
    let one = reset_sums n m (to_be_bytes w32 code) in
    record { sums = record { text = one.text; grants = one.grants; taken = one.taken; ends = refl }; others = λ apart. one.ends ∙ ap once (ne_eqb m n apart) }

-- a frame that ends nothing
plain_silent : (n m : ℕ) (fs : List Frame) → Sums n fs [] 0 0 0 → Plain n m fs
plain_silent n m fs zero_sums = record { sums = record { text = zero_sums.text; grants = zero_sums.grants; taken = zero_sums.taken; ends = refl }; others = λ _. zero_sums.ends }

plain_goaway : (n m code : ℕ) (s : State) → Plain n m (goaway_list s code)
plain_goaway n m code s = plain_silent n m (goaway_list s code) (goaway_sums n (to_be_bytes w32 (highest_of_peer s) ++ to_be_bytes w32 code))

plain_replied : (n m : ℕ) (s : State) (fs : List Frame) → Plain n m fs → Plain n m (replied s fs)
plain_replied n m s fs p = plain_both n m (is_flooded s fs) (goaway_list s 11) fs (plain_goaway n m 11 s) p

acknowledged_sums : (n kind : ℕ) (payload : List ℕ) → (kind ≡ 4) ⊎ (kind ≡ 6) → Sums n (frame kind 1 0 payload ∷ []) [] 0 0 0
unfolding frame_text frame_grant data_length is_end
acknowledged_sums n kind payload (inl e) = subst (λ (k : ℕ). Sums n (frame k 1 0 payload ∷ []) [] 0 0 0) (sym e) (one_more n (frame 4 1 0 payload) [] 0 refl refl refl (no_end (eqb 0 n)) (none n))
acknowledged_sums n kind payload (inr e) = subst (λ (k : ℕ). Sums n (frame k 1 0 payload ∷ []) [] 0 0 0) (sym e) (one_more n (frame 6 1 0 payload) [] 0 refl refl refl (no_end (eqb 0 n)) (none n))

plain_head : (n m : ℕ) (ends : Bool) (fields : List Field) (s : State) → Plain n m (head_answer m ends fields s)
plain_head n m ends fields s =
    plain_both n m (is_client s.role) (response_answer_at m ends fields (stream_at s.streams m) s) (cond (ltb s.opened m) (request_answer m fields s) [])
    (of_stream (stream_at s.streams m))
    (plain_both n m (ltb s.opened m) (request_answer m fields s) []
    (plain_both n m (leb stream_limit (open_count s.streams)) (replied (opens m s) (reset_list m 7)) (cond (is_malformed_request fields) (replied (opens m s) (reset_list m 1)) [])
    (plain_replied n m (opens m s) (reset_list m 7) (plain_reset n m 7))
    (plain_both n m (is_malformed_request fields) (replied (opens m s) (reset_list m 1)) [] (plain_replied n m (opens m s) (reset_list m 1) (plain_reset n m 1)) (plain_none n m)))
    (plain_none n m))
  where
    of_stream : (o : Option Stream) → Plain n m (response_answer_at m ends fields o s)
    of_stream None = plain_none n m
    of_stream (Some st) =
        plain_both n m (is_open st) (response_answer m ends fields st s) []
        (plain_both n m st.answered [] (cond (is_informational fields && not ends) [] (cond (is_malformed_response fields || is_informational fields) (replied s (reset_list m 1)) [])) (plain_none n m)
        (plain_both n m (is_informational fields && not ends) [] (cond (is_malformed_response fields || is_informational fields) (replied s (reset_list m 1)) []) (plain_none n m)
        (plain_both n m (is_malformed_response fields || is_informational fields) (replied s (reset_list m 1)) [] (plain_replied n m s (reset_list m 1) (plain_reset n m 1)) (plain_none n m))))
        (plain_none n m)

plain_kept : (n : ℕ) (s : State) (f : Frame) → Plain n f.stream (kept_answer s f)
unfolding kept_answer
plain_kept n s f =
    let m = f.stream in
    plain_both n m (eqb f.kind 1 || eqb f.kind 9) (cond (ends_block f) (decoded_answer m (block_ends s.block f) s (read_block s.decoder (block_with s f))) [])
    (cond (eqb f.kind 4) (cond (has f 1) [] (replied s (frame 4 1 0 [] ∷ []))) (cond (eqb f.kind 6) (cond (has f 1) [] (replied s (frame 6 1 0 f.payload ∷ []))) []))
    (plain_both n m (ends_block f) (decoded_answer m (block_ends s.block f) s (read_block s.decoder (block_with s f))) [] (of_block (read_block s.decoder (block_with s f))) (plain_none n m))
    (plain_both n m (eqb f.kind 4) (cond (has f 1) [] (replied s (frame 4 1 0 [] ∷ []))) (cond (eqb f.kind 6) (cond (has f 1) [] (replied s (frame 6 1 0 f.payload ∷ []))) [])
    (plain_both n m (has f 1) [] (replied s (frame 4 1 0 [] ∷ [])) (plain_none n m) (plain_replied n m s (frame 4 1 0 [] ∷ []) (plain_silent n m (frame 4 1 0 [] ∷ []) (acknowledged_sums n 4 [] (inl refl)))))
    (plain_both n m (eqb f.kind 6) (cond (has f 1) [] (replied s (frame 6 1 0 f.payload ∷ []))) []
    (plain_both n m (has f 1) [] (replied s (frame 6 1 0 f.payload ∷ [])) (plain_none n m) (plain_replied n m s (frame 6 1 0 f.payload ∷ []) (plain_silent n m (frame 6 1 0 f.payload ∷ []) (acknowledged_sums n 6 f.payload (inr refl)))))
    (plain_none n m)))
  where
    of_block : (o : Result Progress HpackFault) → Plain n f.stream (decoded_answer f.stream (block_ends s.block f) s o)
    of_block (Ok p) = plain_head n f.stream (block_ends s.block f) p.fields s
    of_block (Err e) = plain_none n f.stream

plain_answer : (n : ℕ) (s : State) (f : Frame) → Plain n f.stream (frame_answer s f)
unfolding frame_answer
plain_answer n s f = plain_both n f.stream (is_some s.failed) [] (judged_answer s f (verdict s f)) (plain_none n f.stream) (by_verdict (verdict s f))
  where
    by_verdict : (o : Option ℕ) → Plain n f.stream (judged_answer s f o)
    by_verdict (Some code) = plain_goaway n f.stream code s
    by_verdict None = plain_kept n s f

pub answers_bring : WrittenIsRead → AnswersBring
answers_bring read s f n l =
    let p = plain_answer n s f in
    record { sums = brings read n (frame_answer s f) [] 0 0 (ends_in n (frame_answer s f)) (frames_write s f l).limits p.sums; others = p.others }

-- ---- what the answer to a piece brings

plain_on : (n : ℕ) (fs gs : List Frame) → Sums n fs [] 0 0 (ends_in n fs) → Sums n gs [] 0 0 (ends_in n gs) → Sums n (fs ++ gs) [] 0 0 (ends_in n (fs ++ gs))
plain_on n fs gs a b =
    let sums = sums_on n fs gs [] [] 0 0 0 0 (ends_in n fs) (ends_in n gs) a b in
    record { text = sums.text; grants = sums.grants; taken = sums.taken; ends = refl }

none_on : (n : ℕ) (fs gs : List Frame) → ends_in n fs ≡ 0 → ends_in n gs ≡ 0 → ends_in n (fs ++ gs) ≡ 0
none_on n fs gs a b = let e = ends-append n fs gs in omega arith

frames_plain : (n : ℕ) (fs : List Frame) (s : State) → Sums n (frames_answer s fs) [] 0 0 (ends_in n (frames_answer s fs))
unfolding frames_answer
frames_plain n [] s = (plain_none n 0).sums
frames_plain n (f ∷ fs) s = plain_on n (frame_answer s f) (frames_answer (after_frame s f) fs) (plain_answer n s f).sums (frames_plain n fs (after_frame s f))

frames_apart : (n : ℕ) (fs : List Frame) (s : State) → AllByRecursion (λ f. f.stream ≢ n) fs → ends_in n (frames_answer s fs) ≡ 0
unfolding frames_answer
frames_apart n [] s apart = (none n).ends
frames_apart n (f ∷ fs) s apart = none_on n (frame_answer s f) (frames_answer (after_frame s f) fs) ((plain_answer n s f).others apart.0) (frames_apart n fs (after_frame s f) apart.1)

fault_silent : (n : ℕ) (s : State) (fault : Option FrameFault) → Sums n (fault_answer s fault) [] 0 0 0
fault_silent n s None = none n
fault_silent n s (Some fault) = by_test (is_some s.failed)
  where
    by_test : (b : Bool) → Sums n (cond b [] (goaway_list s (frame_code fault.reason))) [] 0 0 0
    by_test true = none n
    by_test false = goaway_sums n (to_be_bytes w32 (highest_of_peer s) ++ to_be_bytes w32 (frame_code fault.reason))

piece_plain : (n : ℕ) (c : Connection) (piece : List ℕ) → Sums n (piece_answer c piece) [] 0 0 (ends_in n (piece_answer c piece))
unfolding piece_answer
piece_plain n c piece = by_test (is_some c.state.failed)
  where
    fs : List Frame
    fs = frames_in c.cutter piece

    fault : List Frame
    fault = fault_answer (after_frames c.state fs) (fault_in (after_bytes c.cutter piece).phase)

    by_test : (b : Bool) → Sums n (cond b [] (frames_answer c.state fs ++ fault)) [] 0 0 (ends_in n (cond b [] (frames_answer c.state fs ++ fault)))
    by_test true = (plain_none n 0).sums
    by_test false =
        let silent = plain_silent n 0 fault (fault_silent n (after_frames c.state fs) (fault_in (after_bytes c.cutter piece).phase)) in
        plain_on n (frames_answer c.state fs) fault (frames_plain n fs c.state) silent.sums

piece_apart : (n : ℕ) (c : Connection) (piece : List ℕ) → AllByRecursion (λ f. f.stream ≢ n) (frames_in c.cutter piece) → ends_in n (piece_answer c piece) ≡ 0
unfolding piece_answer
piece_apart n c piece apart = by_test (is_some c.state.failed)
  where
    fs : List Frame
    fs = frames_in c.cutter piece

    fault : List Frame
    fault = fault_answer (after_frames c.state fs) (fault_in (after_bytes c.cutter piece).phase)

    by_test : (b : Bool) → ends_in n (cond b [] (frames_answer c.state fs ++ fault)) ≡ 0
    by_test true = (none n).ends
    by_test false = none_on n (frames_answer c.state fs) fault (frames_apart n fs c.state apart) (fault_silent n (after_frames c.state fs) (fault_in (after_bytes c.cutter piece).phase)).ends

pub pieces_bring : WrittenIsRead → PiecesBring
pieces_bring read c piece n limits = record {
  sums = brings read n (piece_answer c piece) [] 0 0 (ends_in n (piece_answer c piece)) (pieces_write c piece limits).limits (piece_plain n c piece);
  others = piece_apart n c piece;
}
