-- Each frame tells streams as opened in order, and makes no queue longer.
use Rattle.std.proofs.Common.{◌≡◌, ℕ, ◌<◌, ◌≤◌, ◌+◌, ◌+ℤ◌, ◌-ℤ◌, pos, Bool, true, false, not, cond, ◌&&◌, ◌||◌, nat_lt, nat_le, List, [], ◌∷◌, ◌++◌, length, Option, Some, None, is_some, Result, Ok, Err, refl, sym, ap, ◌∙◌, subst, append-nil, append_assoc, arith, if◌then◌else◌}
use Rattle.std.specs.Bool.{◌==◌}
use Rattle.std.proofs.lemmas.Bool.{ltb-true}
use Rattle.kn_frames.specs.declared.frame.Frame.{Frame}
use Rattle.kn_frames.specs.declared.fault.FrameFault.{FrameFault}
use Rattle.kn_frames.specs.Frames.{spelled}
use Rattle.kn_frames.specs.Readers.{after_bytes, frames_in, fault_in}
use Rattle.kn_hpack.specs.Fields.{Field}
use Rattle.kn_hpack.specs.Blocks.{Progress, read_block}
use Rattle.kn_hpack.specs.declared.fault.HpackFault.{HpackFault}
use Rattle.kn_h2_state.specs.declared.event.H2Event.{H2Event}
use Rattle.kn_h2_state.specs.declared.event.H2Event.TheVariants.{Opened, Head, Text, Ended, Reset, Away, Closed}
use Rattle.kn_h2_state.specs.declared.stream.Stream.{Stream}
use Rattle.kn_h2_state.specs.declared.state.State.{State}
use Rattle.kn_h2_state.specs.Limits.{reply_limit, stream_limit}
use Rattle.kn_h2_state.specs.Outgoing.{put, reply_bytes}
use Rattle.kn_h2_state.specs.Streams.{stream_at, change, is_open, is_kept, open_count, shut}
use Rattle.kn_h2_state.specs.Payloads.{has, content, number_at, increment_of, settings_of, reset_frame}
use Rattle.kn_h2_state.specs.Heads.{is_malformed_request, is_malformed_response, is_informational}
use Rattle.kn_h2_state.specs.Rules.{is_client, block_with, ends_block, shifted, shifted_one, verdict}
use Rattle.kn_h2_state.specs.Effects.{event, fail, reply, on_stream, peer_ends, if_open, with_text, data_taken, text_told, ended_if, data_in, data_dropped, data_of, new_stream, opens, accepted, request, headed, refused_response, response, head_of, decoded, block_ends, block_grown, block_of_headers, cut_off, reset_of, after_setting, after_settings, settings, ping, goaway, with_grant, window_update, effect}
use Rattle.kn_h2_state.specs.Feeding.{Connection, without_blocks, judged, after_frame, after_frames, after_fault, after_piece, frame_code}
use Rattle.kn_h2_state.proofs.OtherLaws.{either, open_or, by_kind, shifted_number}
use Rattle.kn_h2_state.proofs.BorneLemmas.{grant_number}
use Rattle.kn_stream_order.specs.Order.{OpensRising, IsShortAt, TellsInOrder}
use Rattle.kn_stream_order.proofs.QueueLemmas.{Shortens, short_change, short_filter, short_map, short_push}

-- ---- events in order

pub rising_within : (low : ℕ) (es : List H2Event) (high : ℕ) → OpensRising low es high → low ≤ high
rising_within low [] high h = h
rising_within low (Opened n fields ∷ es) high h = omega (arith, h.0, rising_within n es high h.1)
rising_within low (Head n fields ∷ es) high h = rising_within low es high h
rising_within low (Text n ∷ es) high h = rising_within low es high h
rising_within low (Ended n ∷ es) high h = rising_within low es high h
rising_within low (Reset n code ∷ es) high h = rising_within low es high h
rising_within low (Away code ∷ es) high h = rising_within low es high h
rising_within low (Closed code ∷ es) high h = rising_within low es high h

-- more is told behind
pub rising_then : (low : ℕ) (es fs : List H2Event) (mid high : ℕ) → OpensRising low es mid → ((k : ℕ) → k ≤ mid → OpensRising k fs high) → OpensRising low (es ++ fs) high
rising_then low [] fs mid high h later = later low h
rising_then low (Opened n fields ∷ es) fs mid high h later = (h.0, rising_then n es fs mid high h.1 later)
rising_then low (Head n fields ∷ es) fs mid high h later = rising_then low es fs mid high h later
rising_then low (Text n ∷ es) fs mid high h later = rising_then low es fs mid high h later
rising_then low (Ended n ∷ es) fs mid high h later = rising_then low es fs mid high h later
rising_then low (Reset n code ∷ es) fs mid high h later = rising_then low es fs mid high h later
rising_then low (Away code ∷ es) fs mid high h later = rising_then low es fs mid high h later
rising_then low (Closed code ∷ es) fs mid high h later = rising_then low es fs mid high h later

-- the last number may be higher
pub rising_raise : (low : ℕ) (es : List H2Event) (high more : ℕ) → high ≤ more → OpensRising low es high → OpensRising low es more
rising_raise low [] high more le h = omega (arith, h, le)
rising_raise low (Opened n fields ∷ es) high more le h = (h.0, rising_raise n es high more le h.1)
rising_raise low (Head n fields ∷ es) high more le h = rising_raise low es high more le h
rising_raise low (Text n ∷ es) high more le h = rising_raise low es high more le h
rising_raise low (Ended n ∷ es) high more le h = rising_raise low es high more le h
rising_raise low (Reset n code ∷ es) high more le h = rising_raise low es high more le h
rising_raise low (Away code ∷ es) high more le h = rising_raise low es high more le h
rising_raise low (Closed code ∷ es) high more le h = rising_raise low es high more le h

-- the first number may be lower
pub rising_lower : (low less : ℕ) (es : List H2Event) (high : ℕ) → less ≤ low → OpensRising low es high → OpensRising less es high
rising_lower low less [] high le h = omega (arith, h, le)
rising_lower low less (Opened n fields ∷ es) high le h = (omega (arith, h.0, le), h.1)
rising_lower low less (Head n fields ∷ es) high le h = rising_lower low less es high le h
rising_lower low less (Text n ∷ es) high le h = rising_lower low less es high le h
rising_lower low less (Ended n ∷ es) high le h = rising_lower low less es high le h
rising_lower low less (Reset n code ∷ es) high le h = rising_lower low less es high le h
rising_lower low less (Away code ∷ es) high le h = rising_lower low less es high le h
rising_lower low less (Closed code ∷ es) high le h = rising_lower low less es high le h

-- an event that opens nothing
pub data OpensNone : H2Event → Type 0 where
  a_head : (n : ℕ) (fields : List Field) → OpensNone (Head n fields)
  a_text : (n : ℕ) → OpensNone (Text n)
  an_end : (n : ℕ) → OpensNone (Ended n)
  a_reset : (n code : ℕ) → OpensNone (Reset n code)
  an_away : (code : ℕ) → OpensNone (Away code)
  a_close : (code : ℕ) → OpensNone (Closed code)

rising_more : (low : ℕ) (es : List H2Event) (e : H2Event) (high : ℕ) → OpensNone e → OpensRising low es high → OpensRising low (es ++ e ∷ []) high
rising_more low es e high (a_head n fields) h = rising_then low es (e ∷ []) high high h (λ k le. le)
rising_more low es e high (a_text n) h = rising_then low es (e ∷ []) high high h (λ k le. le)
rising_more low es e high (an_end n) h = rising_then low es (e ∷ []) high high h (λ k le. le)
rising_more low es e high (a_reset n code) h = rising_then low es (e ∷ []) high high h (λ k le. le)
rising_more low es e high (an_away code) h = rising_then low es (e ∷ []) high high h (λ k le. le)
rising_more low es e high (a_close code) h = rising_then low es (e ∷ []) high high h (λ k le. le)

-- ---- what holds through frames

-- what was told is in order, and the queue of the stream n is short
pub record Fine (n most low : ℕ) (base : List H2Event) (t : State) : Type 0 where
  pub told : List H2Event
  pub events : t.events ≡ base ++ told
  pub rising : OpensRising low told t.opened
  pub short : IsShortAt n most t.streams

-- nothing was told, and streams may have changed
fine_streams : {n most low : ℕ} {base : List H2Event} (t u : State) → Fine n most low base t → u.events ≡ t.events → u.opened ≡ t.opened → IsShortAt n most u.streams → Fine n most low base u
fine_streams {n} {most} {low} {base} t u b e o q = record {
  told = b.told;
  events = e ∙ b.events;
  rising = subst (λ k. OpensRising low b.told k) (sym o) b.rising;
  short = q;
}

fine_event : {n most low : ℕ} {base : List H2Event} (t : State) (e : H2Event) → Fine n most low base t → OpensNone e → Fine n most low base (event t e)
fine_event {n} {most} {low} {base} t e b none = record {
  told = b.told ++ e ∷ [];
  events = ap (λ es. es ++ e ∷ []) b.events ∙ append_assoc base b.told (e ∷ []);
  rising = rising_more low b.told e t.opened none b.rising;
  short = b.short;
}

fine_fail : {n most low : ℕ} {base : List H2Event} (code : ℕ) (t : State) → Fine n most low base t → Fine n most low base (fail code t)
unfolding fail
fine_fail {n} {most} {low} {base} code t b = record {
  told = b.told ++ Closed code ∷ [];
  events = ap (λ es. es ++ Closed code ∷ []) b.events ∙ append_assoc base b.told (Closed code ∷ []);
  rising = rising_more low b.told (Closed code) t.opened (a_close code) b.rising;
  short = b.short;
}

pub fine_reply : {n most low : ℕ} {base : List H2Event} (frame : List ℕ) (t : State) → Fine n most low base t → Fine n most low base (reply frame t)
unfolding reply
fine_reply {n} {most} {low} {base} frame t b =
    either (Fine n most low base) (nat_lt reply_limit (reply_bytes t.out + length frame)) (fail 11 t) (record t { out = put t.out true frame })
    (fine_fail 11 t b) (fine_streams t (record t { out = put t.out true frame }) b refl refl b.short)

pub fine_change : {n most low : ℕ} {base : List H2Event} (m : ℕ) (f : Stream → Stream) (t : State) → Shortens f → Fine n most low base t → Fine n most low base (record t { streams = change t.streams m f })
fine_change {n} {most} m f t s b = fine_streams t (record t { streams = change t.streams m f }) b refl refl (short_change n most t.streams m f s b.short)

pub fine_on : {n most low : ℕ} {base : List H2Event} (m : ℕ) (f : Stream → Stream) (t : State) → Shortens f → Fine n most low base t → Fine n most low base (on_stream m f t)
fine_on {n} {most} m f t s b = fine_streams t (on_stream m f t) b refl refl (short_filter n most is_kept (change t.streams m f) (short_change n most t.streams m f s b.short))

-- ---- changes of a stream

pub shut_shortens : Shortens shut
shut_shortens = record { number = λ st. refl; queue = λ st. omega arith }

pub keeps_shortens : (f : Stream → Stream) → ((st : Stream) → (f st).number ≡ st.number) → ((st : Stream) → (f st).queue ≡ st.queue) → Shortens f
keeps_shortens f number same = record { number = number; queue = λ st. rw (same st) (omega arith) }

fine_ends : {n most low : ℕ} {base : List H2Event} (m : ℕ) (t : State) → Fine n most low base t → Fine n most low base (peer_ends m t)
unfolding peer_ends
fine_ends m t b =
    fine_event (on_stream m (λ st. record st { peer_open = false }) t) (Ended m) (fine_on m (λ st. record st { peer_open = false }) t (keeps_shortens (λ st. record st { peer_open = false }) (λ st. refl) (λ st. refl)) b) (an_end m)

fine_ended : {n most low : ℕ} {base : List H2Event} (ends : Bool) (m : ℕ) (t : State) → Fine n most low base t → Fine n most low base (ended_if ends m t)
fine_ended {n} {most} {low} {base} ends m t b = either (Fine n most low base) ends (peer_ends m t) t (fine_ends m t b) b

-- ---- DATA

fine_data_in : {n most low : ℕ} {base : List H2Event} (f : Frame) (t : State) → Fine n most low base t → Fine n most low base (data_in f t)
unfolding data_in data_taken
fine_data_in {n} {most} {low} {base} f t b =
    let texts : Stream → Stream = with_text (length f.payload) (content f) in
    let taken : Fine n most low base (data_taken f t) = fine_streams t (data_taken f t) b refl refl (short_change n most t.streams f.stream texts (keeps_shortens texts (λ st. refl) (λ st. refl)) b.short) in
    fine_ended (has f 1) f.stream (text_told f.stream (content f) (data_taken f t))
    (either (Fine n most low base) (length (content f) == 0) (data_taken f t) (event (data_taken f t) (Text f.stream)) taken (fine_event (data_taken f t) (Text f.stream) taken (a_text f.stream)))

fine_dropped : {n most low : ℕ} {base : List H2Event} (f : Frame) (t : State) → Fine n most low base t → Fine n most low base (data_dropped f t)
unfolding data_dropped
fine_dropped f t b = fine_streams t (data_dropped f t) b refl refl b.short

fine_data : {n most low : ℕ} {base : List H2Event} (f : Frame) (t : State) (o : Option Stream) → Fine n most low base t → Fine n most low base (data_of f t o)
fine_data f t None b = fine_dropped f t b
fine_data {n} {most} {low} {base} f t (Some st) b = either (Fine n most low base) (is_open st) (data_in f t) (data_dropped f t) (fine_data_in f t b) (fine_dropped f t b)

-- ---- header blocks

fine_opens : {n most low : ℕ} {base : List H2Event} (m : ℕ) (t : State) → t.opened < m → Fine n most low base t → Fine n most low base (opens m t)
fine_opens {n} {most} {low} {base} m t above b = record {
  told = b.told;
  events = b.events;
  rising = rising_raise low b.told t.opened m (omega (arith, above)) b.rising;
  short = b.short;
}

fine_accepted : {n most low : ℕ} {base : List H2Event} (m : ℕ) (ends : Bool) (fields : List Field) (t : State) → t.opened < m → Fine n most low base t → Fine n most low base (accepted m ends fields t)
unfolding accepted
fine_accepted {n} {most} {low} {base} m ends fields t above b =
    let pushed : State = record t { opened = m; streams = t.streams ++ new_stream m t ∷ [] } in
    let same : m ≤ m = omega arith in
    let there : Fine n most low base (event pushed (Opened m fields)) = record {
      told = b.told ++ Opened m fields ∷ [];
      events = ap (λ es. es ++ Opened m fields ∷ []) b.events ∙ append_assoc base b.told (Opened m fields ∷ []);
      rising = rising_then low b.told (Opened m fields ∷ []) t.opened m b.rising (λ k le. let lower : k < m = omega (arith, le, above) in (lower, same));
      short = short_push n most t.streams (new_stream m t) refl b.short;
    } in
    fine_ended ends m (event pushed (Opened m fields)) there

fine_request : {n most low : ℕ} {base : List H2Event} (m : ℕ) (ends : Bool) (fields : List Field) (t : State) → t.opened < m → Fine n most low base t → Fine n most low base (request m ends fields t)
unfolding request
fine_request {n} {most} {low} {base} m ends fields t above b =
    let refused : (code : ℕ) → Fine n most low base (reply (reset_frame m code) (opens m t)) = λ code. fine_reply (reset_frame m code) (opens m t) (fine_opens m t above b) in
    either (Fine n most low base) (nat_le stream_limit (open_count t.streams)) (reply (reset_frame m 7) (opens m t))
    (if is_malformed_request fields then reply (reset_frame m 1) (opens m t) else accepted m ends fields t) (refused 7)
    (either (Fine n most low base) (is_malformed_request fields) (reply (reset_frame m 1) (opens m t)) (accepted m ends fields t) (refused 1)
    (fine_accepted m ends fields t above b))

fine_response : {n most low : ℕ} {base : List H2Event} (m : ℕ) (ends : Bool) (fields : List Field) (st : Stream) (t : State) → Fine n most low base t → Fine n most low base (response m ends fields st t)
unfolding response refused_response headed
fine_response {n} {most} {low} {base} m ends fields st t b =
    let gone : Fine n most low base (on_stream m shut t) = fine_on m shut t shut_shortens b in
    let head : Fine n most low base (on_stream m (λ x. record x { answered = true }) t) = fine_on m (λ x. record x { answered = true }) t (keeps_shortens (λ x. record x { answered = true }) (λ x. refl) (λ x. refl)) b in
    either (Fine n most low base) st.answered (peer_ends m t)
    (if is_informational fields && not ends then t else (if is_malformed_response fields || is_informational fields then refused_response m t else headed m ends fields t))
    (fine_ends m t b)
    (either (Fine n most low base) (is_informational fields && not ends) t (if is_malformed_response fields || is_informational fields then refused_response m t else headed m ends fields t) b
    (either (Fine n most low base) (is_malformed_response fields || is_informational fields) (refused_response m t) (headed m ends fields t)
    (fine_reply (reset_frame m 1) (event (on_stream m shut t) (Reset m 1)) (fine_event (on_stream m shut t) (Reset m 1) gone (a_reset m 1)))
    (fine_ended ends m (event (on_stream m (λ x. record x { answered = true }) t) (Head m fields))
    (fine_event (on_stream m (λ x. record x { answered = true }) t) (Head m fields) head (a_head m fields)))))

fine_head : {n most low : ℕ} {base : List H2Event} (m : ℕ) (ends : Bool) (fields : List Field) (t : State) → Fine n most low base t → Fine n most low base (head_of m ends fields t)
unfolding head_of
fine_head {n} {most} {low} {base} m ends fields t b = by_role (is_client t.role)
  where
    trailers : Fine n most low base (if_open (stream_at t.streams m) t (λ st. peer_ends m t))
    trailers = open_or (Fine n most low base) (stream_at t.streams m) t (λ st. peer_ends m t) b (λ st. fine_ends m t b)

    by_number : (a : Bool) → nat_lt t.opened m ≡ a → Fine n most low base (if a then request m ends fields t else if_open (stream_at t.streams m) t (λ st. peer_ends m t))
    by_number true above = fine_request m ends fields t (ltb-true t.opened m above) b
    by_number false above = trailers

    by_role : (a : Bool) → Fine n most low base (if a then if_open (stream_at t.streams m) t (λ st. response m ends fields st t)
        else (if nat_lt t.opened m then request m ends fields t else if_open (stream_at t.streams m) t (λ st. peer_ends m t)))
    by_role true = open_or (Fine n most low base) (stream_at t.streams m) t (λ st. response m ends fields st t) b (λ st. fine_response m ends fields st t b)
    by_role false = by_number (nat_lt t.opened m) refl

fine_decoded : {n most low : ℕ} {base : List H2Event} (m : ℕ) (ends : Bool) (t : State) (r : Result Progress HpackFault) → Fine n most low base t → Fine n most low base (decoded m ends t r)
fine_decoded m ends t (Ok p) b = fine_head m ends p.fields (record t { block = None; decoder = p.table }) (fine_streams t (record t { block = None; decoder = p.table }) b refl refl b.short)
fine_decoded m ends t (Err e) b = b

fine_block : {n most low : ℕ} {base : List H2Event} (f : Frame) (t : State) → Fine n most low base t → Fine n most low base (block_of_headers f t)
unfolding block_of_headers block_grown
fine_block {n} {most} {low} {base} f t b =
    either (Fine n most low base) (ends_block f) (decoded f.stream (block_ends t.block f) t (read_block t.decoder (block_with t f))) (block_grown f t)
    (fine_decoded f.stream (block_ends t.block f) t (read_block t.decoder (block_with t f)) b)
    (fine_streams t (block_grown f t) b refl refl b.short)

-- ---- the other frames

fine_reset : {n most low : ℕ} {base : List H2Event} (f : Frame) (st : Stream) (t : State) → Fine n most low base t → Fine n most low base (reset_of f st t)
unfolding reset_of cut_off
fine_reset {n} {most} {low} {base} f st t b =
    let cuts : Stream → Stream = λ x. record (shut x) { text = [] } in
    let cut : Fine n most low base (on_stream f.stream cuts t) = fine_on f.stream cuts t (record { number = λ x. refl; queue = λ x. omega arith }) b in
    let owed : State = record (on_stream f.stream cuts t) { owed = t.owed + length st.text } in
    let there : Fine n most low base owed = fine_streams (on_stream f.stream cuts t) owed cut refl refl cut.short in
    either (Fine n most low base) (is_client t.role && (number_at f.payload 0 == 0) && not st.peer_open) (on_stream f.stream shut t) (cut_off f.stream (number_at f.payload 0) st t)
    (fine_on f.stream shut t shut_shortens b)
    (fine_event owed (Reset f.stream (number_at f.payload 0)) there (a_reset f.stream (number_at f.payload 0)))

shifted_shortens : (old new : ℕ) → Shortens (shifted_one old new)
shifted_shortens old new = keeps_shortens (shifted_one old new) (shifted_number old new) (λ st. by_open st (is_open st))
  where
    by_open : (st : Stream) (b : Bool) → (if b then record st { send = st.send +ℤ (pos new -ℤ pos old) } else st).queue ≡ st.queue
    by_open st true = refl
    by_open st false = refl

fine_setting : {n most low : ℕ} {base : List H2Event} (t : State) (x : ℕ × ℕ) → Fine n most low base t → Fine n most low base (after_setting t x)
unfolding after_setting
fine_setting {n} {most} {low} {base} t x b =
    either (Fine n most low base) (x.0 == 4) (record t { initial = x.1; streams = shifted t.initial x.1 t.streams }) (if x.0 == 3 then record t { most = Some x.1 } else t)
    (fine_streams t (record t { initial = x.1; streams = shifted t.initial x.1 t.streams }) b refl refl (short_map n most (shifted_one t.initial x.1) t.streams (shifted_shortens t.initial x.1) b.short))
    (either (Fine n most low base) (x.0 == 3) (record t { most = Some x.1 }) t (fine_streams t (record t { most = Some x.1 }) b refl refl b.short) b)

fine_settings : {n most low : ℕ} {base : List H2Event} (t : State) (xs : List (ℕ × ℕ)) → Fine n most low base t → Fine n most low base (after_settings t xs)
unfolding after_settings
fine_settings t [] b = b
fine_settings t (x ∷ xs) b = fine_settings (after_setting t x) xs (fine_setting t x b)

fine_all_settings : {n most low : ℕ} {base : List H2Event} (f : Frame) (t : State) → Fine n most low base t → Fine n most low base (settings f t)
unfolding settings
fine_all_settings {n} {most} {low} {base} f t b =
    either (Fine n most low base) (has f 1) t (reply (spelled 4 1 0 []) (after_settings t (settings_of f.payload))) b
    (fine_reply (spelled 4 1 0 []) (after_settings t (settings_of f.payload)) (fine_settings t (settings_of f.payload) b))

fine_ping : {n most low : ℕ} {base : List H2Event} (f : Frame) (t : State) → Fine n most low base t → Fine n most low base (ping f t)
unfolding ping
fine_ping {n} {most} {low} {base} f t b = either (Fine n most low base) (has f 1) t (reply (spelled 6 1 0 f.payload) t) b (fine_reply (spelled 6 1 0 f.payload) t b)

fine_goaway : {n most low : ℕ} {base : List H2Event} (f : Frame) (t : State) → Fine n most low base t → Fine n most low base (goaway f t)
unfolding goaway
fine_goaway f t b = fine_event (record t { away = true }) (Away (number_at f.payload 4)) (fine_streams t (record t { away = true }) b refl refl b.short) (an_away (number_at f.payload 4))

grant_shortens : (by : ℕ) → Shortens (with_grant by)
grant_shortens by = keeps_shortens (with_grant by) (grant_number by) (λ st. by_open st (is_open st))
  where
    by_open : (st : Stream) (b : Bool) → (if b then record st { send = st.send +ℤ pos by } else st).queue ≡ st.queue
    by_open st true = refl
    by_open st false = refl

fine_update : {n most low : ℕ} {base : List H2Event} (f : Frame) (t : State) → Fine n most low base t → Fine n most low base (window_update f t)
unfolding window_update
fine_update {n} {most} {low} {base} f t b =
    either (Fine n most low base) (f.stream == 0) (record t { send = t.send +ℤ pos (increment_of f.payload) })
    (record t { streams = change t.streams f.stream (with_grant (increment_of f.payload)) })
    (fine_streams t (record t { send = t.send +ℤ pos (increment_of f.payload) }) b refl refl b.short)
    (fine_change f.stream (with_grant (increment_of f.payload)) t (grant_shortens (increment_of f.payload)) b)

-- ---- a frame

fine_effect : {n most low : ℕ} {base : List H2Event} (t : State) (f : Frame) → Fine n most low base t → Fine n most low base (effect t f)
fine_effect {n} {most} {low} {base} t f b =
    by_kind (Fine n most low base) t f
    (λ _. fine_data f t (stream_at t.streams f.stream) b)
    (fine_block f t b)
    (λ _. open_or (Fine n most low base) (stream_at t.streams f.stream) t (λ st. reset_of f st t) b (λ st. fine_reset f st t b))
    (fine_all_settings f t b)
    (fine_ping f t b)
    (fine_goaway f t b)
    (fine_update f t b)
    b

fine_frame : {n most low : ℕ} {base : List H2Event} (t : State) (f : Frame) → Fine n most low base t → Fine n most low base (after_frame t f)
unfolding after_frame
fine_frame {n} {most} {low} {base} t f b = either (Fine n most low base) (is_some t.failed) t (judged t f (verdict t f)) b (by_verdict (verdict t f))
  where
    by_verdict : (o : Option ℕ) → Fine n most low base (judged t f o)
    by_verdict (Some code) = fine_fail code (without_blocks t) (fine_streams t (without_blocks t) b refl refl b.short)
    by_verdict None = fine_effect (record t { began = true }) f (fine_streams t (record t { began = true }) b refl refl b.short)

-- ---- pieces

fine_frames : {n most low : ℕ} {base : List H2Event} (t : State) (fs : List Frame) → Fine n most low base t → Fine n most low base (after_frames t fs)
unfolding after_frames
fine_frames t [] b = b
fine_frames t (f ∷ fs) b = fine_frames (after_frame t f) fs (fine_frame t f b)

fine_fault : {n most low : ℕ} {base : List H2Event} (t : State) (o : Option FrameFault) → Fine n most low base t → Fine n most low base (after_fault t o)
fine_fault t None b = b
fine_fault {n} {most} {low} {base} t (Some fault) b = either (Fine n most low base) (is_some t.failed) t (fail (frame_code fault.reason) t) b (fine_fail (frame_code fault.reason) t b)

pub fine_start : (n most : ℕ) (t : State) → IsShortAt n most t.streams → Fine n most t.opened t.events t
fine_start n most t h = record { told = []; events = sym (append-nil t.events); rising = omega arith; short = h }

pub fine_piece : (n most : ℕ) (c : Connection) (piece : List ℕ) → IsShortAt n most c.state.streams → Fine n most c.state.opened c.state.events (after_piece c piece).state
unfolding after_piece
fine_piece n most c piece h = piece_here (is_some c.state.failed)
  where
    piece_here : (b : Bool) → Fine n most c.state.opened c.state.events (cond b c (record {
      cutter = after_bytes c.cutter piece;
      state = after_fault (after_frames c.state (frames_in c.cutter piece)) (fault_in (after_bytes c.cutter piece).phase);
    })).state
    piece_here true = fine_start n most c.state h
    piece_here false = fine_fault (after_frames c.state (frames_in c.cutter piece)) (fault_in (after_bytes c.cutter piece).phase) (fine_frames c.state (frames_in c.cutter piece) (fine_start n most c.state h))

-- no stream has more than all bytes
longest_at : (n : ℕ) (ss : List Stream) → (most : ℕ) × IsShortAt n most ss
longest_at n [] = (0, tt)
longest_at n (st ∷ ss) = let rest = longest_at n ss in (length st.queue + rest.0, ((λ is. omega arith), more n rest.0 (length st.queue + rest.0) ss (omega arith) rest.1))
  where
    more : (k most larger : ℕ) (zs : List Stream) → most ≤ larger → IsShortAt k most zs → IsShortAt k larger zs
    more k most larger [] le h = tt
    more k most larger (z ∷ zs) le h = (λ is. omega (arith, h.0 is, le), more k most larger zs le h.1)

pub piece_order : (c : Connection) (piece : List ℕ) → TellsInOrder c.state.opened c.state.events (after_piece c piece).state
piece_order c piece =
    let any = longest_at 0 c.state.streams in
    let fine = fine_piece 0 any.0 c piece any.1 in
    record { told = fine.told; events = fine.events; rising = fine.rising }

pub piece_queues : (c : Connection) (piece : List ℕ) (n most : ℕ) → IsShortAt n most c.state.streams → IsShortAt n most (after_piece c piece).state.streams
piece_queues c piece n most h = (fine_piece n most c piece h).short
