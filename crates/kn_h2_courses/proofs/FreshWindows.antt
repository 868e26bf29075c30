-- The windows of a stream that a frame opens, and what comes on a stream that is idle.
use Rattle.std.proofs.Common.{◌≡◌, ℕ, pos, ◌+◌, ◌+ℤ◌, ◌<◌, ◌%◌, Bool, true, false, not, ◌&&◌, ◌||◌, cond, eqb, leb, ltb, List, [], ◌∷◌, ◌++◌, length, Option, Some, None, Result, Ok, Err, refl, sym, ap, ◌∙◌, subst, arith}
use Rattle.std.specs.List.{AllByRecursion}
use Rattle.std.proofs.lemmas.Bool.{eqb-true, eqb-false, or_parts, ltb-false}
use Rattle.kn_frames.specs.declared.frame.Frame.{Frame}
use Rattle.kn_frames.specs.Frames.{spelled}
use Rattle.kn_hpack.specs.Fields.{Field}
use Rattle.kn_hpack.specs.Blocks.{Progress, read_block}
use Rattle.kn_hpack.specs.declared.fault.HpackFault.{HpackFault}
use Rattle.kn_h2_state.specs.declared.event.H2Event.TheVariants.{Opened, Head, Text, Reset}
use Rattle.kn_h2_state.specs.declared.stream.Stream.{Stream}
use Rattle.kn_h2_state.specs.declared.state.State.{State}
use Rattle.kn_h2_state.specs.Limits.{reply_limit, stream_limit, stream_window}
use Rattle.kn_h2_state.specs.Outgoing.{reply_bytes, put}
use Rattle.kn_h2_state.specs.Streams.{stream_at, change, is_open, open_count, shut}
use Rattle.kn_h2_state.specs.Payloads.{has, content, number_at, increment_of, settings_of, reset_frame}
use Rattle.kn_h2_state.specs.Heads.{is_malformed_request, is_malformed_response, is_informational}
use Rattle.kn_h2_state.specs.Rules.{is_client, block_with, ends_block, shifted, verdict}
use Rattle.kn_h2_state.specs.Effects.{event, fail, reply, on_stream, peer_ends, if_open, data_taken, text_told, ended_if, data_in, data_dropped, data_of, with_grant, new_stream, opens, accepted, request, headed, refused_response, response, head_of, decoded, block_ends, block_grown, block_of_headers, cut_off, reset_of, after_setting, after_settings, settings, ping, goaway, window_update, effect}
use Rattle.kn_h2_state.specs.Feeding.{after_frame}
use Rattle.kn_h2_state.specs.Holding.{Holds}
use Rattle.kn_h2_state.specs.Wire.{frame_grant, data_length}
use Rattle.kn_h2_state.proofs.OtherLaws.{either, open_or}
use Rattle.kn_h2.proofs.RuleLemmas.{passes_rules}
use Rattle.kn_h2.proofs.StreamLemmas.{all_at, all_change, all_tidied, all_push, number_of}
use Rattle.kn_h2_courses.proofs.LifeLemmas.{goes_on}
use Rattle.kn_h2_courses.proofs.StreamSteps.{none_there, reply_opened}

-- ---- idle streams

-- DATA and WINDOW_UPDATE come on no idle stream
idle_frame : (s : State) (f : Frame) (n : ℕ) → verdict s f ≡ None → s.opened < n → f.stream ≡ n → (eqb f.kind 0 || eqb f.kind 8) ≡ true → ⊥
idle_frame s f n v above same kind =
    let low = ltb-false s.opened f.stream (or_parts (eqb (f.stream % 2) 0) (ltb s.opened f.stream) (of_kinds (eqb f.kind 0) (eqb f.kind 3) (eqb f.kind 8) (eqb f.stream 0) _ kind apart (passes_rules s f v).idle)).1 in
    omega (arith, same, low, above)
  where
    apart : eqb f.stream 0 ≡ false
    apart = by_test (eqb f.stream 0) refl
      where
        by_test : (b : Bool) → eqb f.stream 0 ≡ b → b ≡ false
        by_test true t = let zero : f.stream ≡ 0 = eqb-true f.stream 0 t in absurd (omega (arith, zero, same, above))
        by_test false t = refl

    of_kinds : (a b c z i : Bool) → (a || c) ≡ true → z ≡ false → ((a || b || (c && not z)) && i) ≡ false → i ≡ false
    of_kinds true b c z i k t e = e
    of_kinds false true c z i k t e = e
    of_kinds false false true false i k t e = e
    of_kinds false false true true i k t e = absurd cc
    of_kinds false false false z i k t e = absurd cc

pub idle_data : (s : State) (f : Frame) (n : ℕ) → verdict s f ≡ None → s.opened < n → data_length n f ≡ 0
unfolding data_length
idle_data s f n v above = by_test (eqb f.kind 0) refl (eqb f.stream n) refl
  where
    by_test : (a : Bool) → eqb f.kind 0 ≡ a → (b : Bool) → eqb f.stream n ≡ b → cond (a && b) (length f.payload) 0 ≡ 0
    by_test false k b t = refl
    by_test true k false t = refl
    by_test true k true t = absurd (idle_frame s f n v above (eqb-true f.stream n t) (ap (λ (c : Bool). c || eqb f.kind 8) k))

pub idle_grant : (s : State) (f : Frame) (n : ℕ) → verdict s f ≡ None → s.opened < n → frame_grant n f ≡ 0
unfolding frame_grant
idle_grant s f n v above = by_test (eqb f.kind 8) refl (eqb f.stream n) refl
  where
    or_true : (c : Bool) → (c || true) ≡ true
    or_true true = refl
    or_true false = refl

    by_test : (a : Bool) → eqb f.kind 8 ≡ a → (b : Bool) → eqb f.stream n ≡ b → cond (a && b) (increment_of f.payload) 0 ≡ 0
    by_test false k b t = refl
    by_test true k false t = refl
    by_test true k true t = absurd (idle_frame s f n v above (eqb-true f.stream n t) (ap (λ (c : Bool). eqb f.kind 0 || c) k ∙ or_true (eqb f.kind 0)))

-- ---- frames that open no stream

-- a state in which nothing was opened
abbrev Same : State → State → Type 0
Same s t = t.opened ≡ s.opened

same_ended : (ends : Bool) (m : ℕ) (s t : State) → Same s t → Same s (ended_if ends m t)
unfolding peer_ends
same_ended true m s t e = e
same_ended false m s t e = e

same_data : (f : Frame) (s : State) (o : Option Stream) → Same s (data_of f s o)
unfolding data_in data_taken data_dropped
same_data f s None = refl
same_data f s (Some st) =
    either (Same s) (is_open st) (data_in f s) (data_dropped f s)
    (same_ended (has f 1) f.stream s (text_told f.stream (content f) (data_taken f s))
    (either (Same s) (eqb (length (content f)) 0) (data_taken f s) (event (data_taken f s) (Text f.stream)) refl refl)) refl

same_reset : (f : Frame) (s : State) → Same s (if_open (stream_at s.streams f.stream) s (λ st. reset_of f st s))
unfolding reset_of cut_off
same_reset f s =
    open_or (Same s) (stream_at s.streams f.stream) s (λ st. reset_of f st s) refl
    (λ st. either (Same s) (is_client s.role && eqb (number_at f.payload 0) 0 && not st.peer_open) (on_stream f.stream shut s) (cut_off f.stream (number_at f.payload 0) st s) refl refl)

same_settings : (s : State) (xs : List (ℕ × ℕ)) → Same s (after_settings s xs)
unfolding after_settings after_setting
same_settings s [] = refl
same_settings s (x ∷ xs) = same_settings (after_setting s x) xs ∙ one (eqb x.0 4) (eqb x.0 3)
  where
    one : (a b : Bool) → Same s (cond a (record s { initial = x.1; streams = shifted s.initial x.1 s.streams }) (cond b (record s { most = Some x.1 }) s))
    one true b = refl
    one false true = refl
    one false false = refl

same_ping : (f : Frame) (s : State) → Same s (ping f s)
unfolding ping
same_ping f s = either (Same s) (has f 1) s (reply (spelled 6 1 0 f.payload) s) refl (reply_opened (spelled 6 1 0 f.payload) s)

same_set : (f : Frame) (s : State) → Same s (settings f s)
unfolding settings
same_set f s =
    either (Same s) (has f 1) s (reply (spelled 4 1 0 []) (after_settings s (settings_of f.payload))) refl
    (reply_opened (spelled 4 1 0 []) (after_settings s (settings_of f.payload)) ∙ same_settings s (settings_of f.payload))

same_update : (f : Frame) (s : State) → Same s (window_update f s)
unfolding window_update
same_update f s = by_all (eqb f.stream 0)
  where
    by_all : (b : Bool) → Same s (cond b (record s { send = s.send +ℤ pos (increment_of f.payload) }) (record s { streams = change s.streams f.stream (with_grant (increment_of f.payload)) }))
    by_all true = refl
    by_all false = refl

-- a frame that is neither DATA nor of a header block
abbrev others : State → Frame → State
others s f =
    cond (eqb f.kind 3) (if_open (stream_at s.streams f.stream) s (λ st. reset_of f st s))
    (cond (eqb f.kind 4) (settings f s) (cond (eqb f.kind 6) (ping f s) (cond (eqb f.kind 7) (goaway f s) (cond (eqb f.kind 8) (window_update f s) s))))

same_others : (s : State) (f : Frame) → Same s (others s f)
unfolding goaway
same_others s f =
    let s8 : State = cond (eqb f.kind 8) (window_update f s) s in
    let s7 : State = cond (eqb f.kind 7) (goaway f s) s8 in
    let s6 : State = cond (eqb f.kind 6) (ping f s) s7 in
    let s4 : State = cond (eqb f.kind 4) (settings f s) s6 in
    let a : Same s s8 = either (Same s) (eqb f.kind 8) (window_update f s) s (same_update f s) refl in
    let b : Same s s7 = either (Same s) (eqb f.kind 7) (goaway f s) s8 refl a in
    let c : Same s s6 = either (Same s) (eqb f.kind 6) (ping f s) s7 (same_ping f s) b in
    let d : Same s s4 = either (Same s) (eqb f.kind 4) (settings f s) s6 (same_set f s) c in
    either (Same s) (eqb f.kind 3) (if_open (stream_at s.streams f.stream) s (λ st. reset_of f st s)) s4 (same_reset f s) d

third : (P : State → Type 0) (a b : Bool) (x y z : State) → b ≡ false → P x → P z → P (cond a x (cond b y z))
third P true b x y z e p q = p
third P false true x y z e p q = absurd cc
third P false false x y z e p q = q

same_effect : (s : State) (f : Frame) → (eqb f.kind 1 || eqb f.kind 9) ≡ false → Same s (effect s f)
unfolding effect
same_effect s f kind =
    third (Same s) (eqb f.kind 0) (eqb f.kind 1 || eqb f.kind 9) (data_of f s (stream_at s.streams f.stream)) (block_of_headers f s) (others s f) kind (same_data f s (stream_at s.streams f.stream)) (same_others s f)

-- ---- header blocks

-- a stream of this number has the windows with which one begins
abbrev Begins : ℕ → ℕ → Stream → Type 0
Begins n initial st = st.number ≡ n → (st.receive ≡ pos stream_window) × (st.send ≡ pos initial)

record New (n initial : ℕ) (t : State) : Type 0 where
  setting : t.initial ≡ initial
  all : AllByRecursion (Begins n initial) t.streams

none_all : (n i : ℕ) (ss : List Stream) → stream_at ss n ≡ None → AllByRecursion (Begins n i) ss
unfolding stream_at
none_all n i [] e = tt
none_all n i (x ∷ ss) e = by_test (eqb x.number n) refl (none_all n i ss) e
  where
    by_test : (b : Bool) → eqb x.number n ≡ b → (stream_at ss n ≡ None → AllByRecursion (Begins n i) ss) → cond b (Some x) (stream_at ss n) ≡ None → Begins n i x × AllByRecursion (Begins n i) ss
    by_test true t rest h = absurd cc
    by_test false t rest h = (λ same. absurd (eqb-false x.number n t same), rest h)

new_reply : (n i : ℕ) (frame : List ℕ) (t : State) → New n i t → New n i (reply frame t)
unfolding reply fail
new_reply n i frame t h =
    either (New n i) (ltb reply_limit (reply_bytes t.out + length frame)) (fail 11 t) (record t { out = put t.out true frame })
    (record { setting = h.setting; all = h.all }) (record { setting = h.setting; all = h.all })

new_on : (n i m : ℕ) (f : Stream → Stream) (t : State) → ((st : Stream) → Begins n i st → Begins n i (f st)) → New n i t → New n i (on_stream m f t)
new_on n i m f t keeps h = record { setting = h.setting; all = all_tidied (Begins n i) (change t.streams m f) (all_change (Begins n i) t.streams m f (λ st found b. keeps st b) h.all) }

new_ends : (n i m : ℕ) (t : State) → New n i t → New n i (peer_ends m t)
unfolding peer_ends
new_ends n i m t h = let on = new_on n i m (λ st. record st { peer_open = false }) t (λ st b. b) h in record { setting = on.setting; all = on.all }

new_ended : (n i m : ℕ) (ends : Bool) (t : State) → New n i t → New n i (ended_if ends m t)
new_ended n i m ends t h = either (New n i) ends (peer_ends m t) t (new_ends n i m t h) h

new_request : (n i m : ℕ) (ends : Bool) (fields : List Field) (t : State) → New n i t → New n i (request m ends fields t)
unfolding request accepted
new_request n i m ends fields t h =
    let refused : (code : ℕ) → New n i (reply (reset_frame m code) (opens m t)) = λ code. new_reply n i (reset_frame m code) (opens m t) (record { setting = h.setting; all = h.all }) in
    let pushed : State = event (record t { opened = m; streams = t.streams ++ new_stream m t ∷ [] }) (Opened m fields) in
    let there : New n i pushed = record { setting = h.setting; all = all_push (Begins n i) t.streams (new_stream m t) h.all (λ same. (refl, ap pos h.setting)) } in
    either (New n i) (leb stream_limit (open_count t.streams)) (reply (reset_frame m 7) (opens m t)) _ (refused 7)
    (either (New n i) (is_malformed_request fields) (reply (reset_frame m 1) (opens m t)) (accepted m ends fields t) (refused 1) (new_ended n i m ends pushed there))

new_headed : (n i m : ℕ) (ends : Bool) (fields : List Field) (t : State) → New n i t → New n i (headed m ends fields t)
unfolding headed
new_headed n i m ends fields t h =
    let on = new_on n i m (λ st. record st { answered = true }) t (λ st b. b) h in
    new_ended n i m ends (event (on_stream m (λ st. record st { answered = true }) t) (Head m fields)) (record { setting = on.setting; all = on.all })

new_refused : (n i m : ℕ) (t : State) → New n i t → New n i (refused_response m t)
unfolding refused_response
new_refused n i m t h =
    let on = new_on n i m shut t (λ st b. b) h in
    new_reply n i (reset_frame m 1) (event (on_stream m shut t) (Reset m 1)) (record { setting = on.setting; all = on.all })

new_response : (n i m : ℕ) (ends : Bool) (fields : List Field) (st : Stream) (t : State) → New n i t → New n i (response m ends fields st t)
unfolding response
new_response n i m ends fields st t h =
    either (New n i) st.answered (peer_ends m t) _ (new_ends n i m t h)
    (either (New n i) (is_informational fields && not ends) t _ h
    (either (New n i) (is_malformed_response fields || is_informational fields) (refused_response m t) (headed m ends fields t) (new_refused n i m t h) (new_headed n i m ends fields t h)))

new_head : (n i m : ℕ) (ends : Bool) (fields : List Field) (t : State) → New n i t → New n i (head_of m ends fields t)
unfolding head_of
new_head n i m ends fields t h =
    either (New n i) (is_client t.role) (if_open (stream_at t.streams m) t (λ st. response m ends fields st t)) _
    (open_or (New n i) (stream_at t.streams m) t (λ st. response m ends fields st t) h (λ st. new_response n i m ends fields st t h))
    (either (New n i) (ltb t.opened m) (request m ends fields t) (if_open (stream_at t.streams m) t (λ st. peer_ends m t)) (new_request n i m ends fields t h)
    (open_or (New n i) (stream_at t.streams m) t (λ st. peer_ends m t) h (λ st. new_ends n i m t h)))

new_decoded : (n i m : ℕ) (ends : Bool) (t : State) (r : Result Progress HpackFault) → New n i t → New n i (decoded m ends t r)
new_decoded n i m ends t (Ok p) h = new_head n i m ends p.fields (record t { block = None; decoder = p.table }) (record { setting = h.setting; all = h.all })
new_decoded n i m ends t (Err e) h = h

new_block : (n i : ℕ) (f : Frame) (t : State) → New n i t → New n i (block_of_headers f t)
unfolding block_of_headers block_grown
new_block n i f t h =
    either (New n i) (ends_block f) (decoded f.stream (block_ends t.block f) t (read_block t.decoder (block_with t f))) (block_grown f t)
    (new_decoded n i f.stream (block_ends t.block f) t (read_block t.decoder (block_with t f)) h) (record { setting = h.setting; all = h.all })

second : (a b : Bool) (x y z : State) → a ≡ false → b ≡ true → cond a x (cond b y z) ≡ y
second true b x y z e k = absurd cc
second false true x y z e k = refl
second false false x y z e k = absurd cc

block_effect : (t : State) (f : Frame) → (eqb f.kind 1 || eqb f.kind 9) ≡ true → effect t f ≡ block_of_headers f t
unfolding effect
block_effect t f kind =
    second (eqb f.kind 0) (eqb f.kind 1 || eqb f.kind 9) (data_of f t (stream_at t.streams f.stream)) (block_of_headers f t) (others t f) (not_data (eqb f.kind 0) refl) kind
  where
    not_data : (b : Bool) → eqb f.kind 0 ≡ b → b ≡ false
    not_data true z =
        let zero : f.kind ≡ 0 = eqb-true f.kind 0 z in
        let neither : (eqb f.kind 1 || eqb f.kind 9) ≡ false = ap (λ (k : ℕ). eqb k 1 || eqb k 9) zero in
        absurd (let both : true ≡ false = sym kind ∙ neither in cc)
    not_data false z = refl

-- ---- a frame

-- a stream that was idle and that the connection has after a frame begins with these windows
pub fresh_windows : (s : State) (f : Frame) (n : ℕ) (st : Stream) → Holds s → Holds (after_frame s f) → (after_frame s f).failed ≡ None → s.opened < n
    → stream_at (after_frame s f).streams n ≡ Some st → (st.receive ≡ pos stream_window) × (st.send ≡ pos (after_frame s f).initial)
fresh_windows s f n st h later e above found = by_kind (eqb f.kind 1 || eqb f.kind 9) refl
  where
    t : State
    t = record s { began = true }

    is : after_frame s f ≡ effect t f
    is = (goes_on s f e).after

    by_kind : (b : Bool) → (eqb f.kind 1 || eqb f.kind 9) ≡ b → (st.receive ≡ pos stream_window) × (st.send ≡ pos (after_frame s f).initial)
    by_kind true k =
        let new : New n s.initial (block_of_headers f t) = new_block n s.initial f t (record { setting = refl; all = none_all n s.initial s.streams (none_there s n h above) }) in
        let here : New n s.initial (after_frame s f) = subst (New n s.initial) (sym (is ∙ block_effect t f k)) new in
        let windows = all_at (Begins n s.initial) (after_frame s f).streams n st here.all found (number_of (after_frame s f).streams n st found) in
        (windows.0, windows.1 ∙ ap pos (sym here.setting))
    by_kind false k =
        let same : (after_frame s f).opened ≡ s.opened = ap (λ (u : State). u.opened) is ∙ same_effect t f k in
        let none = none_there (after_frame s f) n later (omega (arith, same, above)) in
        absurd (let both : Some st ≡ None = sym found ∙ none in cc)
