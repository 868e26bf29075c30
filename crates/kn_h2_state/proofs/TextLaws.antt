-- The text of a stream is the join of the contents of its DATA frames.
use Rattle.std.proofs.Common.{◌≡◌, ◌≢◌, ℕ, Bool, true, false, not, ◌&&◌, ◌||◌, nat_lt, nat_le, length, List, [], ◌∷◌, ◌++◌, Option, Some, None, Result, Ok, Err, refl, sym, ap, ◌∙◌, ◌+ℤ◌, ◌<◌, pos, append-nil, if◌then◌else◌}
use Rattle.std.specs.Bool.{◌==◌}
use Rattle.std.proofs.lemmas.Bool.{eqb-true, eqb-false, ltb-true}
use Rattle.kn_frames.specs.declared.frame.Frame.{Frame}
use Rattle.kn_hpack.specs.Fields.{Field}
use Rattle.kn_hpack.specs.Blocks.{Progress, read_block}
use Rattle.kn_hpack.specs.declared.fault.HpackFault.{HpackFault}
use Rattle.kn_h2_state.specs.declared.event.H2Event.TheVariants.{Opened, Head, Text, Reset}
use Rattle.kn_h2_state.specs.declared.stream.Stream.{Stream}
use Rattle.kn_h2_state.specs.declared.state.State.{State}
use Rattle.kn_h2_state.specs.Limits.{stream_limit}
use Rattle.kn_h2_state.specs.Streams.{stream_at, change, is_open, open_count, shut, on_open, passes}
use Rattle.kn_h2_state.specs.Payloads.{has, content, number_at, increment_of, reset_frame}
use Rattle.kn_h2_state.specs.Heads.{is_malformed_request, is_malformed_response, is_informational}
use Rattle.kn_h2_state.specs.Rules.{is_client, block_with, ends_block, verdict}
use Rattle.kn_h2_state.specs.Effects.{event, reply, on_stream, peer_ends, if_open, with_text, data_taken, ended_if, data_in, data_dropped, data_of, new_stream, opens, accepted, request, headed, refused_response, response, head_of, decoded, block_ends, block_grown, block_of_headers, cut_off, reset_of, with_grant, window_update, settings, effect}
use Rattle.kn_h2_state.specs.Feeding.{judged, after_frame}
use Rattle.kn_h2_state.specs.Calls.{text_in, text_of}
use Rattle.kn_h2_state.specs.Laws.{brought, TextGrows}
use Rattle.kn_h2_state.proofs.SeenLemmas.{KeepsNumber, KeepsText, at_change, at_changed, text_change, text_push, text_tidied, text_as_seen, Climbs, climbs_change, climbs_tidied}
use Rattle.kn_h2_state.proofs.OtherLaws.{either, open_or, by_kind, reply_streams, same_ping, same_goaway, alike_all_settings}
use Rattle.kn_h2_state.proofs.BorneLemmas.{Rises, rises, climbing, rises_push}
use Rattle.kn_h2_state.proofs.PieceLaws.{after_frame-judged}

-- the text of the stream n is as it was
abbrev Unread : ℕ → State → State → Type 0
Unread n s t = text_of t n ≡ text_of s n

text_on : (m n : ℕ) (f : Stream → Stream) (s : State) → KeepsNumber f → KeepsText f → Climbs 0 s.streams → Unread n s (on_stream m f s)
text_on m n f s k keeps c = text_tidied 0 n (change s.streams m f) (climbs_change 0 s.streams m f k c) ∙ text_change s.streams m n f k keeps

text_ends : (m n : ℕ) (s : State) → Climbs 0 s.streams → Unread n s (peer_ends m s)
unfolding peer_ends
text_ends m n s c = text_on m n (λ st. record st { peer_open = false }) s (λ st. refl) (λ st. refl) c

text_ended : (ends : Bool) (m n : ℕ) (s : State) → Climbs 0 s.streams → Unread n s (ended_if ends m s)
text_ended ends m n s c = either (Unread n s) ends (peer_ends m s) s (text_ends m n s c) refl

text_reply : (n : ℕ) (frame : List ℕ) (s : State) → Unread n s (reply frame s)
text_reply n frame s = ap (λ ss. text_in (stream_at ss n)) (reply_streams frame s)

chosen : (P : State → Type 0) (b : Bool) (x y : State) → (b ≡ true → P x) → (b ≡ false → P y) → P (if b then x else y)
chosen P true x y p q = p refl
chosen P false x y p q = q refl

-- ---- header blocks bring no text

text_request : (m n : ℕ) (ends : Bool) (fields : List Field) (s : State) → Rises 0 s.opened s.streams → s.opened < m → Unread n s (request m ends fields s)
unfolding request accepted
text_request m n ends fields s r above =
    let refused : (code : ℕ) → Unread n s (reply (reset_frame m code) (opens m s)) = λ code. text_reply n (reset_frame m code) (opens m s) in
    let pushed : State = event (record s { opened = m; streams = s.streams ++ new_stream m s ∷ [] }) (Opened m fields) in
    let there : Unread n s pushed = text_push s.streams n (new_stream m s) refl in
    let begun : Unread n s (accepted m ends fields s) = text_ended ends m n pushed (climbing 0 m pushed.streams (rises_push 0 s.opened s.streams (new_stream m s) r above)) ∙ there in
    either (Unread n s) (nat_le stream_limit (open_count s.streams)) (reply (reset_frame m 7) (opens m s))
    (if is_malformed_request fields then reply (reset_frame m 1) (opens m s) else accepted m ends fields s) (refused 7)
    (either (Unread n s) (is_malformed_request fields) (reply (reset_frame m 1) (opens m s)) (accepted m ends fields s) (refused 1) begun)

text_headed : (m n : ℕ) (ends : Bool) (fields : List Field) (s : State) → Climbs 0 s.streams → Unread n s (headed m ends fields s)
unfolding headed
text_headed m n ends fields s c =
    let told : State = event (on_stream m (λ st. record st { answered = true }) s) (Head m fields) in
    let there : Unread n s told = text_on m n (λ st. record st { answered = true }) s (λ st. refl) (λ st. refl) c in
    text_ended ends m n told (climbs_tidied 0 (change s.streams m (λ st. record st { answered = true })) (climbs_change 0 s.streams m (λ st. record st { answered = true }) (λ st. refl) c)) ∙ there

text_refused : (m n : ℕ) (s : State) → Climbs 0 s.streams → Unread n s (refused_response m s)
unfolding refused_response
text_refused m n s c =
    text_reply n (reset_frame m 1) (event (on_stream m shut s) (Reset m 1)) ∙ text_on m n shut s (λ st. refl) (λ st. refl) c

text_response : (m n : ℕ) (ends : Bool) (fields : List Field) (st : Stream) (s : State) → Climbs 0 s.streams → Unread n s (response m ends fields st s)
unfolding response
text_response m n ends fields st s c =
    either (Unread n s) st.answered (peer_ends m s)
    (if is_informational fields && not ends then s else (if is_malformed_response fields || is_informational fields then refused_response m s else headed m ends fields s))
    (text_ends m n s c)
    (either (Unread n s) (is_informational fields && not ends) s (if is_malformed_response fields || is_informational fields then refused_response m s else headed m ends fields s) refl
    (either (Unread n s) (is_malformed_response fields || is_informational fields) (refused_response m s) (headed m ends fields s) (text_refused m n s c)
    (text_headed m n ends fields s c)))

text_head : (m n : ℕ) (ends : Bool) (fields : List Field) (s : State) → Rises 0 s.opened s.streams → Unread n s (head_of m ends fields s)
unfolding head_of
text_head m n ends fields s r =
    let c : Climbs 0 s.streams = climbing 0 s.opened s.streams r in
    let at_client : Unread n s (if_open (stream_at s.streams m) s (λ st. response m ends fields st s)) =
    open_or (Unread n s) (stream_at s.streams m) s (λ st. response m ends fields st s) refl (λ st. text_response m n ends fields st s c) in
    let trailers : Unread n s (if_open (stream_at s.streams m) s (λ st. peer_ends m s)) =
    open_or (Unread n s) (stream_at s.streams m) s (λ st. peer_ends m s) refl (λ st. text_ends m n s c) in
    either (Unread n s) (is_client s.role) (if_open (stream_at s.streams m) s (λ st. response m ends fields st s))
    (if nat_lt s.opened m then request m ends fields s else if_open (stream_at s.streams m) s (λ st. peer_ends m s)) at_client
    (chosen (Unread n s) (nat_lt s.opened m) (request m ends fields s) (if_open (stream_at s.streams m) s (λ st. peer_ends m s))
    (λ t. text_request m n ends fields s r (ltb-true s.opened m t)) (λ t. trailers))

text_decoded : (m n : ℕ) (ends : Bool) (s : State) (o : Result Progress HpackFault) → Rises 0 s.opened s.streams → Unread n s (decoded m ends s o)
text_decoded m n ends s (Ok p) r = text_head m n ends p.fields (record s { block = None; decoder = p.table }) r
text_decoded m n ends s (Err e) r = refl

text_block : (f : Frame) (n : ℕ) (s : State) → Rises 0 s.opened s.streams → Unread n s (block_of_headers f s)
unfolding block_of_headers block_grown
text_block f n s r =
    either (Unread n s) (ends_block f) (decoded f.stream (block_ends s.block f) s (read_block s.decoder (block_with s f))) (block_grown f s)
    (text_decoded f.stream n (block_ends s.block f) s (read_block s.decoder (block_with s f)) r) refl

-- ---- WINDOW_UPDATE

text_update : (f : Frame) (n : ℕ) (s : State) → Unread n s (window_update f s)
unfolding window_update
text_update f n s =
    either (Unread n s) (f.stream == 0) (record s { send = s.send +ℤ pos (increment_of f.payload) })
    (record s { streams = change s.streams f.stream (with_grant (increment_of f.payload)) }) refl
    (text_change s.streams f.stream n (with_grant (increment_of f.payload)) (λ st. number (is_open st) st) (λ st. text (is_open st) st))
  where
    number : (b : Bool) (st : Stream) → (if b then record st { send = st.send +ℤ pos (increment_of f.payload) } else st).number ≡ st.number
    number true st = refl
    number false st = refl

    text : (b : Bool) (st : Stream) → (if b then record st { send = st.send +ℤ pos (increment_of f.payload) } else st).text ≡ st.text
    text true st = refl
    text false st = refl

-- ---- DATA

brings : (n : ℕ) (s : State) (f : Frame) → ((f.kind == 0) && ((f.stream == n) && on_open s.streams n (λ st. true))) ≡ true → brought n s f ≡ content f
unfolding brought
brings n s f e = ap (λ b. if b then content f else []) e

brings_none : (n : ℕ) (s : State) (f : Frame) → ((f.kind == 0) && ((f.stream == n) && on_open s.streams n (λ st. true))) ≡ false → brought n s f ≡ []
unfolding brought
brings_none n s f e = ap (λ b. if b then content f else []) e

-- nothing comes, and nothing is brought
unmoved : (n : ℕ) (s t : State) (f : Frame) → Unread n s t → brought n s f ≡ [] → text_of t n ≡ text_of s n ++ brought n s f
unmoved n s t f u b = u ∙ (sym (append-nil (text_of s n)) ∙ ap (λ xs. text_of s n ++ xs) (sym b))

text_data_in : (f : Frame) (n : ℕ) (s : State) (xs : List ℕ) → Climbs 0 s.streams → text_of (data_taken f s) n ≡ xs → text_of (data_in f s) n ≡ xs
unfolding data_in data_taken
text_data_in f n s xs c e =
    let taken : State = data_taken f s in
    let climbs_on : Climbs 0 taken.streams = climbs_change 0 s.streams f.stream (with_text (length f.payload) (content f)) (λ st. refl) c in
    ended (length (content f) == 0) climbs_on
  where
    ended : (b : Bool) → Climbs 0 (data_taken f s).streams
        → text_of (ended_if (has f 1) f.stream (if b then data_taken f s else event (data_taken f s) (Text f.stream))) n ≡ xs
    ended true c' = text_ended (has f 1) f.stream n (data_taken f s) c' ∙ e
    ended false c' = text_ended (has f 1) f.stream n (event (data_taken f s) (Text f.stream)) c' ∙ e

and_false : (a b : Bool) → b ≡ false → (a && b) ≡ false
and_false true b e = e
and_false false b e = refl

text_data : (f : Frame) (n : ℕ) (s : State) → Climbs 0 s.streams → (f.kind == 0) ≡ true → text_of (data_of f s (stream_at s.streams f.stream)) n ≡ text_of s n ++ brought n s f
unfolding data_dropped data_taken
text_data f n s c kind = by_stream (stream_at s.streams f.stream) refl
  where
    -- the stream is not this one
    apart : (f.stream == n) ≡ false → brought n s f ≡ []
    apart e = brings_none n s f (and_false (f.kind == 0) ((f.stream == n) && on_open s.streams n (λ st. true)) (ap (λ b. b && on_open s.streams n (λ st. true)) e))

    -- it is closed
    closed : (o : Option Stream) → stream_at s.streams f.stream ≡ o → passes (λ st. true) o ≡ false → brought n s f ≡ []
    closed o e p = by_number (f.stream == n) refl
      where
        by_number : (b : Bool) → (f.stream == n) ≡ b → brought n s f ≡ []
        by_number false t = apart t
        by_number true t =
            let here : on_open s.streams n (λ st. true) ≡ false = ap (λ m. passes (λ st. true) (stream_at s.streams m)) (sym (eqb-true f.stream n t)) ∙ (ap (λ q. passes (λ st. true) q) e ∙ p) in
            brings_none n s f (and_false (f.kind == 0) ((f.stream == n) && on_open s.streams n (λ st. true)) (and_false (f.stream == n) (on_open s.streams n (λ st. true)) here))

    -- it is open
    open_here : (st : Stream) → stream_at s.streams f.stream ≡ Some st → is_open st ≡ true → text_of (data_taken f s) n ≡ text_of s n ++ brought n s f
    open_here st e o = by_number (f.stream == n) refl
      where
        by_number : (b : Bool) → (f.stream == n) ≡ b → text_of (data_taken f s) n ≡ text_of s n ++ brought n s f
        by_number false t =
            let other : f.stream ≢ n = eqb-false f.stream n t in
            unmoved n s (data_taken f s) f (ap text_in (at_change s.streams f.stream n (with_text (length f.payload) (content f)) (λ x. refl) other)) (apart t)
        by_number true t =
            let same : f.stream ≡ n = eqb-true f.stream n t in
            let here : stream_at s.streams n ≡ Some st = ap (λ m. stream_at s.streams m) (sym same) ∙ e in
            let opened : on_open s.streams n (λ x. true) ≡ true = ap (λ q. passes (λ x. true) q) here ∙ ap (λ b. b && true) o in
            let brings_it : brought n s f ≡ content f =
            brings n s f (ap (λ b. b && ((f.stream == n) && on_open s.streams n (λ x. true))) kind ∙ (ap (λ b. b && on_open s.streams n (λ x. true)) t ∙ opened)) in
            let after : text_of (data_taken f s) n ≡ st.text ++ content f =
            ap (λ m. text_in (stream_at (change s.streams m (with_text (length f.payload) (content f))) n)) same
            ∙ ap text_in (at_changed s.streams n (with_text (length f.payload) (content f)) st (λ x. refl) here) in
            let before : text_of s n ≡ st.text = ap text_in here in
            after ∙ (ap (λ xs. xs ++ content f) (sym before) ∙ ap (λ xs. text_of s n ++ xs) (sym brings_it))

    by_open : (st : Stream) → stream_at s.streams f.stream ≡ Some st → (b : Bool) → is_open st ≡ b → text_of (if b then data_in f s else data_dropped f s) n ≡ text_of s n ++ brought n s f
    by_open st e true o = text_data_in f n s (text_of s n ++ brought n s f) c (open_here st e o)
    by_open st e false o = unmoved n s (data_dropped f s) f refl (closed (Some st) e (ap (λ b. b && true) o))

    by_stream : (o : Option Stream) → stream_at s.streams f.stream ≡ o → text_of (data_of f s o) n ≡ text_of s n ++ brought n s f
    by_stream None e = unmoved n s (data_dropped f s) f refl (closed None e refl)
    by_stream (Some st) e = by_open st e (is_open st) refl

-- ---- a frame

pub data_effect : (s : State) (f : Frame) → (f.kind == 0) ≡ true → effect s f ≡ data_of f s (stream_at s.streams f.stream)
unfolding effect
data_effect s f e = first (f.kind == 0) _ _ e
  where
    first : (b : Bool) (x y : State) → b ≡ true → (if b then x else y) ≡ x
    first true x y t = refl
    first false x y t = absurd cc

-- RST_STREAM of another stream
text_reset : (f : Frame) (n : ℕ) (st : Stream) (s : State) → Climbs 0 s.streams → f.stream ≢ n → Unread n s (reset_of f st s)
unfolding reset_of cut_off
text_reset f n st s c other =
    let cut : Stream → Stream = λ x. record (shut x) { text = [] } in
    either (Unread n s) (is_client s.role && (number_at f.payload 0 == 0) && not st.peer_open) (on_stream f.stream shut s) (cut_off f.stream (number_at f.payload 0) st s)
    (text_on f.stream n shut s (λ x. refl) (λ x. refl) c)
    (text_tidied 0 n (change s.streams f.stream cut) (climbs_change 0 s.streams f.stream cut (λ x. refl) c) ∙ ap text_in (at_change s.streams f.stream n cut (λ x. refl) other))

-- what is not DATA brings no text, where this holds of a reset
pub text_other : (f : Frame) (n : ℕ) (s : State) → Rises 0 s.opened s.streams → (f.kind == 0) ≡ false
    → ((f.kind == 3) ≡ true → (st : Stream) → stream_at s.streams f.stream ≡ Some st → is_open st ≡ true → Unread n s (reset_of f st s)) → Unread n s (effect s f)
text_other f n s r kind reset =
    by_kind (Unread n s) s f
    (λ z. absurd cc)
    (text_block f n s r)
    (λ z. on_some z (stream_at s.streams f.stream) refl)
    (text_as_seen (stream_at (settings f s).streams n) (stream_at s.streams n) (alike_all_settings f n s))
    (ap text_in (same_ping f n s))
    (ap text_in (same_goaway f n s))
    (text_update f n s)
    refl
  where
    on_some : (f.kind == 3) ≡ true → (o : Option Stream) → stream_at s.streams f.stream ≡ o → Unread n s (if_open o s (λ st. reset_of f st s))
    on_some z None e = refl
    on_some z (Some st) e = chosen (Unread n s) (is_open st) (reset_of f st s) s (reset z st e) (λ t. refl)

pub text_effect : (f : Frame) (n : ℕ) (s : State) → Rises 0 s.opened s.streams → ((f.kind == 3) && (f.stream == n)) ≡ false
    → text_of (effect s f) n ≡ text_of s n ++ brought n s f
text_effect f n s r h = by_test (f.kind == 0) refl
  where
    c : Climbs 0 s.streams
    c = climbing 0 s.opened s.streams r

    apart : (f.kind == 3) ≡ true → f.stream ≢ n
    apart t = eqb-false f.stream n (sym (ap (λ b. b && (f.stream == n)) t) ∙ h)

    by_test : (b : Bool) → (f.kind == 0) ≡ b → text_of (effect s f) n ≡ text_of s n ++ brought n s f
    by_test true t = ap (λ u. text_of u n) (data_effect s f t) ∙ text_data f n s c t
    by_test false t =
        unmoved n s (effect s f) f
        (text_other f n s r t (λ z st e o. text_reset f n st s c (apart z)))
        (brings_none n s f (ap (λ b. b && ((f.stream == n) && on_open s.streams n (λ st. true))) t))

-- a frame that breaks no rule
pub text_goes_on : (s : State) (f : Frame) (n : ℕ) → Rises 0 s.opened s.streams → s.failed ≡ None → verdict s f ≡ None → ((f.kind == 3) && (f.stream == n)) ≡ false
    → text_of (after_frame s f) n ≡ text_of s n ++ brought n s f
unfolding brought
text_goes_on s f n r on v other =
    let judged_so : after_frame s f ≡ effect (record s { began = true }) f = after_frame-judged s f on ∙ ap (λ o. judged s f o) v in
    ap (λ t. text_of t n) judged_so ∙ text_effect f n (record s { began = true }) r other

pub text_grows : TextGrows
text_grows s f n h on v other = text_goes_on s f n (rises 0 s.opened s.streams h.rising) on v other
