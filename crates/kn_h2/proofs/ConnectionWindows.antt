-- How frames of the peer change the windows of the connection.
use Rattle.std.proofs.Common.{◌≡◌, ℕ, ℤ, pos, ◌+◌, ◌+ℤ◌, ◌-ℤ◌, Bool, true, false, not, ◌&&◌, ◌||◌, cond, eqb, leb, ltb, List, [], ◌∷◌, ◌++◌, length, Option, Some, None, is_some, Result, Ok, Err, refl, sym, ap, ◌∙◌, subst, arith}
use Rattle.std.proofs.lemmas.Int.{ints}
use Rattle.std.proofs.lemmas.Bool.{eqb-true}
use Rattle.kn_frames.specs.declared.frame.Frame.{Frame}
use Rattle.kn_frames.specs.Frames.{spelled}
use Rattle.kn_hpack.specs.Fields.{Field}
use Rattle.kn_hpack.specs.Blocks.{Progress, read_block}
use Rattle.kn_hpack.specs.declared.fault.HpackFault.{HpackFault}
use Rattle.kn_h2_state.specs.declared.event.H2Event.TheVariants.{Opened, Head, Text, Reset}
use Rattle.kn_h2_state.specs.declared.stream.Stream.{Stream}
use Rattle.kn_h2_state.specs.declared.state.State.{State}
use Rattle.kn_h2_state.specs.Limits.{reply_limit, stream_limit}
use Rattle.kn_h2_state.specs.Outgoing.{reply_bytes, put}
use Rattle.kn_h2_state.specs.Streams.{stream_at, change, is_open, open_count, shut}
use Rattle.kn_h2_state.specs.Payloads.{has, content, number_at, increment_of, settings_of, reset_frame}
use Rattle.kn_h2_state.specs.Heads.{is_malformed_request, is_malformed_response, is_informational}
use Rattle.kn_h2_state.specs.Rules.{is_client, block_with, ends_block, shifted, verdict}
use Rattle.kn_h2_state.specs.Effects.{event, fail, reply, on_stream, peer_ends, if_open, data_taken, text_told, ended_if, data_in, data_dropped, data_of, new_stream, opens, accepted, request, headed, refused_response, response, head_of, decoded, block_ends, block_grown, block_of_headers, cut_off, reset_of, after_setting, after_settings, settings, ping, goaway, with_grant, window_update, effect}
use Rattle.kn_h2_state.specs.Feeding.{judged, after_frame}
use Rattle.kn_h2_state.specs.Wire.{frame_grant}
use Rattle.kn_h2.specs.Windows.{ConnectionFollows, FramesShiftAll}

-- the windows are these
record Are (a b : ℤ) (t : State) : Type 0 where
  receive : t.receive ≡ a
  send : t.send ≡ b

choose : (a b : ℤ) (c : Bool) (x y : State) → Are a b x → Are a b y → Are a b (cond c x y)
choose a b true x y p q = p
choose a b false x y p q = q

same : (s : State) → Are s.receive s.send s
same s = record { receive = refl; send = refl }

replied : (a b : ℤ) (frame : List ℕ) (s : State) → Are a b s → Are a b (reply frame s)
unfolding reply fail
replied a b frame s h =
    choose a b (ltb reply_limit (reply_bytes s.out + length frame)) (fail 11 s) (record s { out = put s.out true frame })
    (record { receive = h.receive; send = h.send }) (record { receive = h.receive; send = h.send })

ended : (a b : ℤ) (ends : Bool) (m : ℕ) (s : State) → Are a b s → Are a b (ended_if ends m s)
unfolding peer_ends
ended a b ends m s h = choose a b ends (peer_ends m s) s (record { receive = h.receive; send = h.send }) h

if_opened : (a b : ℤ) (o : Option Stream) (s : State) (next : Stream → State) → Are a b s → ((x : Stream) → Are a b (next x)) → Are a b (if_open o s next)
if_opened a b None s next h k = h
if_opened a b (Some x) s next h k = choose a b (is_open x) (next x) s (k x) h

-- ---- header blocks

requested : (m : ℕ) (ends : Bool) (fields : List Field) (s : State) → Are s.receive s.send (request m ends fields s)
unfolding request accepted
requested m ends fields s =
    choose s.receive s.send (leb stream_limit (open_count s.streams)) (reply (reset_frame m 7) (opens m s)) (cond (is_malformed_request fields) (reply (reset_frame m 1) (opens m s)) (accepted m ends fields s))
    (replied s.receive s.send (reset_frame m 7) (opens m s) (record { receive = refl; send = refl }))
    (choose s.receive s.send (is_malformed_request fields) (reply (reset_frame m 1) (opens m s)) (accepted m ends fields s)
    (replied s.receive s.send (reset_frame m 1) (opens m s) (record { receive = refl; send = refl }))
    (ended s.receive s.send ends m (event (record s { opened = m; streams = s.streams ++ new_stream m s ∷ [] }) (Opened m fields)) (record { receive = refl; send = refl })))

responded : (m : ℕ) (ends : Bool) (fields : List Field) (x : Stream) (s : State) → Are s.receive s.send (response m ends fields x s)
unfolding response refused_response headed peer_ends
responded m ends fields x s =
    choose s.receive s.send x.answered (peer_ends m s) (cond (is_informational fields && not ends) s (cond (is_malformed_response fields || is_informational fields) (refused_response m s) (headed m ends fields s)))
    (record { receive = refl; send = refl })
    (choose s.receive s.send (is_informational fields && not ends) s (cond (is_malformed_response fields || is_informational fields) (refused_response m s) (headed m ends fields s)) (same s)
    (choose s.receive s.send (is_malformed_response fields || is_informational fields) (refused_response m s) (headed m ends fields s)
    (replied s.receive s.send (reset_frame m 1) (event (on_stream m shut s) (Reset m 1)) (record { receive = refl; send = refl }))
    (ended s.receive s.send ends m (event (on_stream m (λ (y : Stream). record y { answered = true }) s) (Head m fields)) (record { receive = refl; send = refl }))))

headed_so : (m : ℕ) (ends : Bool) (fields : List Field) (s : State) → Are s.receive s.send (head_of m ends fields s)
unfolding head_of peer_ends
headed_so m ends fields s =
    choose s.receive s.send (is_client s.role) (if_open (stream_at s.streams m) s (λ x. response m ends fields x s)) (cond (ltb s.opened m) (request m ends fields s) (if_open (stream_at s.streams m) s (λ x. peer_ends m s)))
    (if_opened s.receive s.send (stream_at s.streams m) s (λ x. response m ends fields x s) (same s) (λ x. responded m ends fields x s))
    (choose s.receive s.send (ltb s.opened m) (request m ends fields s) (if_open (stream_at s.streams m) s (λ x. peer_ends m s)) (requested m ends fields s)
    (if_opened s.receive s.send (stream_at s.streams m) s (λ x. peer_ends m s) (same s) (λ x. record { receive = refl; send = refl })))

decoded_so : (m : ℕ) (ends : Bool) (s : State) (o : Result Progress HpackFault) → Are s.receive s.send (decoded m ends s o)
decoded_so m ends s (Ok p) = headed_so m ends p.fields (record s { block = None; decoder = p.table })
decoded_so m ends s (Err e) = same s

blocks : (f : Frame) (s : State) → Are s.receive s.send (block_of_headers f s)
unfolding block_of_headers block_grown
blocks f s =
    choose s.receive s.send (ends_block f) (decoded f.stream (block_ends s.block f) s (read_block s.decoder (block_with s f))) (block_grown f s)
    (decoded_so f.stream (block_ends s.block f) s (read_block s.decoder (block_with s f))) (record { receive = refl; send = refl })

-- ---- the other frames

resets : (f : Frame) (s : State) → Are s.receive s.send (if_open (stream_at s.streams f.stream) s (λ x. reset_of f x s))
unfolding reset_of cut_off
resets f s = if_opened s.receive s.send (stream_at s.streams f.stream) s (λ x. reset_of f x s) (same s) of_open
  where
    of_open : (x : Stream) → Are s.receive s.send (reset_of f x s)
    of_open x =
        choose s.receive s.send (is_client s.role && eqb (number_at f.payload 0) 0 && not x.peer_open) (on_stream f.stream shut s) (cut_off f.stream (number_at f.payload 0) x s)
        (record { receive = refl; send = refl }) (record { receive = refl; send = refl })

setting : (a b : ℤ) (s : State) (x : ℕ × ℕ) → Are a b s → Are a b (after_setting s x)
unfolding after_setting
setting a b s x h =
    choose a b (eqb x.0 4) (record s { initial = x.1; streams = shifted s.initial x.1 s.streams }) (cond (eqb x.0 3) (record s { most = Some x.1 }) s) (record { receive = h.receive; send = h.send })
    (choose a b (eqb x.0 3) (record s { most = Some x.1 }) s (record { receive = h.receive; send = h.send }) h)

all_settings : (a b : ℤ) (xs : List (ℕ × ℕ)) (s : State) → Are a b s → Are a b (after_settings s xs)
unfolding after_settings
all_settings a b [] s h = h
all_settings a b (x ∷ xs) s h = all_settings a b xs (after_setting s x) (setting a b s x h)

settings_so : (f : Frame) (s : State) → Are s.receive s.send (settings f s)
unfolding settings
settings_so f s =
    choose s.receive s.send (has f 1) s (reply (spelled 4 1 0 []) (after_settings s (settings_of f.payload))) (same s)
    (replied s.receive s.send (spelled 4 1 0 []) (after_settings s (settings_of f.payload)) (all_settings s.receive s.send (settings_of f.payload) s (same s)))

pings : (f : Frame) (s : State) → Are s.receive s.send (ping f s)
unfolding ping
pings f s = choose s.receive s.send (has f 1) s (reply (spelled 6 1 0 f.payload) s) (same s) (replied s.receive s.send (spelled 6 1 0 f.payload) s (same s))

-- ---- DATA and WINDOW_UPDATE

data_so : (f : Frame) (s : State) (o : Option Stream) → Are (s.receive -ℤ pos (length f.payload)) s.send (data_of f s o)
unfolding data_in data_taken data_dropped
data_so f s None = record { receive = refl; send = refl }
data_so f s (Some st) =
    choose (s.receive -ℤ pos (length f.payload)) s.send (is_open st) (data_in f s) (data_dropped f s)
    (ended (s.receive -ℤ pos (length f.payload)) s.send (has f 1) f.stream (text_told f.stream (content f) (data_taken f s))
    (choose (s.receive -ℤ pos (length f.payload)) s.send (eqb (length (content f)) 0) (data_taken f s) (event (data_taken f s) (Text f.stream)) (record { receive = refl; send = refl }) (record { receive = refl; send = refl })))
    (record { receive = refl; send = refl })

update_so : (f : Frame) (s : State) → eqb f.kind 8 ≡ true → Are s.receive (s.send +ℤ pos (frame_grant 0 f)) (window_update f s)
unfolding window_update frame_grant
update_so f s k = by_test (eqb f.stream 0) refl
  where
    by : ℕ
    by = increment_of f.payload

    by_test : (c : Bool) → eqb f.stream 0 ≡ c → Are s.receive (s.send +ℤ pos (cond (eqb f.kind 8 && eqb f.stream 0) by 0)) (cond c (record s { send = s.send +ℤ pos by }) (record s { streams = change s.streams f.stream (with_grant by) }))
    by_test true t =
        let all : cond (eqb f.kind 8 && eqb f.stream 0) by 0 ≡ by = ap (λ (b : Bool). cond (b && eqb f.stream 0) by 0) k ∙ ap (λ (b : Bool). cond b by 0) t in
        record { receive = refl; send = omega (arith, ints) }
    by_test false t =
        let nothing : cond (eqb f.kind 8 && eqb f.stream 0) by 0 ≡ 0 = ap (λ (b : Bool). cond (b && eqb f.stream 0) by 0) k ∙ ap (λ (b : Bool). cond b by 0) t in
        record { receive = refl; send = omega (arith, ints) }

-- ---- a frame of any kind

no_grant : (f : Frame) → eqb f.kind 8 ≡ false → frame_grant 0 f ≡ 0
unfolding frame_grant
no_grant f t = ap (λ (b : Bool). cond (b && eqb f.stream 0) (increment_of f.payload) 0) t

effect_follows : (s : State) (f : Frame) → ConnectionFollows s (effect s f) f
unfolding effect goaway
effect_follows s f = by_data (eqb f.kind 0) refl
  where
    follows : (t : State) (a b : ℤ) → Are a b t → a ≡ s.receive -ℤ pos (cond (eqb f.kind 0) (length f.payload) 0) → b ≡ s.send +ℤ pos (frame_grant 0 f) → ConnectionFollows s t f
    follows t a b h p q = record { receive = h.receive ∙ p; send = h.send ∙ q }

    none_taken : eqb f.kind 0 ≡ false → s.receive ≡ s.receive -ℤ pos (cond (eqb f.kind 0) (length f.payload) 0)
    none_taken z = let e : cond (eqb f.kind 0) (length f.payload) 0 ≡ 0 = ap (λ (b : Bool). cond b (length f.payload) 0) z in omega (arith, ints)

    none_granted : eqb f.kind 8 ≡ false → s.send ≡ s.send +ℤ pos (frame_grant 0 f)
    none_granted t = let e : frame_grant 0 f ≡ 0 = no_grant f t in omega (arith, ints)

    quiet : (t : State) → eqb f.kind 0 ≡ false → eqb f.kind 8 ≡ false → Are s.receive s.send t → ConnectionFollows s t f
    quiet t z w h = follows t s.receive s.send h (none_taken z) (none_granted w)

    of_kind : (k : ℕ) → eqb f.kind k ≡ true → eqb k 8 ≡ false → eqb f.kind 8 ≡ false
    of_kind k t c = ap (λ (j : ℕ). eqb j 8) (eqb-true f.kind k t) ∙ c

    by_update : (c : Bool) → eqb f.kind 8 ≡ c → eqb f.kind 0 ≡ false → ConnectionFollows s (cond c (window_update f s) s) f
    by_update true t z = follows (window_update f s) s.receive (s.send +ℤ pos (frame_grant 0 f)) (update_so f s t) (none_taken z) refl
    by_update false t z = quiet s z t (same s)

    by_goaway : (c : Bool) → eqb f.kind 7 ≡ c → eqb f.kind 0 ≡ false → ConnectionFollows s (cond c (goaway f s) (cond (eqb f.kind 8) (window_update f s) s)) f
    by_goaway true t z = quiet (goaway f s) z (of_kind 7 t refl) (record { receive = refl; send = refl })
    by_goaway false t z = by_update (eqb f.kind 8) refl z

    by_ping : (c : Bool) → eqb f.kind 6 ≡ c → eqb f.kind 0 ≡ false → ConnectionFollows s (cond c (ping f s) (cond (eqb f.kind 7) (goaway f s) (cond (eqb f.kind 8) (window_update f s) s))) f
    by_ping true t z = quiet (ping f s) z (of_kind 6 t refl) (pings f s)
    by_ping false t z = by_goaway (eqb f.kind 7) refl z

    by_settings : (c : Bool) → eqb f.kind 4 ≡ c → eqb f.kind 0 ≡ false → ConnectionFollows s (cond c (settings f s) (cond (eqb f.kind 6) (ping f s) (cond (eqb f.kind 7) (goaway f s) (cond (eqb f.kind 8) (window_update f s) s)))) f
    by_settings true t z = quiet (settings f s) z (of_kind 4 t refl) (settings_so f s)
    by_settings false t z = by_ping (eqb f.kind 6) refl z

    gone : State
    gone = if_open (stream_at s.streams f.stream) s (λ x. reset_of f x s)

    by_reset : (c : Bool) → eqb f.kind 3 ≡ c → eqb f.kind 0 ≡ false → ConnectionFollows s (cond c gone (cond (eqb f.kind 4) (settings f s) (cond (eqb f.kind 6) (ping f s) (cond (eqb f.kind 7) (goaway f s) (cond (eqb f.kind 8) (window_update f s) s))))) f
    by_reset true t z = quiet gone z (of_kind 3 t refl) (resets f s)
    by_reset false t z = by_settings (eqb f.kind 4) refl z

    block_is : (a b : Bool) → eqb f.kind 1 ≡ a → eqb f.kind 9 ≡ b → (a || b) ≡ true → eqb f.kind 8 ≡ false
    block_is true b one nine or = of_kind 1 one refl
    block_is false true one nine or = of_kind 9 nine refl
    block_is false false one nine or = absurd cc

    by_block : (c : Bool) → (eqb f.kind 1 || eqb f.kind 9) ≡ c → eqb f.kind 0 ≡ false
        → ConnectionFollows s (cond c (block_of_headers f s) (cond (eqb f.kind 3) gone (cond (eqb f.kind 4) (settings f s) (cond (eqb f.kind 6) (ping f s) (cond (eqb f.kind 7) (goaway f s) (cond (eqb f.kind 8) (window_update f s) s)))))) f
    by_block true t z = quiet (block_of_headers f s) z (block_is (eqb f.kind 1) (eqb f.kind 9) refl refl t) (blocks f s)
    by_block false t z = by_reset (eqb f.kind 3) refl z

    by_data : (c : Bool) → eqb f.kind 0 ≡ c → ConnectionFollows s (cond c (data_of f s (stream_at s.streams f.stream))
        (cond (eqb f.kind 1 || eqb f.kind 9) (block_of_headers f s) (cond (eqb f.kind 3) gone (cond (eqb f.kind 4) (settings f s) (cond (eqb f.kind 6) (ping f s) (cond (eqb f.kind 7) (goaway f s) (cond (eqb f.kind 8) (window_update f s) s))))))) f
    by_data true t =
        let all : cond (eqb f.kind 0) (length f.payload) 0 ≡ length f.payload = ap (λ (b : Bool). cond b (length f.payload) 0) t in
        follows (data_of f s (stream_at s.streams f.stream)) (s.receive -ℤ pos (length f.payload)) s.send (data_so f s (stream_at s.streams f.stream))
        (ap (λ (j : ℕ). s.receive -ℤ pos j) (sym all)) (none_granted (of_kind 0 t refl))
    by_data false t = by_block (eqb f.kind 1 || eqb f.kind 9) refl t

pub frames_shift_all : FramesShiftAll
unfolding after_frame
frames_shift_all s f going kept =
    subst (λ (t : State). ConnectionFollows s t f) (sym is) (record { receive = here.receive; send = here.send })
  where
    begun : State
    begun = record s { began = true }

    is : after_frame s f ≡ effect begun f
    is = ap (λ (x : Option ℕ). cond (is_some x) s (judged s f (verdict s f))) going ∙ ap (judged s f) kept

    here : ConnectionFollows begun (effect begun f) f
    here = effect_follows begun f
