-- Two states, the second of which hears at least as much, and the frames that come to both.
use Rattle.std.proofs.Common.{◌≡◌, inl, inr, ◌⊎◌, ℕ, ℤ, pos, ◌+◌, ◌+ℤ◌, ◌-ℤ◌, ◌≤ℤ◌, ◌<◌, ◌≤◌, Bool, true, false, not, ◌&&◌, ◌||◌, nat_le, nat_lt, List, [], ◌∷◌, ◌++◌, length, Option, Some, None, is_some, is_none, Result, Ok, Err, refl, sym, ap, ◌∙◌, subst, arith, if◌then◌else◌}
use Rattle.std.specs.Prelude.{◌==◌}
use Rattle.std.specs.Option.{IfSome}
use Rattle.std.proofs.lemmas.Bool.{eqb-true, and_parts, or_parts, not-false, leb-true, ltb-true, ltb-false}
use Rattle.std.proofs.lemmas.Int.{ints}
use Rattle.kn_frames.specs.declared.frame.Frame.{Frame}
use Rattle.kn_frames.specs.Frames.{spelled}
use Rattle.kn_hpack.specs.Fields.{Field}
use Rattle.kn_hpack.specs.Blocks.{Progress, read_block}
use Rattle.kn_hpack.specs.declared.fault.HpackFault.{HpackFault}
use Rattle.kn_h2_state.specs.declared.event.H2Event.{H2Event}
use Rattle.kn_h2_state.specs.declared.event.H2Event.TheVariants.{Opened, Head, Text, Ended, Reset}
use Rattle.kn_h2_state.specs.declared.stream.Stream.{Stream}
use Rattle.kn_h2_state.specs.declared.state.Block.{Block}
use Rattle.kn_h2_state.specs.declared.state.State.{State}
use Rattle.kn_h2_state.specs.Limits.{stream_limit, reply_limit}
use Rattle.kn_h2_state.specs.Outgoing.{put, reply_bytes}
use Rattle.kn_h2_state.specs.Streams.{stream_at, change, is_open, open_count, passes, shut, tidied}
use Rattle.kn_h2_state.specs.Payloads.{has, content, number_at, increment_of, settings_of, reset_frame}
use Rattle.kn_h2_state.specs.Heads.{is_malformed_request, is_malformed_response, is_informational}
use Rattle.kn_h2_state.specs.Rules.{is_client, continues, bytes_so_far, block_with, ends_block, shifted, shifted_one, frame_rules}
use Rattle.kn_h2_state.specs.Effects.{event, fail, reply, on_stream, peer_ends, if_open, with_text, data_taken, text_told, ended_if, data_in, data_dropped, data_of, new_stream, opens, accepted, request, headed, refused_response, response, head_of, decoded, block_ends, block_grown, block_of_headers, cut_off, reset_of, after_setting, after_settings, settings, ping, goaway, with_grant, window_update, effect}
use Rattle.kn_h2_state.specs.Preorder.{HearsAsMuch, IsOpenIn, IsNewTo, HearsMore}
use Rattle.kn_h2_state.proofs.VerdictFacts.{none_holds}
use Rattle.kn_h2_state.proofs.SeenLemmas.{KeepsNumber}
use Rattle.kn_h2_state.proofs.OtherLaws.{either, shifted_number}
use Rattle.kn_h2_state.proofs.BorneLemmas.{Rises, climbing, rises_change, rises_tidied, rises_map, rises_push, rises_raise, none_above, grant_number}
use Rattle.kn_h2_state.proofs.PreorderLaws.{Silent, old_head}
use Rattle.kn_h2_state.proofs.LikeLemmas.{IsYoung, Likes, Pairs, likes_tidied_left, likes_tidied_right, likes_change, likes_left, likes_right, closed_right, likes_shifted, likes_push}

pub record Facing (s t : State) : Type 0 where
  pub more : HearsMore s t
  pub left : Rises 0 s.opened s.streams
  pub right : Rises 0 t.opened t.streams

-- ---- what is not looked at

-- only windows and streams may differ, and what is not looked at
record Beside (s u : State) : Type 0 where
  role : u.role ≡ s.role
  began : u.began ≡ s.began
  block : u.block ≡ s.block
  decoder : u.decoder ≡ s.decoder
  initial : u.initial ≡ s.initial
  opened : u.opened ≡ s.opened

facing : (s t u v : State) → Facing s t → Beside s u → Beside t v → u.receive ≤ℤ v.receive → v.send ≤ℤ u.send → Rises 0 s.opened u.streams → Rises 0 t.opened v.streams
    → Likes (is_client s.role) s.opened t.initial u.streams v.streams → Facing u v
facing s t u v h a b receive send left right likes = record {
  more = record {
    role = b.role ∙ (h.more.role ∙ sym a.role);
    began = b.began ∙ (h.more.began ∙ sym a.began);
    block = b.block ∙ (h.more.block ∙ sym a.block);
    decoder = b.decoder ∙ (h.more.decoder ∙ sym a.decoder);
    initial = b.initial ∙ (h.more.initial ∙ sym a.initial);
    receive = receive;
    send = send;
    opened = omega (arith, a.opened, b.opened, h.more.opened);
    server = λ e. b.opened ∙ (h.more.server (ap is_client (sym a.role) ∙ e) ∙ sym a.opened);
    known = λ e. subst (λ o. IfSome o (λ x. x.stream ≤ u.opened)) (sym a.block)
        (subst (λ k. IfSome s.block (λ x. x.stream ≤ k)) (sym a.opened) (h.more.known (ap is_client (sym a.role) ∙ e)));
    streams = subst (λ r. Likes (is_client r) u.opened v.initial u.streams v.streams) (sym a.role)
        (subst (λ k. Likes (is_client s.role) k v.initial u.streams v.streams) (sym a.opened)
        (subst (λ i. Likes (is_client s.role) s.opened i u.streams v.streams) (sym b.initial) likes));
  };
  left = subst (λ k. Rises 0 k u.streams) (sym a.opened) left;
  right = subst (λ k. Rises 0 k v.streams) (sym b.opened) right;
}

-- nothing differs that is looked at
record Plain (s u : State) : Type 0 where
  beside : Beside s u
  receive : u.receive ≡ s.receive
  send : u.send ≡ s.send
  streams : u.streams ≡ s.streams

beside_same : (s : State) → Beside s s
beside_same s = record { role = refl; began = refl; block = refl; decoder = refl; initial = refl; opened = refl }

left_plain : (s t u : State) → Facing s t → Plain s u → Facing u t
left_plain s t u h p =
    facing s t u t h p.beside (beside_same t) (subst (λ z. z ≤ℤ t.receive) (sym p.receive) h.more.receive) (subst (λ z. t.send ≤ℤ z) (sym p.send) h.more.send)
    (subst (λ ss. Rises 0 s.opened ss) (sym p.streams) h.left) h.right (subst (λ ss. Likes (is_client s.role) s.opened t.initial ss t.streams) (sym p.streams) h.more.streams)

right_plain : (s t v : State) → Facing s t → Plain t v → Facing s v
right_plain s t v h p =
    facing s t s v h (beside_same s) p.beside (subst (λ z. s.receive ≤ℤ z) (sym p.receive) h.more.receive) (subst (λ z. z ≤ℤ s.send) (sym p.send) h.more.send) h.left
    (subst (λ ss. Rises 0 t.opened ss) (sym p.streams) h.right) (subst (λ ss. Likes (is_client s.role) s.opened t.initial s.streams ss) (sym p.streams) h.more.streams)

plain_event : (s : State) (e : H2Event) → Plain s (event s e)
plain_event s e = record { beside = record { role = refl; began = refl; block = refl; decoder = refl; initial = refl; opened = refl }; receive = refl; send = refl; streams = refl }

plain_reply : (s : State) (frame : List ℕ) → Plain s (reply frame s)
unfolding reply fail
plain_reply s frame =
    either (Plain s) (nat_lt reply_limit (reply_bytes s.out + length frame)) (fail 11 s) (record s { out = put s.out true frame })
    (record { beside = record { role = refl; began = refl; block = refl; decoder = refl; initial = refl; opened = refl }; receive = refl; send = refl; streams = refl })
    (record { beside = record { role = refl; began = refl; block = refl; decoder = refl; initial = refl; opened = refl }; receive = refl; send = refl; streams = refl })

both_event : (s t : State) (d e : H2Event) → Facing s t → Facing (event s d) (event t e)
both_event s t d e h = right_plain (event s d) t (event t e) (left_plain s t (event s d) h (plain_event s d)) (plain_event t e)

both_reply : (s t : State) (frame : List ℕ) → Facing s t → Facing (reply frame s) (reply frame t)
both_reply s t frame h = right_plain (reply frame s) t (reply frame t) (left_plain s t (reply frame s) h (plain_reply s frame)) (plain_reply t frame)

-- ---- streams change

beside_streams : (s : State) (ss : List Stream) → Beside s (record s { streams = ss })
beside_streams s ss = record { role = refl; began = refl; block = refl; decoder = refl; initial = refl; opened = refl }

-- the stream is no young one
abbrev IsOld : State → ℕ → Type 0
IsOld s m = is_client s.role ≡ true → s.opened < m → ⊥

both_on : (s t : State) (m : ℕ) (f : Stream → Stream) → KeepsNumber f → Pairs (is_client s.role) f
    → ((b : Stream) → IsYoung (is_client s.role) s.opened t.initial m b → IsYoung (is_client s.role) s.opened t.initial m (f b)) → Facing s t → Facing (on_stream m f s) (on_stream m f t)
both_on s t m f number pairs young h =
    let left : Rises 0 s.opened (change s.streams m f) = rises_change 0 s.opened s.streams m f number h.left in
    let right : Rises 0 t.opened (change t.streams m f) = rises_change 0 t.opened t.streams m f number h.right in
    let c : Bool = is_client s.role in
    facing s t (on_stream m f s) (on_stream m f t) h (beside_streams s (tidied (change s.streams m f))) (beside_streams t (tidied (change t.streams m f))) h.more.receive h.more.send
    (rises_tidied 0 s.opened (change s.streams m f) left) (rises_tidied 0 t.opened (change t.streams m f) right)
    (likes_tidied_right (is_client s.role) s.opened t.initial 0 (tidied (change s.streams m f)) (change t.streams m f) (climbing 0 t.opened (change t.streams m f) right)
    (likes_tidied_left (is_client s.role) s.opened t.initial (change s.streams m f) (change t.streams m f)
    (likes_change (is_client s.role) s.opened t.initial s.streams t.streams m f number pairs young h.more.streams)))

left_on : (s t : State) (m : ℕ) (f : Stream → Stream) → KeepsNumber f → passes (λ st. true) (stream_at t.streams m) ≡ false → Facing s t → Facing (on_stream m f s) t
left_on s t m f number closed h =
    let left : Rises 0 s.opened (change s.streams m f) = rises_change 0 s.opened s.streams m f number h.left in
    facing s t (on_stream m f s) t h (beside_streams s (tidied (change s.streams m f))) (beside_same t) h.more.receive h.more.send
    (rises_tidied 0 s.opened (change s.streams m f) left) h.right
    (likes_tidied_left (is_client s.role) s.opened t.initial (change s.streams m f) t.streams
    (likes_left (is_client s.role) s.opened t.initial s.streams t.streams m f number closed h.more.streams))

right_on : (s t : State) (m : ℕ) (f : Stream → Stream) → KeepsNumber f → ((st : Stream) → is_open (f st) ≡ false) → Facing s t → Facing s (on_stream m f t)
right_on s t m f number closes h =
    let right : Rises 0 t.opened (change t.streams m f) = rises_change 0 t.opened t.streams m f number h.right in
    facing s t s (on_stream m f t) h (beside_same s) (beside_streams t (tidied (change t.streams m f))) h.more.receive h.more.send
    h.left (rises_tidied 0 t.opened (change t.streams m f) right)
    (likes_tidied_right (is_client s.role) s.opened t.initial 0 s.streams (change t.streams m f) (climbing 0 t.opened (change t.streams m f) right)
    (likes_right (is_client s.role) s.opened t.initial s.streams t.streams m f number closes h.more.streams))

closed_on : (t : State) (m : ℕ) (f : Stream → Stream) → KeepsNumber f → ((st : Stream) → is_open (f st) ≡ false) → Rises 0 t.opened t.streams
    → passes (λ st. true) (stream_at (on_stream m f t).streams m) ≡ false
closed_on t m f number closes r = closed_right 0 t.streams m f number closes (climbing 0 t.opened (change t.streams m f) (rises_change 0 t.opened t.streams m f number r))

-- ---- which of the two streams is open

open_both : (s t : State) (m : ℕ) → HearsMore s t → IsOld s m
    → ((a : Stream) × (b : Stream) × (stream_at s.streams m ≡ Some a) × (stream_at t.streams m ≡ Some b) × (is_open a ≡ true) × (is_open b ≡ true) × HearsAsMuch (is_client s.role) a b)
    ⊎ (passes (λ st. true) (stream_at t.streams m) ≡ false)
open_both s t m h old = by_stream (stream_at t.streams m) refl
  where
    Answer : Type 0
    Answer = ((a : Stream) × (b : Stream) × (stream_at s.streams m ≡ Some a) × (stream_at t.streams m ≡ Some b) × (is_open a ≡ true) × (is_open b ≡ true) × HearsAsMuch (is_client s.role) a b)
        ⊎ (passes (λ st. true) (stream_at t.streams m) ≡ false)

    by_like : (b : Stream) → stream_at t.streams m ≡ Some b → is_open b ≡ true → IsOpenIn s m b ⊎ IsNewTo s t m b → Answer
    by_like b at ob (inl (a, there, oa, much)) = inl (a, b, there, at, oa, ob, much)
    by_like b at ob (inr (client, above, sends)) = absurd (old client above)

    by_open : (b : Stream) → stream_at t.streams m ≡ Some b → (x : Bool) → is_open b ≡ x → Answer
    by_open b at true o = by_like b at o (h.streams m b at o)
    by_open b at false o = inr (ap (λ p. passes (λ st. true) p) at ∙ ap (λ x. x && true) o)

    by_stream : (o : Option Stream) → stream_at t.streams m ≡ o → Answer
    by_stream None e = inr (ap (λ p. passes (λ st. true) p) e)
    by_stream (Some b) e = by_open b e (is_open b) refl

if_open-some : (o : Option Stream) (s : State) (next : Stream → State) (a : Stream) → o ≡ Some a → is_open a ≡ true → if_open o s next ≡ next a
if_open-some o s next a e g = ap (λ p. if_open p s next) e ∙ ap (λ b. if b then next a else s) g

if_open-closed : (o : Option Stream) (s : State) (next : Stream → State) → passes (λ st. true) o ≡ false → if_open o s next ≡ s
if_open-closed None s next e = refl
if_open-closed (Some a) s next e = by_open (is_open a) e
  where
    by_open : (b : Bool) → (b && true) ≡ false → (if b then next a else s) ≡ s
    by_open true h = absurd cc
    by_open false h = refl

both_if_open : (s t : State) (m : ℕ) (next after : Stream → State) → Facing s t → IsOld s m
    → ((a b : Stream) → HearsAsMuch (is_client s.role) a b → Facing (next a) (after b))
    → (passes (λ st. true) (stream_at t.streams m) ≡ false → (a : Stream) → Facing (next a) t)
    → Facing (if_open (stream_at s.streams m) s next) (if_open (stream_at t.streams m) t after)
both_if_open s t m next after h old both left = by_open (open_both s t m h.more old)
  where
    one : passes (λ st. true) (stream_at t.streams m) ≡ false → (o : Option Stream) → Facing (if_open o s next) t
    one closed None = h
    one closed (Some a) = either (λ u. Facing u t) (is_open a) (next a) s (left closed a) h

    by_open : ((a : Stream) × (b : Stream) × (stream_at s.streams m ≡ Some a) × (stream_at t.streams m ≡ Some b) × (is_open a ≡ true) × (is_open b ≡ true) × HearsAsMuch (is_client s.role) a b)
        ⊎ (passes (λ st. true) (stream_at t.streams m) ≡ false) → Facing (if_open (stream_at s.streams m) s next) (if_open (stream_at t.streams m) t after)
    by_open (inl (a, b, there, at, oa, ob, much)) =
        subst (λ u. Facing u (if_open (stream_at t.streams m) t after)) (sym (if_open-some (stream_at s.streams m) s next a there oa))
        (subst (λ v. Facing (next a) v) (sym (if_open-some (stream_at t.streams m) t after b at ob)) (both a b much))
    by_open (inr closed) =
        subst (λ v. Facing (if_open (stream_at s.streams m) s next) v) (sym (if_open-closed (stream_at t.streams m) t after closed)) (one closed (stream_at s.streams m))

-- ---- the changes

pairs_ends : (c : Bool) → Pairs c (λ st. record st { peer_open = false })
pairs_ends c = record {
  was = λ b e. or_true b.peer_open b.own_open e;
  much = λ a b oa much e. (much.own e, record { receive = much.receive; send = much.send; half = refl; own = much.own; head = much.head });
}
  where
    or_true : (x y : Bool) → (false || y) ≡ true → (x || y) ≡ true
    or_true true y e = refl
    or_true false y e = e

pairs_head : (c : Bool) → Pairs c (λ st. record st { answered = true })
pairs_head c = record {
  was = λ b e. e;
  much = λ a b oa much e. (oa, record { receive = much.receive; send = much.send; half = much.half; own = much.own; head = λ g. refl });
}

pairs_shut : (c : Bool) → Pairs c shut
pairs_shut c = record { was = λ b e. absurd cc; much = λ a b oa much e. absurd cc }

less_both : (x y d : ℤ) → x ≤ℤ y → (x -ℤ d) ≤ℤ (y -ℤ d)
less_both x y d le = omega (arith, ints, le)

pairs_text : (c : Bool) (n : ℕ) (text : List ℕ) → Pairs c (with_text n text)
pairs_text c n text = record {
  was = λ b e. e;
  much = λ a b oa much e. (oa, record { receive = less_both a.receive b.receive (pos n) much.receive; send = much.send; half = much.half; own = much.own; head = much.head });
}

-- ---- ends of the peer's half

both_ends : (s t : State) (m : ℕ) → Facing s t → Facing (peer_ends m s) (peer_ends m t)
unfolding peer_ends
both_ends s t m h =
    let f : Stream → Stream = λ st. record st { peer_open = false } in
    both_event (on_stream m f s) (on_stream m f t) (Ended m) (Ended m) (both_on s t m f (λ st. refl) (pairs_ends (is_client s.role)) (λ b y. y) h)

left_ends : (s t : State) (m : ℕ) → passes (λ st. true) (stream_at t.streams m) ≡ false → Facing s t → Facing (peer_ends m s) t
unfolding peer_ends
left_ends s t m closed h =
    let u : State = on_stream m (λ st. record st { peer_open = false }) s in
    left_plain u t (event u (Ended m)) (left_on s t m (λ st. record st { peer_open = false }) (λ st. refl) closed h) (plain_event u (Ended m))

both_ended : (ends : Bool) (s t : State) (m : ℕ) → Facing s t → Facing (ended_if ends m s) (ended_if ends m t)
both_ended true s t m h = both_ends s t m h
both_ended false s t m h = h

left_ended : (ends : Bool) (s t : State) (m : ℕ) → passes (λ st. true) (stream_at t.streams m) ≡ false → Facing s t → Facing (ended_if ends m s) t
left_ended true s t m closed h = left_ends s t m closed h
left_ended false s t m closed h = h

-- ---- DATA

beside_taken : (f : Frame) (s : State) → Beside s (data_taken f s)
unfolding data_taken
beside_taken f s = record { role = refl; began = refl; block = refl; decoder = refl; initial = refl; opened = refl }

beside_dropped : (f : Frame) (s : State) → Beside s (data_dropped f s)
unfolding data_dropped
beside_dropped f s = record { role = refl; began = refl; block = refl; decoder = refl; initial = refl; opened = refl }

both_taken : (f : Frame) (s t : State) → Facing s t → Facing (data_taken f s) (data_taken f t)
unfolding data_taken
both_taken f s t h =
    let n : ℕ = length f.payload in
    facing s t (data_taken f s) (data_taken f t) h (beside_taken f s) (beside_taken f t) (less_both s.receive t.receive (pos n) h.more.receive) h.more.send
    (rises_change 0 s.opened s.streams f.stream (with_text n (content f)) (λ x. refl) h.left)
    (rises_change 0 t.opened t.streams f.stream (with_text n (content f)) (λ x. refl) h.right)
    (likes_change (is_client s.role) s.opened t.initial s.streams t.streams f.stream (with_text n (content f)) (λ x. refl)
    (pairs_text (is_client s.role) n (content f)) (λ b y. y) h.more.streams)

both_dropped : (f : Frame) (s t : State) → Facing s t → Facing (data_dropped f s) (data_dropped f t)
unfolding data_dropped
both_dropped f s t h =
    facing s t (data_dropped f s) (data_dropped f t) h (beside_dropped f s) (beside_dropped f t) (less_both s.receive t.receive (pos (length f.payload)) h.more.receive) h.more.send
    h.left h.right h.more.streams

-- the text is taken where the stream is open, and dropped where it is closed
taken_dropped : (f : Frame) (s t : State) → passes (λ st. true) (stream_at t.streams f.stream) ≡ false → Facing s t → Facing (data_taken f s) (data_dropped f t)
unfolding data_taken data_dropped
taken_dropped f s t closed h =
    let n : ℕ = length f.payload in
    facing s t (data_taken f s) (data_dropped f t) h (beside_taken f s) (beside_dropped f t) (less_both s.receive t.receive (pos n) h.more.receive) h.more.send
    (rises_change 0 s.opened s.streams f.stream (with_text n (content f)) (λ x. refl) h.left) h.right
    (likes_left (is_client s.role) s.opened t.initial s.streams t.streams f.stream (with_text n (content f)) (λ x. refl) closed h.more.streams)

both_told : (n : ℕ) (text : List ℕ) (s t : State) → Facing s t → Facing (text_told n text s) (text_told n text t)
both_told n text s t h = by_length (length text == 0)
  where
    by_length : (b : Bool) → Facing (if b then s else event s (Text n)) (if b then t else event t (Text n))
    by_length true = h
    by_length false = both_event s t (Text n) (Text n) h

left_told : (n : ℕ) (text : List ℕ) (s t : State) → Facing s t → Facing (text_told n text s) t
left_told n text s t h = either (λ u. Facing u t) (length text == 0) s (event s (Text n)) h (left_plain s t (event s (Text n)) h (plain_event s (Text n)))

both_data_in : (f : Frame) (s t : State) → Facing s t → Facing (data_in f s) (data_in f t)
unfolding data_in
both_data_in f s t h =
    both_ended (has f 1) (text_told f.stream (content f) (data_taken f s)) (text_told f.stream (content f) (data_taken f t)) f.stream
    (both_told f.stream (content f) (data_taken f s) (data_taken f t) (both_taken f s t h))

dropped_streams : (f : Frame) (t : State) → (data_dropped f t).streams ≡ t.streams
unfolding data_dropped
dropped_streams f t = refl

in_dropped : (f : Frame) (s t : State) → passes (λ st. true) (stream_at t.streams f.stream) ≡ false → Facing s t → Facing (data_in f s) (data_dropped f t)
unfolding data_in
in_dropped f s t closed h =
    left_ended (has f 1) (text_told f.stream (content f) (data_taken f s)) (data_dropped f t) f.stream
    (subst (λ us. passes (λ st. true) (stream_at us f.stream) ≡ false) (sym (dropped_streams f t)) closed)
    (left_told f.stream (content f) (data_taken f s) (data_dropped f t) (taken_dropped f s t closed h))

data_of-some : (f : Frame) (s : State) (o : Option Stream) (a : Stream) → o ≡ Some a → is_open a ≡ true → data_of f s o ≡ data_in f s
data_of-some f s o a e g = ap (λ p. data_of f s p) e ∙ ap (λ b. if b then data_in f s else data_dropped f s) g

data_of-closed : (f : Frame) (s : State) (o : Option Stream) → passes (λ st. true) o ≡ false → data_of f s o ≡ data_dropped f s
data_of-closed f s None e = refl
data_of-closed f s (Some a) e = by_open (is_open a) e
  where
    by_open : (b : Bool) → (b && true) ≡ false → (if b then data_in f s else data_dropped f s) ≡ data_dropped f s
    by_open true h = absurd cc
    by_open false h = refl

both_data : (f : Frame) (s t : State) → Facing s t → IsOld s f.stream → Facing (data_of f s (stream_at s.streams f.stream)) (data_of f t (stream_at t.streams f.stream))
both_data f s t h old = by_open (open_both s t f.stream h.more old)
  where
    one : passes (λ st. true) (stream_at t.streams f.stream) ≡ false → (o : Option Stream) → Facing (data_of f s o) (data_dropped f t)
    one closed None = both_dropped f s t h
    one closed (Some a) = either (λ u. Facing u (data_dropped f t)) (is_open a) (data_in f s) (data_dropped f s) (in_dropped f s t closed h) (both_dropped f s t h)

    by_open : ((a : Stream) × (b : Stream) × (stream_at s.streams f.stream ≡ Some a) × (stream_at t.streams f.stream ≡ Some b) × (is_open a ≡ true) × (is_open b ≡ true) × HearsAsMuch (is_client s.role) a b)
        ⊎ (passes (λ st. true) (stream_at t.streams f.stream) ≡ false) → Facing (data_of f s (stream_at s.streams f.stream)) (data_of f t (stream_at t.streams f.stream))
    by_open (inl (a, b, there, at, oa, ob, much)) =
        subst (λ u. Facing u (data_of f t (stream_at t.streams f.stream))) (sym (data_of-some f s (stream_at s.streams f.stream) a there oa))
        (subst (λ v. Facing (data_in f s) v) (sym (data_of-some f t (stream_at t.streams f.stream) b at ob)) (both_data_in f s t h))
    by_open (inr closed) =
        subst (λ v. Facing (data_of f s (stream_at s.streams f.stream)) v) (sym (data_of-closed f t (stream_at t.streams f.stream) closed)) (one closed (stream_at s.streams f.stream))

-- ---- header blocks

both_if : (P : State → State → Type 0) (b : Bool) (x y u v : State) → (b ≡ true → P x u) → (b ≡ false → P y v) → P (if b then x else y) (if b then u else v)
both_if P true x y u v p q = p refl
both_if P false x y u v p q = q refl

both_opens : (s t : State) (m : ℕ) → is_client s.role ≡ false → s.opened < m → Facing s t → Facing (opens m s) (opens m t)
both_opens s t m server above h =
    let same : t.opened ≡ s.opened = h.more.server server in
    record {
      more = record {
        role = h.more.role;
        began = h.more.began;
        block = h.more.block;
        decoder = h.more.decoder;
        initial = h.more.initial;
        receive = h.more.receive;
        send = h.more.send;
        opened = omega arith;
        server = λ e. refl;
        known = λ e. absurd (not_both (is_client s.role) e server);
        streams = λ n b at ob. up n b (h.more.streams n b at ob);
      };
      left = rises_raise 0 s.opened m s.streams (omega (arith, above)) h.left;
      right = rises_raise 0 t.opened m t.streams (omega (arith, above, same)) h.right;
    }
  where
    not_both : (b : Bool) → b ≡ true → b ≡ false → ⊥
    not_both b e g = cc

    up : (n : ℕ) (b : Stream) → IsOpenIn s n b ⊎ IsNewTo s t n b → IsOpenIn s n b ⊎ IsNewTo (opens m s) (opens m t) n b
    up n b (inl like) = inl like
    up n b (inr (client, over, sends)) = absurd (not_both (is_client s.role) client server)

both_pushed : (s t : State) (m : ℕ) → is_client s.role ≡ false → s.opened < m → Facing s t
    → Facing (record s { opened = m; streams = s.streams ++ new_stream m s ∷ [] }) (record t { opened = m; streams = t.streams ++ new_stream m t ∷ [] })
both_pushed s t m server above h =
    let same : t.opened ≡ s.opened = h.more.server server in
    let over : t.opened < m = omega (arith, above, same) in
    record {
      more = record {
        role = h.more.role;
        began = h.more.began;
        block = h.more.block;
        decoder = h.more.decoder;
        initial = h.more.initial;
        receive = h.more.receive;
        send = h.more.send;
        opened = omega arith;
        server = λ e. refl;
        known = λ e. absurd (not_both (is_client s.role) e server);
        streams = subst (λ c. Likes c m t.initial (s.streams ++ new_stream m s ∷ []) (t.streams ++ new_stream m t ∷ [])) (sym server)
            (likes_push s.opened t.initial m s t s.streams t.streams (none_above 0 s.opened m s.streams h.left above) h.more.initial
            (subst (λ c. Likes c s.opened t.initial s.streams t.streams) server h.more.streams));
      };
      left = rises_push 0 s.opened s.streams (new_stream m s) h.left above;
      right = rises_push 0 t.opened t.streams (new_stream m t) h.right over;
    }
  where
    not_both : (b : Bool) → b ≡ true → b ≡ false → ⊥
    not_both b e g = cc

both_accepted : (s t : State) (m : ℕ) (ends : Bool) (fields : List Field) → is_client s.role ≡ false → s.opened < m → Facing s t → Facing (accepted m ends fields s) (accepted m ends fields t)
unfolding accepted
both_accepted s t m ends fields server above h =
    let u : State = record s { opened = m; streams = s.streams ++ new_stream m s ∷ [] } in
    let v : State = record t { opened = m; streams = t.streams ++ new_stream m t ∷ [] } in
    both_ended ends (event u (Opened m fields)) (event v (Opened m fields)) m (both_event u v (Opened m fields) (Opened m fields) (both_pushed s t m server above h))

few : (count : ℕ) → count < stream_limit → nat_le stream_limit count ≡ false
few count h = by_test (nat_le stream_limit count) refl
  where
    by_test : (b : Bool) → nat_le stream_limit count ≡ b → b ≡ false
    by_test false e = refl
    by_test true e = absurd (omega (arith, leb-true stream_limit count e, h))

both_request : (s t : State) (m : ℕ) (ends : Bool) (fields : List Field) → is_client s.role ≡ false → s.opened < m → open_count s.streams < stream_limit → open_count t.streams < stream_limit
    → Facing s t → Facing (request m ends fields s) (request m ends fields t)
unfolding request
both_request s t m ends fields server above a b h = by_counts (nat_le stream_limit (open_count s.streams)) (nat_le stream_limit (open_count t.streams)) (few (open_count s.streams) a) (few (open_count t.streams) b)
  where
    formed : Facing (if is_malformed_request fields then reply (reset_frame m 1) (opens m s) else accepted m ends fields s)
        (if is_malformed_request fields then reply (reset_frame m 1) (opens m t) else accepted m ends fields t)
    formed =
        both_if Facing (is_malformed_request fields) (reply (reset_frame m 1) (opens m s)) (accepted m ends fields s) (reply (reset_frame m 1) (opens m t)) (accepted m ends fields t)
        (λ e. both_reply (opens m s) (opens m t) (reset_frame m 1) (both_opens s t m server above h)) (λ e. both_accepted s t m ends fields server above h)

    by_counts : (x y : Bool) → x ≡ false → y ≡ false
        → Facing (if x then reply (reset_frame m 7) (opens m s) else (if is_malformed_request fields then reply (reset_frame m 1) (opens m s) else accepted m ends fields s))
        (if y then reply (reset_frame m 7) (opens m t) else (if is_malformed_request fields then reply (reset_frame m 1) (opens m t) else accepted m ends fields t))
    by_counts false false e g = formed
    by_counts true y e g = absurd cc
    by_counts false true e g = absurd cc

both_headed : (s t : State) (m : ℕ) (ends : Bool) (fields : List Field) → Facing s t → Facing (headed m ends fields s) (headed m ends fields t)
unfolding headed
both_headed s t m ends fields h =
    let f : Stream → Stream = λ st. record st { answered = true } in
    both_ended ends (event (on_stream m f s) (Head m fields)) (event (on_stream m f t) (Head m fields)) m
    (both_event (on_stream m f s) (on_stream m f t) (Head m fields) (Head m fields) (both_on s t m f (λ x. refl) (pairs_head (is_client s.role)) (λ b y. y) h))

left_headed : (s t : State) (m : ℕ) (ends : Bool) (fields : List Field) → passes (λ st. true) (stream_at t.streams m) ≡ false → Facing s t → Facing (headed m ends fields s) t
unfolding headed
left_headed s t m ends fields closed h =
    let f : Stream → Stream = λ st. record st { answered = true } in
    left_ended ends (event (on_stream m f s) (Head m fields)) t m closed
    (left_plain (on_stream m f s) t (event (on_stream m f s) (Head m fields)) (left_on s t m f (λ x. refl) closed h) (plain_event (on_stream m f s) (Head m fields)))

both_refused : (s t : State) (m : ℕ) → Facing s t → Facing (refused_response m s) (refused_response m t)
unfolding refused_response
both_refused s t m h =
    both_reply (event (on_stream m shut s) (Reset m 1)) (event (on_stream m shut t) (Reset m 1)) (reset_frame m 1)
    (both_event (on_stream m shut s) (on_stream m shut t) (Reset m 1) (Reset m 1) (both_on s t m shut (λ x. refl) (pairs_shut (is_client s.role)) (λ b y. y) h))

left_refused : (s t : State) (m : ℕ) → passes (λ st. true) (stream_at t.streams m) ≡ false → Facing s t → Facing (refused_response m s) t
unfolding refused_response
left_refused s t m closed h =
    let u : State = on_stream m shut s in
    left_plain (event u (Reset m 1)) t (reply (reset_frame m 1) (event u (Reset m 1)))
    (left_plain u t (event u (Reset m 1)) (left_on s t m shut (λ x. refl) closed h) (plain_event u (Reset m 1))) (plain_reply (event u (Reset m 1)) (reset_frame m 1))

both_response : (s t : State) (m : ℕ) (ends : Bool) (fields : List Field) (a b : Stream) → b.answered ≡ a.answered → Facing s t → Facing (response m ends fields a s) (response m ends fields b t)
unfolding response
both_response s t m ends fields a b same h =
    subst (λ x. Facing (response m ends fields a s) (if x then peer_ends m t else rest t)) (sym same)
    (both_if Facing a.answered (peer_ends m s) (rest s) (peer_ends m t) (rest t) (λ e. both_ends s t m h)
    (λ e. both_if Facing (is_informational fields && not ends) s (formed s) t (formed t) (λ e'. h)
    (λ e'. both_if Facing (is_malformed_response fields || is_informational fields) (refused_response m s) (headed m ends fields s) (refused_response m t) (headed m ends fields t)
    (λ g. both_refused s t m h) (λ g. both_headed s t m ends fields h))))
  where
    formed : State → State
    formed u = if is_malformed_response fields || is_informational fields then refused_response m u else headed m ends fields u

    rest : State → State
    rest u = if is_informational fields && not ends then u else (if is_malformed_response fields || is_informational fields then refused_response m u else headed m ends fields u)

left_response : (s t : State) (m : ℕ) (ends : Bool) (fields : List Field) (a : Stream) → passes (λ st. true) (stream_at t.streams m) ≡ false → Facing s t → Facing (response m ends fields a s) t
unfolding response
left_response s t m ends fields a closed h =
    either (λ u. Facing u t) a.answered (peer_ends m s)
    (if is_informational fields && not ends then s else (if is_malformed_response fields || is_informational fields then refused_response m s else headed m ends fields s))
    (left_ends s t m closed h)
    (either (λ u. Facing u t) (is_informational fields && not ends) s (if is_malformed_response fields || is_informational fields then refused_response m s else headed m ends fields s) h
    (either (λ u. Facing u t) (is_malformed_response fields || is_informational fields) (refused_response m s) (headed m ends fields s) (left_refused s t m closed h)
    (left_headed s t m ends fields closed h)))

both_head : (s t : State) (m : ℕ) (ends : Bool) (fields : List Field) → IsOld s m → (is_client s.role ≡ false → open_count s.streams < stream_limit) → (is_client s.role ≡ false → open_count t.streams < stream_limit)
    → Facing s t → Facing (head_of m ends fields s) (head_of m ends fields t)
unfolding head_of
both_head s t m ends fields old a b h =
    subst (λ r. Facing (head_of m ends fields s) (if is_client r then at_client t else at_server t)) (sym h.more.role) (by_role (is_client s.role) refl)
  where
    at_client : State → State
    at_client u = if_open (stream_at u.streams m) u (λ st. response m ends fields st u)

    at_server : State → State
    at_server u = if nat_lt u.opened m then request m ends fields u else if_open (stream_at u.streams m) u (λ st. peer_ends m u)

    trailers : Facing (if_open (stream_at s.streams m) s (λ st. peer_ends m s)) (if_open (stream_at t.streams m) t (λ st. peer_ends m t))
    trailers = both_if_open s t m (λ st. peer_ends m s) (λ st. peer_ends m t) h old (λ x y much. both_ends s t m h) (λ closed x. left_ends s t m closed h)

    by_number : is_client s.role ≡ false → (x : Bool) → nat_lt s.opened m ≡ x
        → Facing (if x then request m ends fields s else if_open (stream_at s.streams m) s (λ st. peer_ends m s))
        (if x then request m ends fields t else if_open (stream_at t.streams m) t (λ st. peer_ends m t))
    by_number server true above = both_request s t m ends fields server (ltb-true s.opened m above) (a server) (b server) h
    by_number server false above = trailers

    by_role : (c : Bool) → is_client s.role ≡ c → Facing (if c then at_client s else at_server s) (if c then at_client t else at_server t)
    by_role true client =
        both_if_open s t m (λ st. response m ends fields st s) (λ st. response m ends fields st t) h old
        (λ x y much. both_response s t m ends fields x y (much.head client) h) (λ closed x. left_response s t m ends fields x closed h)
    by_role false server =
        let same : nat_lt t.opened m ≡ nat_lt s.opened m = ap (λ k. nat_lt k m) (h.more.server server) in
        subst (λ x. Facing (at_server s) (if x then request m ends fields t else if_open (stream_at t.streams m) t (λ st. peer_ends m t))) (sym same)
        (by_number server (nat_lt s.opened m) refl)

-- no block is under way, and both have the same table
both_read : (s t : State) (p : Progress) → Facing s t → Facing (record s { block = None; decoder = p.table }) (record t { block = None; decoder = p.table })
both_read s t p h = record {
  more = record {
    role = h.more.role;
    began = h.more.began;
    block = refl;
    decoder = refl;
    initial = h.more.initial;
    receive = h.more.receive;
    send = h.more.send;
    opened = h.more.opened;
    server = h.more.server;
    known = λ e. tt;
    streams = h.more.streams;
  };
  left = h.left;
  right = h.right;
}

both_decoded : (s t : State) (m : ℕ) (ends : Bool) (r : Result Progress HpackFault) → IsOld s m → (is_client s.role ≡ false → open_count s.streams < stream_limit) → (is_client s.role ≡ false → open_count t.streams < stream_limit)
    → Facing s t → Facing (decoded m ends s r) (decoded m ends t r)
both_decoded s t m ends (Ok p) old a b h =
    both_head (record s { block = None; decoder = p.table }) (record t { block = None; decoder = p.table }) m ends p.fields old a b (both_read s t p h)
both_decoded s t m ends (Err e) old a b h = h

both_grown : (f : Frame) (s t : State) → IsOld s f.stream → Facing s t → Facing (block_grown f s) (block_grown f t)
unfolding block_grown
both_grown f s t old h = record {
  more = record {
    role = h.more.role;
    began = h.more.began;
    block = ap (λ o. Some (grown o)) h.more.block;
    decoder = h.more.decoder;
    initial = h.more.initial;
    receive = h.more.receive;
    send = h.more.send;
    opened = h.more.opened;
    server = h.more.server;
    known = λ e. within e;
    streams = h.more.streams;
  };
  left = h.left;
  right = h.right;
}
  where
    grown : Option Block → Block
    grown o = record { stream = f.stream; ends = block_ends o f; bytes = bytes_so_far o ++ content f }

    within : is_client s.role ≡ true → f.stream ≤ s.opened
    within e = by_test (nat_lt s.opened f.stream) refl
      where
        by_test : (b : Bool) → nat_lt s.opened f.stream ≡ b → f.stream ≤ s.opened
        by_test true above = absurd (old e (ltb-true s.opened f.stream above))
        by_test false below = ltb-false s.opened f.stream below

both_block : (f : Frame) (s t : State) → IsOld s f.stream → (is_client s.role ≡ false → open_count s.streams < stream_limit) → (is_client s.role ≡ false → open_count t.streams < stream_limit)
    → Facing s t → Facing (block_of_headers f s) (block_of_headers f t)
unfolding block_of_headers
both_block f s t old a b h =
    both_if Facing (ends_block f) (decoded f.stream (block_ends s.block f) s (read_block s.decoder (block_with s f))) (block_grown f s)
    (decoded f.stream (block_ends t.block f) t (read_block t.decoder (block_with t f))) (block_grown f t)
    (λ e. subst (λ o. Facing (decoded f.stream (block_ends s.block f) s (read_block s.decoder (block_with s f))) (decoded f.stream (block_ends o f) t (read_block t.decoder (bytes_so_far o ++ content f))))
    (sym h.more.block)
    (subst (λ d. Facing (decoded f.stream (block_ends s.block f) s (read_block s.decoder (block_with s f))) (decoded f.stream (block_ends s.block f) t (read_block d (block_with s f)))) (sym h.more.decoder)
    (both_decoded s t f.stream (block_ends s.block f) (read_block s.decoder (block_with s f)) old a b h)))
    (λ e. both_grown f s t old h)

-- ---- the other frames

plain_cut : (f : Frame) (code : ℕ) (st : Stream) (s : State) → Plain (on_stream f.stream (λ x. record (shut x) { text = [] }) s) (cut_off f.stream code st s)
unfolding cut_off
plain_cut f code st s = record { beside = record { role = refl; began = refl; block = refl; decoder = refl; initial = refl; opened = refl }; receive = refl; send = refl; streams = refl }

-- a reset closes the stream, whatever else it does
left_reset : (f : Frame) (a : Stream) (s t : State) → passes (λ st. true) (stream_at t.streams f.stream) ≡ false → Facing s t → Facing (reset_of f a s) t
unfolding reset_of
left_reset f a s t closed h =
    either (λ u. Facing u t) (is_client s.role && (number_at f.payload 0 == 0) && not a.peer_open) (on_stream f.stream shut s) (cut_off f.stream (number_at f.payload 0) a s)
    (left_on s t f.stream shut (λ x. refl) closed h)
    (left_plain (on_stream f.stream (λ x. record (shut x) { text = [] }) s) t (cut_off f.stream (number_at f.payload 0) a s)
    (left_on s t f.stream (λ x. record (shut x) { text = [] }) (λ x. refl) closed h) (plain_cut f (number_at f.payload 0) a s))

-- so it does on both sides
both_reset : (f : Frame) (a b : Stream) (s t : State) → Facing s t → Facing (reset_of f a s) (reset_of f b t)
unfolding reset_of
both_reset f a b s t h =
    either (λ v. Facing (reset_of f a s) v) (is_client t.role && (number_at f.payload 0 == 0) && not b.peer_open) (on_stream f.stream shut t) (cut_off f.stream (number_at f.payload 0) b t)
    (left_reset f a s (on_stream f.stream shut t) (closed_on t f.stream shut (λ x. refl) (λ x. refl) h.right) (right_on s t f.stream shut (λ x. refl) (λ x. refl) h))
    (right_plain (reset_of f a s) (on_stream f.stream (λ x. record (shut x) { text = [] }) t) (cut_off f.stream (number_at f.payload 0) b t)
    (left_reset f a s (on_stream f.stream (λ x. record (shut x) { text = [] }) t) (closed_on t f.stream (λ x. record (shut x) { text = [] }) (λ x. refl) (λ x. refl) h.right)
    (right_on s t f.stream (λ x. record (shut x) { text = [] }) (λ x. refl) (λ x. refl) h))
    (plain_cut f (number_at f.payload 0) b t))

both_shifted : (s t : State) (v : ℕ) → Facing s t
    → Facing (record s { initial = v; streams = shifted s.initial v s.streams }) (record t { initial = v; streams = shifted t.initial v t.streams })
both_shifted s t v h = record {
  more = record {
    role = h.more.role;
    began = h.more.began;
    block = h.more.block;
    decoder = h.more.decoder;
    initial = refl;
    receive = h.more.receive;
    send = h.more.send;
    opened = h.more.opened;
    server = h.more.server;
    known = h.more.known;
    streams = subst (λ i. Likes (is_client s.role) s.opened v (shifted i v s.streams) (shifted t.initial v t.streams)) h.more.initial
        (likes_shifted (is_client s.role) s.opened t.initial v s.streams t.streams h.more.streams);
  };
  left = rises_map 0 s.opened s.streams (shifted_one s.initial v) (shifted_number s.initial v) h.left;
  right = rises_map 0 t.opened t.streams (shifted_one t.initial v) (shifted_number t.initial v) h.right;
}

plain_most : (s : State) (most : Option ℕ) → Plain s (record s { most = most })
plain_most s most = record { beside = record { role = refl; began = refl; block = refl; decoder = refl; initial = refl; opened = refl }; receive = refl; send = refl; streams = refl }

both_setting : (s t : State) (x : ℕ × ℕ) → Facing s t → Facing (after_setting s x) (after_setting t x)
unfolding after_setting
both_setting s t x h =
    both_if Facing (x.0 == 4) (record s { initial = x.1; streams = shifted s.initial x.1 s.streams }) (if x.0 == 3 then record s { most = Some x.1 } else s)
    (record t { initial = x.1; streams = shifted t.initial x.1 t.streams }) (if x.0 == 3 then record t { most = Some x.1 } else t) (λ e. both_shifted s t x.1 h)
    (λ e. both_if Facing (x.0 == 3) (record s { most = Some x.1 }) s (record t { most = Some x.1 }) t
    (λ g. right_plain (record s { most = Some x.1 }) t (record t { most = Some x.1 }) (left_plain s t (record s { most = Some x.1 }) h (plain_most s (Some x.1))) (plain_most t (Some x.1))) (λ g. h))

both_settings : (s t : State) (xs : List (ℕ × ℕ)) → Facing s t → Facing (after_settings s xs) (after_settings t xs)
unfolding after_settings
both_settings s t [] h = h
both_settings s t (x ∷ xs) h = both_settings (after_setting s x) (after_setting t x) xs (both_setting s t x h)

both_all_settings : (f : Frame) (s t : State) → Facing s t → Facing (settings f s) (settings f t)
unfolding settings
both_all_settings f s t h =
    both_if Facing (has f 1) s (reply (spelled 4 1 0 []) (after_settings s (settings_of f.payload))) t (reply (spelled 4 1 0 []) (after_settings t (settings_of f.payload))) (λ e. h)
    (λ e. both_reply (after_settings s (settings_of f.payload)) (after_settings t (settings_of f.payload)) (spelled 4 1 0 []) (both_settings s t (settings_of f.payload) h))

both_ping : (f : Frame) (s t : State) → Facing s t → Facing (ping f s) (ping f t)
unfolding ping
both_ping f s t h =
    both_if Facing (has f 1) s (reply (spelled 6 1 0 f.payload) s) t (reply (spelled 6 1 0 f.payload) t) (λ e. h) (λ e. both_reply s t (spelled 6 1 0 f.payload) h)

plain_goaway : (f : Frame) (s : State) → Plain s (goaway f s)
unfolding goaway
plain_goaway f s = record { beside = record { role = refl; began = refl; block = refl; decoder = refl; initial = refl; opened = refl }; receive = refl; send = refl; streams = refl }

both_goaway : (f : Frame) (s t : State) → Facing s t → Facing (goaway f s) (goaway f t)
both_goaway f s t h = right_plain (goaway f s) t (goaway f t) (left_plain s t (goaway f s) h (plain_goaway f s)) (plain_goaway f t)

more_both : (x y d : ℤ) → y ≤ℤ x → (y +ℤ d) ≤ℤ (x +ℤ d)
more_both x y d le = omega (arith, ints, le)

pairs_grant : (c : Bool) (by : ℕ) → Pairs c (with_grant by)
pairs_grant c by = record {
  was = λ b e. was (is_open b) b refl e;
  much = λ a b oa much e. granted a b oa (was (is_open b) b refl e) much;
}
  where
    was : (x : Bool) (b : Stream) → is_open b ≡ x → is_open (if x then record b { send = b.send +ℤ pos by } else b) ≡ true → is_open b ≡ true
    was true b o e = o
    was false b o e = e

    granted : (a b : Stream) → is_open a ≡ true → is_open b ≡ true → HearsAsMuch c a b → (is_open (with_grant by a) ≡ true) × HearsAsMuch c (with_grant by a) (with_grant by b)
    granted a b oa ob much =
        let ea : with_grant by a ≡ record a { send = a.send +ℤ pos by } = ap (λ x. if x then record a { send = a.send +ℤ pos by } else a) oa in
        let eb : with_grant by b ≡ record b { send = b.send +ℤ pos by } = ap (λ x. if x then record b { send = b.send +ℤ pos by } else b) ob in
        let there : HearsAsMuch c (record a { send = a.send +ℤ pos by }) (record b { send = b.send +ℤ pos by }) =
        record { receive = much.receive; send = more_both a.send b.send (pos by) much.send; half = much.half; own = much.own; head = much.head } in (
          ap (λ (x : Stream). is_open x) ea ∙ oa,
          subst (λ x. HearsAsMuch c x (with_grant by b)) (sym ea) (subst (λ x. HearsAsMuch c (record a { send = a.send +ℤ pos by }) x) (sym eb) there),
        )

both_update : (f : Frame) (s t : State) → IsOld s f.stream → Facing s t → Facing (window_update f s) (window_update f t)
unfolding window_update
both_update f s t old h =
    let by : ℕ = increment_of f.payload in
    both_if Facing (f.stream == 0) (record s { send = s.send +ℤ pos by }) (record s { streams = change s.streams f.stream (with_grant by) })
    (record t { send = t.send +ℤ pos by }) (record t { streams = change t.streams f.stream (with_grant by) })
    (λ e. facing s t (record s { send = s.send +ℤ pos by }) (record t { send = t.send +ℤ pos by }) h
    (record { role = refl; began = refl; block = refl; decoder = refl; initial = refl; opened = refl }) (record { role = refl; began = refl; block = refl; decoder = refl; initial = refl; opened = refl })
    h.more.receive (more_both s.send t.send (pos by) h.more.send) h.left h.right h.more.streams)
    (λ e. facing s t (record s { streams = change s.streams f.stream (with_grant by) }) (record t { streams = change t.streams f.stream (with_grant by) }) h
    (beside_streams s (change s.streams f.stream (with_grant by))) (beside_streams t (change t.streams f.stream (with_grant by))) h.more.receive h.more.send
    (rises_change 0 s.opened s.streams f.stream (with_grant by) (grant_number by) h.left) (rises_change 0 t.opened t.streams f.stream (with_grant by) (grant_number by) h.right)
    (likes_change (is_client s.role) s.opened t.initial s.streams t.streams f.stream (with_grant by) (grant_number by) (pairs_grant (is_client s.role) by)
    (λ b y. absurd (old y.0 y.1)) h.more.streams))

-- ---- a frame

-- the stream of a frame of a header block is no young one
pub old_block : (s : State) (f : Frame) → (is_client s.role ≡ true → IfSome s.block (λ b. b.stream ≤ s.opened)) → Silent s f → ((f.kind == 1) || (f.kind == 9)) ≡ true → IsOld s f.stream
unfolding frame_rules
old_block s f known q kinds client above = by_head (f.kind == 1) refl kinds
  where
    impossible : (o : Option Block) → ((is_some o && not (continues o f)) || (is_none o && (f.kind == 9))) ≡ false → (f.kind == 9) ≡ true → IfSome o (λ b. b.stream ≤ s.opened) → ⊥
    impossible None e nine known = absurd (not_both (f.kind == 9) nine e)
      where
        not_both : (b : Bool) → b ≡ true → b ≡ false → ⊥
        not_both b x y = cc
    impossible (Some b) e nine known =
        let goes : ((f.kind == 9) && (f.stream == b.stream)) ≡ true = not-false ((f.kind == 9) && (f.stream == b.stream)) (or_parts (not ((f.kind == 9) && (f.stream == b.stream))) false e).0 in
        let same : f.stream ≡ b.stream = eqb-true f.stream b.stream (and_parts (f.kind == 9) (f.stream == b.stream) goes).1 in
        omega (arith, same, known, above)

    by_head : (x : Bool) → (f.kind == 1) ≡ x → (x || (f.kind == 9)) ≡ true → ⊥
    by_head true one e = old_head s f q.streams one client above
    by_head false other e = impossible s.block (none_holds (frame_rules s f) q.frames).1.0 e (known client)

pub both_effect : (f : Frame) (s t : State) → Facing s t → ((f.kind == 0) ≡ true → IsOld s f.stream) → (((f.kind == 1) || (f.kind == 9)) ≡ true → IsOld s f.stream)
    → ((f.kind == 3) ≡ true → IsOld s f.stream) → ((f.kind == 8) ≡ true → IsOld s f.stream) → (is_client s.role ≡ false → open_count s.streams < stream_limit) → (is_client s.role ≡ false → open_count t.streams < stream_limit)
    → Facing (effect s f) (effect t f)
unfolding effect
both_effect f s t h data_ head_ reset_ grant_ a b =
    both_if Facing (f.kind == 0) (data_of f s (stream_at s.streams f.stream)) _ (data_of f t (stream_at t.streams f.stream)) _ (λ k. both_data f s t h (data_ k))
    (λ k0. both_if Facing ((f.kind == 1) || (f.kind == 9)) (block_of_headers f s) _ (block_of_headers f t) _ (λ k. both_block f s t (head_ k) a b h)
    (λ k1. both_if Facing (f.kind == 3) (if_open (stream_at s.streams f.stream) s (λ st. reset_of f st s)) _ (if_open (stream_at t.streams f.stream) t (λ st. reset_of f st t)) _
    (λ k. both_if_open s t f.stream (λ st. reset_of f st s) (λ st. reset_of f st t) h (reset_ k) (λ x y much. both_reset f x y s t h) (λ closed x. left_reset f x s t closed h))
    (λ k3. both_if Facing (f.kind == 4) (settings f s) _ (settings f t) _ (λ k. both_all_settings f s t h)
    (λ k4. both_if Facing (f.kind == 6) (ping f s) _ (ping f t) _ (λ k. both_ping f s t h)
    (λ k6. both_if Facing (f.kind == 7) (goaway f s) _ (goaway f t) _ (λ k. both_goaway f s t h)
    (λ k7. both_if Facing (f.kind == 8) (window_update f s) s (window_update f t) t (λ k. both_update f s t (grant_ k) h) (λ k8. h)))))))

pub begun : (s t : State) → Facing s t → Facing (record s { began = true }) (record t { began = true })
begun s t h = record {
  more = record {
    role = h.more.role;
    began = refl;
    block = h.more.block;
    decoder = h.more.decoder;
    initial = h.more.initial;
    receive = h.more.receive;
    send = h.more.send;
    opened = h.more.opened;
    server = h.more.server;
    known = h.more.known;
    streams = h.more.streams;
  };
  left = h.left;
  right = h.right;
}
