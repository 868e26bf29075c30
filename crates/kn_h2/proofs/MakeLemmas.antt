-- What the steps of a move make is the state after it.
use Rattle.std.proofs.Common.{◌≡◌, ℕ, ℤ, pos, ◌-ℤ◌, ◌≤ℤ◌, ◌<◌, ◌≤◌, Bool, true, false, not, ◌||◌, cond, eqb, List, [], ◌∷◌, length, take, Option, Some, None, IfSome, is_some, refl, sym, ap, ◌∙◌, subst, arith}
use Rattle.std.specs.Prelude.{int_le}
use Rattle.std.proofs.lemmas.Int.{ints}
use Rattle.std.proofs.lemmas.Bool.{or_right, eqb-true}
use Rattle.kn_windows.specs.Windows.{can_spend}
use Rattle.kn_frames.specs.Frames.{spelled}
use Rattle.kn_hpack.specs.Fields.{Field}
use Rattle.kn_hpack.specs.Encoding.{block_of}
use Rattle.kn_h2_state.specs.declared.moves.Move.{Move}
use Rattle.kn_h2_state.specs.declared.moves.Move.TheVariants.{Grant, Send, End, Stop}
use Rattle.kn_h2_state.specs.declared.stream.Stream.{Stream}
use Rattle.kn_h2_state.specs.declared.state.State.{State}
use Rattle.kn_h2_state.specs.Outgoing.{Out, put}
use Rattle.kn_h2_state.specs.Payloads.{grant_frame, reset_frame}
use Rattle.kn_h2_state.specs.Rules.{is_client}
use Rattle.kn_h2_state.specs.Streams.{stream_at, change, tidied}
use Rattle.kn_h2_state.specs.Moves.{may, is_owed, can_send, can_end, can_stop, made, after_move, target, granted, sent_some, own_ended, stopped, end_frames, headers_frames}
use Rattle.kn_h2_state.specs.Calls.{queue_in}
use Rattle.kn_h2_state.specs.Holding.{Holds, Rising}
use Rattle.kn_h2.specs.Finding.{owed_in, finish_in}
use Rattle.kn_h2.proofs.FoundLemmas.{found_open}
use Rattle.kn_h2.proofs.MoveLemmas.{move_parts, send_parts, end_parts}

-- ---- numbers

rising_le : (low high : ℕ) (ss : List Stream) → Rising low high ss → low ≤ high
unfolding Rising
rising_le low high [] r = r
rising_le low high (x ∷ ss) r = let rest = rising_le x.number high ss r.2 in omega (arith, r.0)

pub number_within : (ss : List Stream) (low high n : ℕ) (st : Stream) → Rising low high ss → stream_at ss n ≡ Some st → n ≤ high
unfolding stream_at Rising
number_within [] low high n st r e = absurd cc
number_within (x ∷ ss) low high n st r e = by_test (eqb x.number n) refl (λ h. number_within ss x.number high n st r.2 h) e
  where
    by_test : (b : Bool) → eqb x.number n ≡ b → (stream_at ss n ≡ Some st → n ≤ high) → cond b (Some x) (stream_at ss n) ≡ Some st → n ≤ high
    by_test true t rest h = let is_n : x.number ≡ n = eqb-true _ _ t in let le = rising_le x.number high ss r.2 in omega arith
    by_test false t rest h = rest h

pub number_fits : (s : State) (n : ℕ) (st : Stream) → Holds s → stream_at s.streams n ≡ Some st → n < 2147483648
number_fits s n st holds e = let le = number_within s.streams 0 s.opened n st holds.rising e in omega (arith, holds.numbers)

after_at : (s : State) (m : Move) (st : Stream) → stream_at s.streams (target m) ≡ Some st → after_move s m ≡ made s m (Some st)
unfolding after_move
after_at s m st e = ap (made s m) e

-- ---- WINDOW_UPDATE of a stream

pub grant_number : (s : State) (n : ℕ) → Holds s → may s (Grant n) ≡ true → n < 2147483648
grant_number s n holds ok =
    let here = found_open s.streams n is_owed (move_parts s (Grant n) ok).due in
    number_fits s n here.0 holds here.1.found

pub grant_made : (s : State) (n by : ℕ) (out : Out) (streams : List Stream) → may s (Grant n) ≡ true → by ≡ owed_in (stream_at s.streams n) → out ≡ put s.out false (grant_frame n by) → streams ≡ change s.streams n granted
    → record s { out = out; streams = streams } ≡ after_move s (Grant n)
grant_made s n by out streams ok b o g =
    let here = found_open s.streams n is_owed (move_parts s (Grant n) ok).due in
    let owed : by ≡ here.0.owed = b ∙ ap owed_in here.1.found in
    rw (o, g, owed) (sym (after_at s (Grant n) here.0 here.1.found))

-- ---- DATA

-- what the steps of a Send need
pub record IsSend (s : State) (n count : ℕ) : Type 0 where
  pub number : n < 2147483648
  pub frame : count ≤ 16384
  pub queued : count ≤ length (queue_in (stream_at s.streams n))
  pub waits : IfSome (stream_at s.streams n) (λ (st : Stream). count ≤ length st.queue)
  pub stream : IfSome (stream_at s.streams n) (λ (st : Stream). can_spend st.send count ≡ true)
  pub connection : can_spend s.send count ≡ true

int_le-from : (x y : ℤ) → x ≤ℤ y → int_le x y ≡ true
int_le-from x y h = grind (arith, ints)

pub send_needs : (s : State) (n count : ℕ) → Holds s → may s (Send n count) ≡ true → IsSend s n count
send_needs s n count holds ok =
    let here = found_open s.streams n (can_send count s.send) (move_parts s (Send n count) ok).due in
    let parts = send_parts count s.send here.0 here.1.passed in
    let found = here.1.found in
    record {
      number = number_fits s n here.0 holds found;
      frame = parts.frame;
      queued = subst (λ (o : Option Stream). count ≤ length (queue_in o)) (sym found) parts.queued;
      waits = subst (λ (o : Option Stream). IfSome o (λ (st : Stream). count ≤ length st.queue)) (sym found) parts.queued;
      stream = subst (λ (o : Option Stream). IfSome o (λ (st : Stream). can_spend st.send count ≡ true)) (sym found) (or_right _ _ (int_le-from _ _ parts.stream));
      connection = or_right _ _ (int_le-from _ _ parts.connection);
    }

pub send_made : (s : State) (n count : ℕ) (out : Out) (streams : List Stream) (left : ℤ) → may s (Send n count) ≡ true → out ≡ put s.out false (spelled 0 0 n (take count (queue_in (stream_at s.streams n))))
    → streams ≡ change s.streams n (sent_some count) → left ≡ s.send -ℤ pos count → record s { out = out; streams = streams; send = left } ≡ after_move s (Send n count)
send_made s n count out streams left ok o g l =
    let here = found_open s.streams n (can_send count s.send) (move_parts s (Send n count) ok).due in
    let text : queue_in (stream_at s.streams n) ≡ here.0.queue = ap queue_in here.1.found in
    rw (o, g, l, text) (sym (after_at s (Send n count) here.0 here.1.found))

-- ---- ends

pub end_number : (s : State) (n : ℕ) → Holds s → may s (End n) ≡ true → n < 2147483648
end_number s n holds ok =
    let here = found_open s.streams n can_end (move_parts s (End n) ok).due in
    number_fits s n here.0 holds here.1.found

pub end_asked : (s : State) (n : ℕ) → may s (End n) ≡ true → is_some (finish_in (stream_at s.streams n)) ≡ true
end_asked s n ok =
    let here = found_open s.streams n can_end (move_parts s (End n) ok).due in
    ap (λ (o : Option Stream). is_some (finish_in o)) here.1.found ∙ (end_parts here.0 here.1.passed).asked

encoder_at_client : (b : Bool) → b ≡ (b || false)
encoder_at_client true = refl
encoder_at_client false = refl

encoder_at_server : (b : Bool) → true ≡ (b || true)
encoder_at_server true = refl
encoder_at_server false = refl

frames_at_client : (s : State) (n : ℕ) (o : Option (List Field)) → is_client s.role ≡ true → is_some o ≡ true → spelled 0 1 n [] ≡ end_frames s n o
frames_at_client s n None c a = absurd cc
frames_at_client s n (Some fields) c a = rw c refl

frames_at_server : (s : State) (n : ℕ) (o : Option (List Field)) (out : Out) → is_client s.role ≡ false → is_some o ≡ true → IfSome o (λ (fields : List Field). out ≡ put s.out false (headers_frames n 1 (block_of s.encoder fields))) → out ≡ put s.out false (end_frames s n o)
frames_at_server s n None out c a e = absurd cc
frames_at_server s n (Some fields) out c a e = rw c e

-- the three parts that the end of a half changes
joined : (s : State) (n : ℕ) (st : Stream) (out : Out) (streams : List Stream) (encoder : Bool) → out ≡ put s.out false (end_frames s n st.finish) → streams ≡ tidied (change s.streams n (own_ended (not (is_client s.role))))
    → encoder ≡ (s.encoder || not (is_client s.role)) → record s { out = out; streams = streams; encoder = encoder } ≡ made s (End n) (Some st)
joined s n st out streams encoder o g e = rw (o, g, e) refl

pub client_ended : (s : State) (n : ℕ) (out : Out) (streams : List Stream) → is_client s.role ≡ true → may s (End n) ≡ true → out ≡ put s.out false (spelled 0 1 n []) → streams ≡ tidied (change s.streams n (own_ended false))
    → record s { out = out; streams = streams } ≡ after_move s (End n)
client_ended s n out streams c ok o g =
    let here = found_open s.streams n can_end (move_parts s (End n) ok).due in
    let asked = (end_parts here.0 here.1.passed).asked in
    let e : out ≡ put s.out false (end_frames s n here.0.finish) = o ∙ ap (put s.out false) (frames_at_client s n here.0.finish c asked) in
    let server : false ≡ not (is_client s.role) = rw c refl in
    let enc : s.encoder ≡ (s.encoder || not (is_client s.role)) = encoder_at_client s.encoder ∙ ap (λ (b : Bool). s.encoder || b) server in
    let ss : streams ≡ tidied (change s.streams n (own_ended (not (is_client s.role)))) = g ∙ ap (λ (b : Bool). tidied (change s.streams n (own_ended b))) server in
    joined s n here.0 out streams s.encoder e ss enc ∙ sym (after_at s (End n) here.0 here.1.found)

pub server_ended : (s : State) (n : ℕ) (out : Out) (streams : List Stream) (encoder : Bool) → is_client s.role ≡ false → may s (End n) ≡ true
    → IfSome (finish_in (stream_at s.streams n)) (λ (fields : List Field). out ≡ put s.out false (headers_frames n 1 (block_of s.encoder fields))) → encoder ≡ true
    → streams ≡ tidied (change s.streams n (own_ended true)) → record s { out = out; streams = streams; encoder = encoder } ≡ after_move s (End n)
server_ended s n out streams encoder c ok o w g =
    let here = found_open s.streams n can_end (move_parts s (End n) ok).due in
    let asked = (end_parts here.0 here.1.passed).asked in
    let written = subst (λ (f : Option Stream). IfSome (finish_in f) (λ (fields : List Field). out ≡ put s.out false (headers_frames n 1 (block_of s.encoder fields)))) here.1.found o in
    let e : out ≡ put s.out false (end_frames s n here.0.finish) = frames_at_server s n here.0.finish out c asked written in
    let server : true ≡ not (is_client s.role) = rw c refl in
    let enc : encoder ≡ (s.encoder || not (is_client s.role)) = w ∙ encoder_at_server s.encoder ∙ ap (λ (b : Bool). s.encoder || b) server in
    let ss : streams ≡ tidied (change s.streams n (own_ended (not (is_client s.role)))) = g ∙ ap (λ (b : Bool). tidied (change s.streams n (own_ended b))) server in
    joined s n here.0 out streams encoder e ss enc ∙ sym (after_at s (End n) here.0 here.1.found)

-- ---- RST_STREAM behind the end

pub stop_number : (s : State) (n : ℕ) → Holds s → may s (Stop n) ≡ true → n < 2147483648
stop_number s n holds ok =
    let here = found_open s.streams n can_stop (move_parts s (Stop n) ok).due in
    number_fits s n here.0 holds here.1.found

pub stop_made : (s : State) (n : ℕ) (out : Out) (streams : List Stream) → may s (Stop n) ≡ true → out ≡ put s.out true (reset_frame n 0) → streams ≡ tidied (change s.streams n stopped) → record s { out = out; streams = streams } ≡ after_move s (Stop n)
stop_made s n out streams ok o g =
    let here = found_open s.streams n can_stop (move_parts s (Stop n) ok).due in
    rw (o, g) (sym (after_at s (Stop n) here.0 here.1.found))
