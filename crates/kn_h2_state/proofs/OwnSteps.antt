-- After each step of its own, an end hears at least as much of the peer as before.
use Rattle.std.proofs.Common.{◌≡◌, inl, inr, ◌⊎◌, ℕ, ℤ, pos, ◌+◌, ◌+ℤ◌, ◌-ℤ◌, ◌≤ℤ◌, ◌<◌, ◌≤◌, Bool, true, false, not, ◌||◌, nat_lt, is_none, List, [], ◌∷◌, ◌++◌, length, Option, Some, None, refl, sym, ap, ◌∙◌, subst, arith, if◌then◌else◌}
use Rattle.std.specs.Prelude.{◌==◌}
use Rattle.std.proofs.lemmas.Bool.{and_parts, eqb-true, eqb-false}
use Rattle.std.proofs.lemmas.Int.{ints}
use Rattle.kn_hpack.specs.Fields.{Field}
use Rattle.kn_hpack.specs.Encoding.{block_of}
use Rattle.kn_h2_state.specs.declared.moves.Move.{Move}
use Rattle.kn_h2_state.specs.declared.moves.Move.TheVariants.{GrantAll, Grant, Send, End, Stop}
use Rattle.kn_h2_state.specs.declared.stream.Stream.{Stream}
use Rattle.kn_h2_state.specs.declared.state.State.{State}
use Rattle.kn_h2_state.specs.Limits.{reply_limit, full_out}
use Rattle.kn_h2_state.specs.Outgoing.{put, reply_bytes}
use Rattle.kn_h2_state.specs.Streams.{stream_at, change, is_open, shut, on_open, passes}
use Rattle.kn_h2_state.specs.Payloads.{reset_frame}
use Rattle.kn_h2_state.specs.Rules.{is_client}
use Rattle.kn_h2_state.specs.Effects.{fail, reply, on_stream, new_stream}
use Rattle.kn_h2_state.specs.Moves.{can_stop, is_due, may, headers_frames, granted, sent_some, own_ended, stopped, made, target, after_move}
use Rattle.kn_h2_state.specs.Calls.{with_taken, with_queued, with_finish, next_number, after_take, after_begin, after_queue, after_finish, after_answer, after_reset, after_took}
use Rattle.kn_h2_state.specs.Preorder.{HearsAsMuch, IsOpenIn, IsNewTo, HearsMore, KnowsItsBlock, StopsWhereEnded, OwnStepsAreHeard, HearsMoreInTurn}
use Rattle.kn_h2_state.proofs.SeenLemmas.{KeepsNumber, at_changed, at_change as at_other}
use Rattle.kn_h2_state.proofs.OtherLaws.{either}
use Rattle.kn_h2_state.proofs.BorneLemmas.{Rises, rises, climbing, rises_change, at_change, at_tidied, at_push}

-- ---- a preorder

pub le_same : (x : ℤ) → x ≤ℤ x
le_same x = omega (arith, ints)

pub le_then : (x y z : ℤ) → x ≤ℤ y → y ≤ℤ z → x ≤ℤ z
le_then x y z a b = omega (arith, ints, a, b)

pub as_much_same : (c : Bool) (a : Stream) → HearsAsMuch c a a
as_much_same c a = record { receive = le_same a.receive; send = le_same a.send; half = refl; own = λ e. e; head = λ e. refl }

pub as_much_then : (c : Bool) (x y z : Stream) → HearsAsMuch c x y → HearsAsMuch c y z → HearsAsMuch c x z
as_much_then c x y z a b = record {
  receive = le_then x.receive y.receive z.receive a.receive b.receive;
  send = le_then z.send y.send x.send b.send a.send;
  half = b.half ∙ a.half;
  own = λ e. a.own (b.own e);
  head = λ e. b.head e ∙ a.head e;
}

pub in_turn : HearsMoreInTurn
in_turn s t u a b = record {
  role = b.role ∙ a.role;
  began = b.began ∙ a.began;
  block = b.block ∙ a.block;
  decoder = b.decoder ∙ a.decoder;
  initial = b.initial ∙ a.initial;
  receive = le_then s.receive t.receive u.receive a.receive b.receive;
  send = le_then u.send t.send s.send b.send a.send;
  opened = omega (arith, a.opened, b.opened);
  server = λ e. b.server (ap is_client a.role ∙ e) ∙ a.server e;
  known = a.known;
  streams = each;
}
  where
    from_first : (n : ℕ) (y z : Stream) → HearsAsMuch (is_client s.role) y z → IsOpenIn s n y ⊎ IsNewTo s t n y → IsOpenIn s n z ⊎ IsNewTo s u n z
    from_first n y z much (inl (x, at, open_, first)) = inl (x, at, open_, as_much_then (is_client s.role) x y z first much)
    from_first n y z much (inr (client, above, sends)) =
        inr (client, above, subst (λ i. z.send ≤ℤ pos i) (sym b.initial) (le_then z.send y.send (pos t.initial) much.send sends))

    from_both : (n : ℕ) (z : Stream) → IsOpenIn t n z ⊎ IsNewTo t u n z → IsOpenIn s n z ⊎ IsNewTo s u n z
    from_both n z (inl (y, at, open_, much)) = from_first n y z (subst (λ r. HearsAsMuch (is_client r) y z) a.role much) (a.streams n y at open_)
    from_both n z (inr (client, above, sends)) = inr (ap is_client (sym a.role) ∙ client, omega (arith, a.opened, above), sends)

    each : (n : ℕ) (z : Stream) → stream_at u.streams n ≡ Some z → is_open z ≡ true → IsOpenIn s n z ⊎ IsNewTo s u n z
    each n z at open_ = from_both n z (b.streams n z at open_)

-- ---- one stream changes

-- if the stream is open, it hears at least as much as there
abbrev Much : State → ℕ → Option Stream → Type 0
Much s n None = Unit {0}
Much s n (Some b) = is_open b ≡ true → IsOpenIn s n b

much_at : (s : State) (n : ℕ) (o : Option Stream) → stream_at s.streams n ≡ o → Much s n o
much_at s n None e = tt
much_at s n (Some b) e = λ open_. (b, e, open_, as_much_same (is_client s.role) b)

much_from : (s : State) (n : ℕ) (o : Option Stream) (b : Stream) → Much s n o → o ≡ Some b → is_open b ≡ true → IsOpenIn s n b
much_from s n o b much e = subst (Much s n) e much

-- a change after which a stream that is open hears at least as much
abbrev Betters : Bool → (Stream → Stream) → Type 0
Betters c f = (st : Stream) → is_open (f st) ≡ true → (is_open st ≡ true) × HearsAsMuch c st (f st)

much_changed : (s : State) (m n : ℕ) (f : Stream → Stream) → KeepsNumber f → Betters (is_client s.role) f → Much s n (stream_at (change s.streams m f) n)
much_changed s m n f number better = at_change (Much s n) s.streams m n f number step (much_at s n (stream_at s.streams n) refl)
  where
    step : (st : Stream) → Much s n (Some st) → Much s n (Some (f st))
    step st much open_ =
        let b = better st open_ in
        let before = much b.0 in
        (before.0, before.1, before.2, as_much_then (is_client s.role) before.0 st (f st) before.3 b.1)

much_on : (s : State) (m n : ℕ) (f : Stream → Stream) → Rises 0 s.opened s.streams → KeepsNumber f → Betters (is_client s.role) f → Much s n (stream_at (on_stream m f s).streams n)
much_on s m n f r number better =
    at_tidied (Much s n) 0 n (change s.streams m f) (λ st e q. tt) (climbing 0 s.opened (change s.streams m f) (rises_change 0 s.opened s.streams m f number r))
    (much_changed s m n f number better)

-- all else is as it was, or hears more
hears : (s t : State) → KnowsItsBlock s → t.role ≡ s.role → t.began ≡ s.began → t.block ≡ s.block → t.decoder ≡ s.decoder → t.initial ≡ s.initial
    → s.receive ≤ℤ t.receive → t.send ≤ℤ s.send → t.opened ≡ s.opened → ((n : ℕ) → Much s n (stream_at t.streams n)) → HearsMore s t
hears s t known role began block decoder initial receive send opened much = record {
  role = role;
  began = began;
  block = block;
  decoder = decoder;
  initial = initial;
  receive = receive;
  send = send;
  opened = omega (arith, opened);
  server = λ e. opened;
  known = known;
  streams = λ n b at open_. inl (much_from s n (stream_at t.streams n) b (much n) at open_);
}

-- nothing but streams changed
hears_streams : (s : State) (ss : List Stream) → KnowsItsBlock s → ((n : ℕ) → Much s n (stream_at ss n)) → HearsMore s (record s { streams = ss })
hears_streams s ss known much = hears s (record s { streams = ss }) known refl refl refl refl refl (le_same s.receive) (le_same s.send) refl much

-- what is not looked at
hears_out : (s t u : State) → HearsMore s t → u.role ≡ t.role → u.began ≡ t.began → u.block ≡ t.block → u.decoder ≡ t.decoder → u.initial ≡ t.initial
    → u.receive ≡ t.receive → u.send ≡ t.send → u.opened ≡ t.opened → u.streams ≡ t.streams → HearsMore s u
hears_out s t u h role began block decoder initial receive send opened streams = record {
  role = role ∙ h.role;
  began = began ∙ h.began;
  block = block ∙ h.block;
  decoder = decoder ∙ h.decoder;
  initial = initial ∙ h.initial;
  receive = subst (λ z. s.receive ≤ℤ z) (sym receive) h.receive;
  send = subst (λ z. z ≤ℤ s.send) (sym send) h.send;
  opened = subst (λ k. s.opened ≤ k) (sym opened) h.opened;
  server = λ e. opened ∙ h.server e;
  known = h.known;
  streams = λ n b at open_. subst (λ i. IsOpenIn s n b ⊎ ((is_client s.role ≡ true) × (s.opened < n) × (b.send ≤ℤ pos i))) (sym initial)
      (h.streams n b (ap (λ ss. stream_at ss n) (sym streams) ∙ at) open_);
}

hears_reply : (s t : State) (frame : List ℕ) → HearsMore s t → HearsMore s (reply frame t)
unfolding reply fail
hears_reply s t frame h =
    either (HearsMore s) (nat_lt reply_limit (reply_bytes t.out + length frame)) (fail 11 t) (record t { out = put t.out true frame })
    (hears_out s t (fail 11 t) h refl refl refl refl refl refl refl refl refl) (hears_out s t (record t { out = put t.out true frame }) h refl refl refl refl refl refl refl refl refl)

-- ---- the changes

better_same : (c : Bool) (f : Stream → Stream) → ((st : Stream) → (f st).receive ≡ st.receive) → ((st : Stream) → (f st).send ≡ st.send) → ((st : Stream) → (f st).peer_open ≡ st.peer_open)
    → ((st : Stream) → (f st).own_open ≡ st.own_open) → ((st : Stream) → c ≡ true → (f st).answered ≡ st.answered) → Betters c f
better_same c f receive send peer own head st e = (
  sym (ap (λ b. b || (f st).own_open) (peer st) ∙ ap (λ b. st.peer_open || b) (own st)) ∙ e,
  record {
    receive = subst (λ z. st.receive ≤ℤ z) (sym (receive st)) (le_same st.receive);
    send = subst (λ z. z ≤ℤ st.send) (sym (send st)) (le_same st.send);
    half = peer st;
    own = λ o. sym (own st) ∙ o;
    head = head st;
  },
)

better_shut : (c : Bool) → Betters c shut
better_shut c st e = absurd cc

more_room : (x : ℤ) (n : ℕ) → x ≤ℤ (x +ℤ pos n)
more_room x n = omega (arith, ints)

less_room : (x : ℤ) (n : ℕ) → (x -ℤ pos n) ≤ℤ x
less_room x n = omega (arith, ints)

better_granted : (c : Bool) → Betters c granted
better_granted c st e = (e, record { receive = more_room st.receive st.owed; send = le_same st.send; half = refl; own = λ o. o; head = λ o. refl })

better_sent : (c : Bool) (count : ℕ) → Betters c (sent_some count)
better_sent c count st e = (e, record { receive = le_same st.receive; send = less_room st.send count; half = refl; own = λ o. o; head = λ o. refl })

better_ended : (c server : Bool) → Betters c (own_ended server)
better_ended c server st e = (
  by_half st.peer_open e,
  record { receive = le_same st.receive; send = le_same st.send; half = refl; own = λ o. absurd cc; head = λ o. refl },
)
  where
    by_half : (b : Bool) → (b || false) ≡ true → (b || st.own_open) ≡ true
    by_half true h = refl
    by_half false h = absurd cc

-- ---- moves

-- the stream that is stopped is closed then
much_stopped : (s : State) (m n : ℕ) → Rises 0 s.opened s.streams → StopsWhereEnded s → on_open s.streams m can_stop ≡ true → Much s n (stream_at (on_stream m stopped s).streams n)
much_stopped s m n r ended stops =
    at_tidied (Much s n) 0 n (change s.streams m stopped) (λ st e q. tt) (climbing 0 s.opened (change s.streams m stopped) (rises_change 0 s.opened s.streams m stopped (λ x. refl) r))
    (by_number (m == n) refl)
  where
    closed : (st : Stream) → stream_at s.streams m ≡ Some st → can_stop st ≡ true → is_open (stopped st) ≡ true → ⊥
    closed st at can o = let own : st.own_open ≡ false = ended m st at can in cc

    on_it : (o : Option Stream) → stream_at s.streams m ≡ o → passes can_stop o ≡ true → Much s m (stream_at (change s.streams m stopped) m)
    on_it None e p = absurd cc
    on_it (Some st) e p =
        subst (Much s m) (sym (at_changed s.streams m stopped st (λ x. refl) e)) (λ open_. absurd (closed st e (and_parts (is_open st) (can_stop st) p).1 open_))

    by_number : (b : Bool) → (m == n) ≡ b → Much s n (stream_at (change s.streams m stopped) n)
    by_number true e = subst (λ k. Much s k (stream_at (change s.streams m stopped) k)) (eqb-true m n e) (on_it (stream_at s.streams m) refl stops)
    by_number false e =
        subst (Much s n) (sym (at_other s.streams m n stopped (λ x. refl) (eqb-false m n e))) (much_at s n (stream_at s.streams n) refl)

hears_move : (s : State) (m : Move) → Rises 0 s.opened s.streams → KnowsItsBlock s → StopsWhereEnded s → may s m ≡ true → HearsMore s (after_move s m)
unfolding after_move may
hears_move s m r known ended allowed = by_move m (stream_at s.streams (target m)) refl (and_parts (nat_lt (length s.out.bytes) full_out) (is_due s m) (and_parts (is_none s.failed) _ allowed).1).1
  where
    same : HearsMore s s
    same = hears s s known refl refl refl refl refl (le_same s.receive) (le_same s.send) refl (λ n. much_at s n (stream_at s.streams n) refl)

    by_move : (k : Move) (o : Option Stream) → stream_at s.streams (target k) ≡ o → is_due s k ≡ true → HearsMore s (made s k o)
    by_move GrantAll o e due =
        hears s (made s GrantAll o) known refl refl refl refl refl (more_room s.receive s.owed) (le_same s.send) refl (λ n. much_at s n (stream_at s.streams n) refl)
    by_move (Grant k) None e due = same
    by_move (Grant k) (Some st) e due =
        hears s (made s (Grant k) (Some st)) known refl refl refl refl refl (le_same s.receive) (le_same s.send) refl
        (λ n. much_changed s k n granted (λ x. refl) (better_granted (is_client s.role)))
    by_move (Send k count) None e due = same
    by_move (Send k count) (Some st) e due =
        hears s (made s (Send k count) (Some st)) known refl refl refl refl refl (le_same s.receive) (less_room s.send count) refl
        (λ n. much_changed s k n (sent_some count) (λ x. refl) (better_sent (is_client s.role) count))
    by_move (End k) None e due = same
    by_move (End k) (Some st) e due =
        hears s (made s (End k) (Some st)) known refl refl refl refl refl (le_same s.receive) (le_same s.send) refl
        (λ n. much_on s k n (own_ended (not (is_client s.role))) r (λ x. refl) (better_ended (is_client s.role) (not (is_client s.role))))
    by_move (Stop k) None e due = same
    by_move (Stop k) (Some st) e due =
        hears s (made s (Stop k) (Some st)) known refl refl refl refl refl (le_same s.receive) (le_same s.send) refl (λ n. much_stopped s k n r ended due)

-- ---- calls

hears_begin : (s : State) (fields : List Field) → KnowsItsBlock s → is_client s.role ≡ true → HearsMore s (after_begin fields s)
unfolding after_begin
hears_begin s fields known client =
    let t : State = after_begin fields s in
    let above : s.opened < next_number s = next_above in
    record {
      role = refl;
      began = refl;
      block = refl;
      decoder = refl;
      initial = refl;
      receive = le_same s.receive;
      send = le_same s.send;
      opened = omega (arith, above);
      server = λ e. absurd (not_both (is_client s.role) client e);
      known = known;
      streams = λ n b at open_. from (stream_at t.streams n) n b (pushed n above) at open_;
    }
  where
    not_both : (b : Bool) → b ≡ true → b ≡ false → ⊥
    not_both b e g = cc

    next_above : s.opened < next_number s
    next_above = by_first (s.opened == 0) refl
      where
        by_first : (b : Bool) → (s.opened == 0) ≡ b → s.opened < (if b then 1 else s.opened + 2)
        by_first true e = omega (arith, eqb-true s.opened 0 e)
        by_first false e = omega arith

    Known : ℕ → Option Stream → Type 0
    Known n None = Unit {0}
    Known n (Some b) = is_open b ≡ true → IsOpenIn s n b ⊎ ((is_client s.role ≡ true) × (s.opened < n) × (b.send ≤ℤ pos s.initial))

    before : (n : ℕ) (o : Option Stream) → Much s n o → Known n o
    before n None much = tt
    before n (Some b) much = λ open_. inl (much open_)

    pushed : (n : ℕ) → s.opened < next_number s → Known n (stream_at (s.streams ++ new_stream (next_number s) s ∷ []) n)
    pushed n above =
        at_push (Known n) s.streams n (new_stream (next_number s) s) (λ same open_. inr (client, subst (λ k. s.opened < k) same above, le_same (pos s.initial)))
        (before n (stream_at s.streams n) (much_at s n (stream_at s.streams n) refl))

    from : (o : Option Stream) (n : ℕ) (b : Stream) → Known n o → o ≡ Some b → is_open b ≡ true
        → IsOpenIn s n b ⊎ ((is_client s.role ≡ true) × (s.opened < n) × (b.send ≤ℤ pos s.initial))
    from o n b k e = subst (Known n) e k

pub own_steps_are_heard : OwnStepsAreHeard
unfolding after_take after_queue after_finish after_answer after_reset after_took
own_steps_are_heard s h known =
    let r : Rises 0 s.opened s.streams = rises 0 s.opened s.streams h.rising in
    let same : HearsMore s s = hears s s known refl refl refl refl refl (le_same s.receive) (le_same s.send) refl (λ n. much_at s n (stream_at s.streams n) refl) in
    record {
      none = same;
      move = λ m ended allowed. hears_move s m r known ended allowed;
      take = λ m count. hears s (after_take m count s) known refl refl refl refl refl (le_same s.receive) (le_same s.send) refl
          (λ n. much_on s m n (with_taken count) r (λ x. refl)
          (better_same (is_client s.role) (with_taken count) (λ x. refl) (λ x. refl) (λ x. refl) (λ x. refl) (λ x e. refl)));
      took = λ count. hears_out s s (after_took count s) same refl refl refl refl refl refl refl refl refl;
      begin = λ fields client. hears_begin s fields known client;
      queue = λ m bytes. hears_streams s (change s.streams m (with_queued bytes)) known
          (λ n. much_changed s m n (with_queued bytes) (λ x. refl)
          (better_same (is_client s.role) (with_queued bytes) (λ x. refl) (λ x. refl) (λ x. refl) (λ x. refl) (λ x e. refl)));
      finish = λ m trailers. hears_streams s (change s.streams m (with_finish trailers)) known
          (λ n. much_changed s m n (with_finish trailers) (λ x. refl)
          (better_same (is_client s.role) (with_finish trailers) (λ x. refl) (λ x. refl) (λ x. refl) (λ x. refl) (λ x e. refl)));
      answer = λ m fields server.
          let f : Stream → Stream = λ st. record st { answered = true } in
          let changed : State = record s { streams = change s.streams m f; encoder = true } in
          hears_reply s changed (headers_frames m 0 (block_of s.encoder fields))
          (hears s changed known refl refl refl refl refl (le_same s.receive) (le_same s.send) refl
          (λ n. much_changed s m n f (λ x. refl)
          (better_same (is_client s.role) f (λ x. refl) (λ x. refl) (λ x. refl) (λ x. refl) (λ x e. absurd (not_both (is_client s.role) e server)))));
      reset = λ m code. hears_reply s (on_stream m shut s) (reset_frame m code)
          (hears s (on_stream m shut s) known refl refl refl refl refl (le_same s.receive) (le_same s.send) refl (λ n. much_on s m n shut r (λ x. refl) (better_shut (is_client s.role))));
    }
  where
    not_both : (b : Bool) → b ≡ true → b ≡ false → ⊥
    not_both b e g = cc
