-- The windows of a connection are sums over its life.
use Rattle.std.proofs.Common.{◌≡◌, ℕ, zero, suc, pos, ◌≤◌, ◌+◌, ◌+ℤ◌, ◌-ℤ◌, Bool, true, false, cond, leb, List, [], ◌∷◌, ◌++◌, length, take, drop, Option, Some, None, refl, sym, ap, ◌∙◌, subst, append-nil, arith}
use Rattle.std.proofs.lemmas.Int.{ints}
use Rattle.std.proofs.lemmas.List.{length-take}
use Rattle.kn_frames.specs.declared.frame.Frame.{Frame}
use Rattle.kn_frames.specs.Readers.{Reading, after_bytes, frames_in}
use Rattle.kn_h2_state.specs.declared.role.Role.{Role}
use Rattle.kn_h2_state.specs.declared.moves.Move.{Move}
use Rattle.kn_h2_state.specs.declared.state.State.{State}
use Rattle.kn_h2_state.specs.Outgoing.{put}
use Rattle.kn_h2_state.specs.Effects.{fail, reply}
use Rattle.kn_h2_state.specs.Feeding.{after_frame, after_frames, after_piece}
use Rattle.kn_h2_state.specs.Moves.{may, after_move}
use Rattle.kn_h2_state.specs.Calls.{fresh_state, fresh, after_take, after_begin, after_queue, after_finish, after_answer, after_reset, after_took}
use Rattle.kn_h2_state.specs.Holding.{Holds}
use Rattle.kn_h2_state.specs.Wire.{grants_in, wire_grants}
use Rattle.kn_h2_state.proofs.PieceLaws.{frames-append}
use Rattle.kn_h2_state.proofs.WireLaws.{wire_splits}
use Rattle.kn_h2.specs.Sending.{spent_by}
use Rattle.kn_h2.specs.Written.{granted_by}
use Rattle.kn_h2.specs.Windows.{ConnectionFollows}
use Rattle.kn_h2.proofs.ConnectionWindows.{frames_shift_all}
use Rattle.kn_h2.proofs.OrderLemmas.{spends}
use Rattle.kn_h2.proofs.OwnWindows.{connection_rises}
use Rattle.kn_h2_courses.specs.Courses.{Act, Feeds, Tells, Takes, Begins, Answers, Queues, Finishes, Resets, Makes, Writes, MayDo, after, fed_by, spends_of, grants, Course, begins, after_act, first_reading}
use Rattle.kn_h2_courses.specs.Windows.{all_data_in, wire_all_data, HasWindows, WindowsAreSums, DataIsSpent}
use Rattle.kn_hpack.specs.Fields.{Field}
use Rattle.kn_hpack.specs.Encoding.{block_of}
use Rattle.kn_h2_state.specs.declared.moves.Move.TheVariants.{GrantAll, Grant, Send, End, Stop}
use Rattle.kn_h2_state.specs.declared.stream.Stream.{Stream}
use Rattle.kn_h2_state.specs.Streams.{stream_at}
use Rattle.kn_h2_state.specs.Rules.{is_client}
use Rattle.kn_h2_state.specs.Moves.{can_send}
use Rattle.kn_h2_state.specs.Wire.{frame, more_list, head_list, end_list, made_frames, move_frames}
use Rattle.kn_h2.proofs.FoundLemmas.{found_open}
use Rattle.kn_h2.proofs.MoveLemmas.{move_parts, send_parts}
use Rattle.kn_h2_courses.proofs.LifeLemmas.{goes_on, going_before, piece_goes_on, going_act, IsCut, every_life}

-- ---- sums over frames

all_data-append : (fs gs : List Frame) → all_data_in (fs ++ gs) ≡ all_data_in fs + all_data_in gs
unfolding all_data_in
all_data-append [] gs = omega arith
all_data-append (f ∷ fs) gs = let e : all_data_in (fs ++ gs) ≡ all_data_in fs + all_data_in gs = all_data-append fs gs in omega arith

all_data_splits : (r : Reading) (xs ys : List ℕ) → wire_all_data r (xs ++ ys) ≡ wire_all_data r xs + all_data_in (frames_in (after_bytes r xs) ys)
all_data_splits r xs ys = ap all_data_in (frames-append r xs ys) ∙ all_data-append (frames_in r xs) (frames_in (after_bytes r xs) ys)

-- ---- frames

-- the windows of the one are those of the other, more and less by so much
record Moved (s t : State) (granted spent given taken : ℕ) : Type 0 where
  send : t.send ≡ (s.send +ℤ pos granted) -ℤ pos spent
  receive : t.receive ≡ (s.receive +ℤ pos given) -ℤ pos taken

stayed : (s t : State) → t.send ≡ s.send → t.receive ≡ s.receive → Moved s t 0 0 0 0
stayed s t a b = record { send = omega (arith, ints, a); receive = omega (arith, ints, b) }

frames_move : (s : State) (fs : List Frame) → (after_frames s fs).failed ≡ None → Moved s (after_frames s fs) (grants_in 0 fs) 0 0 (all_data_in fs)
unfolding after_frames grants_in all_data_in
frames_move s [] e = stayed s s refl refl
frames_move s (f ∷ fs) e =
    let on = goes_on s f (going_before (after_frame s f) fs e) in
    let here : ConnectionFollows s (after_frame s f) f = frames_shift_all s f on.before on.verdict in
    let later = frames_move (after_frame s f) fs e in
    let a = here.send in
    let b = here.receive in
    let c = later.send in
    let d = later.receive in
    record { send = omega (arith, ints, a, c); receive = omega (arith, ints, b, d) }

-- ---- calls and moves

reply_moves : (frame : List ℕ) (s t : State) → t.send ≡ s.send → t.receive ≡ s.receive → Moved s (reply frame t) 0 0 0 0
unfolding reply fail
reply_moves frame s t a b = by_room _
  where
    by_room : (c : Bool) → Moved s (cond c (fail 11 t) (record t { out = put t.out true frame })) 0 0 0 0
    by_room true = record { send = omega (arith, ints, a); receive = omega (arith, ints, b) }
    by_room false = record { send = omega (arith, ints, a); receive = omega (arith, ints, b) }

move_moves : (s : State) (move : Move) → Holds s → may s move ≡ true → Moved s (after_move s move) 0 (spent_by move) (granted_by 0 s move) 0
move_moves s move h ok =
    let a = spends s (after_move s move) (move ∷ []) (ok, refl) in
    let b = connection_rises s (after_move s move) (move ∷ []) h (ok, refl) in
    record { send = omega (arith, ints, a); receive = omega (arith, ints, b) }

-- ---- an act

joined : (n : ℕ) (role : Role) (c : Course) (a : Act) (granted taken : ℕ) → HasWindows role c → Moved c.connection.state (after c.connection a).state granted (spends_of a) (grants c.connection.state a) taken
    → wire_grants 0 (first_reading role) (c.fed ++ fed_by a) ≡ wire_grants 0 (first_reading role) c.fed + granted
    → wire_all_data (first_reading role) (c.fed ++ fed_by a) ≡ wire_all_data (first_reading role) c.fed + taken → HasWindows role (after_act n c a)
joined n role c a granted taken w m g t =
    let p = w.send in
    let q = w.receive in
    let x = m.send in
    let y = m.receive in
    record { send = omega (arith, ints, p, x, g); receive = omega (arith, ints, q, y, t) }

no_grants : (r : Reading) (fed : List ℕ) → wire_grants 0 r (fed ++ []) ≡ wire_grants 0 r fed + 0
no_grants r fed = let e = ap (wire_grants 0 r) (append-nil fed) in omega (arith, e)

no_data : (r : Reading) (fed : List ℕ) → wire_all_data r (fed ++ []) ≡ wire_all_data r fed + 0
no_data r fed = let e = ap (wire_all_data r) (append-nil fed) in omega (arith, e)

fed_more : (n : ℕ) (role : Role) (c : Course) (piece : List ℕ) → IsCut role c → HasWindows role c → (after_piece c.connection piece).state.failed ≡ None → HasWindows role (after_act n c (Feeds piece))
fed_more n role c piece h w e =
    let on = piece_goes_on c.connection piece e in
    let fs = frames_in c.connection.cutter piece in
    let going = ap (λ (t : State). t.failed) (sym on.state) ∙ e in
    let moved = subst (λ (t : State). Moved c.connection.state t (grants_in 0 fs) 0 0 (all_data_in fs)) (sym on.state) (frames_move c.connection.state fs going) in
    let cut = h.cut on.before in
    joined n role c (Feeds piece) (grants_in 0 fs) (all_data_in fs) w moved
    ((wire_splits 0 (first_reading role) c.fed piece).grants ∙ ap (λ (r : Reading). wire_grants 0 (first_reading role) c.fed + wire_grants 0 r piece) (sym cut))
    (all_data_splits (first_reading role) c.fed piece ∙ ap (λ (r : Reading). wire_all_data (first_reading role) c.fed + wire_all_data r piece) (sym cut))

act_moves : (n : ℕ) (role : Role) (c : Course) (a : Act) → MayDo c.connection.state a → IsCut role c → HasWindows role c → (after c.connection a).state.failed ≡ None → HasWindows role (after_act n c a)
unfolding after_take after_begin after_queue after_finish after_answer after_reset after_took
act_moves n role c (Feeds piece) ok h w e = fed_more n role c piece h w e
act_moves n role c (Tells count) ok h w e = joined n role c (Tells count) 0 0 w (stayed c.connection.state _ refl refl) (no_grants (first_reading role) c.fed) (no_data (first_reading role) c.fed)
act_moves n role c (Takes m count) ok h w e = joined n role c (Takes m count) 0 0 w (stayed c.connection.state _ refl refl) (no_grants (first_reading role) c.fed) (no_data (first_reading role) c.fed)
act_moves n role c (Begins fields) ok h w e = joined n role c (Begins fields) 0 0 w (stayed c.connection.state _ refl refl) (no_grants (first_reading role) c.fed) (no_data (first_reading role) c.fed)
act_moves n role c (Answers m fields) ok h w e = joined n role c (Answers m fields) 0 0 w (reply_moves _ c.connection.state _ refl refl) (no_grants (first_reading role) c.fed) (no_data (first_reading role) c.fed)
act_moves n role c (Queues m bytes) ok h w e = joined n role c (Queues m bytes) 0 0 w (stayed c.connection.state _ refl refl) (no_grants (first_reading role) c.fed) (no_data (first_reading role) c.fed)
act_moves n role c (Finishes m trailers) ok h w e = joined n role c (Finishes m trailers) 0 0 w (stayed c.connection.state _ refl refl) (no_grants (first_reading role) c.fed) (no_data (first_reading role) c.fed)
act_moves n role c (Resets m code) ok h w e = joined n role c (Resets m code) 0 0 w (reply_moves _ c.connection.state _ refl refl) (no_grants (first_reading role) c.fed) (no_data (first_reading role) c.fed)
act_moves n role c (Makes move) ok h w e = joined n role c (Makes move) 0 0 w (move_moves c.connection.state move h.sound.holds ok) (no_grants (first_reading role) c.fed) (no_data (first_reading role) c.fed)
act_moves n role c (Writes count) ok h w e = joined n role c (Writes count) 0 0 w (stayed c.connection.state _ refl refl) (no_grants (first_reading role) c.fed) (no_data (first_reading role) c.fed)

at_first : (role : Role) → HasWindows role (begins role)
unfolding fresh fresh_state grants_in all_data_in
at_first role = record { send = omega (arith, ints); receive = omega (arith, ints) }

pub windows_are_sums : WindowsAreSums
windows_are_sums = every_life (λ n role c. c.connection.state.failed ≡ None → HasWindows role c) (λ n role. record {
  first = λ e. at_first role;
  step = λ c a ok h p e. act_moves n role c a ok h (p (going_act c.connection a ok e)) e;
})

-- ---- DATA in what moves write

more_no_data : (fuel n : ℕ) (block : List ℕ) → all_data_in (more_list fuel n block) ≡ 0
unfolding more_list all_data_in
more_no_data zero n block = refl
more_no_data (suc fuel) n block = by_long (leb (length block) 16384) (more_no_data fuel n (drop 16384 block))
  where
    by_long : (b : Bool) → all_data_in (more_list fuel n (drop 16384 block)) ≡ 0
        → all_data_in (cond b (frame 9 4 n block ∷ []) (frame 9 0 n (take 16384 block) ∷ more_list fuel n (drop 16384 block))) ≡ 0
    by_long true e = refl
    by_long false e = omega (arith, e)

head_no_data : (n flags : ℕ) (block : List ℕ) → all_data_in (head_list n flags block) ≡ 0
unfolding head_list all_data_in
head_no_data n flags block = by_long (leb (length block) 16384)
  where
    by_long : (b : Bool) → all_data_in (cond b (frame 1 (flags + 4) n block ∷ []) (frame 1 flags n (take 16384 block) ∷ more_list (length block) n (drop 16384 block))) ≡ 0
    by_long true = refl
    by_long false = let e = more_no_data (length block) n (drop 16384 block) in omega (arith, e)

end_no_data : (s : State) (n : ℕ) (o : Option (List Field)) → all_data_in (end_list s n o) ≡ 0
unfolding all_data_in
end_no_data s n None = refl
end_no_data s n (Some trailers) = by_role (is_client s.role)
  where
    by_role : (b : Bool) → all_data_in (cond b (frame 0 1 n [] ∷ []) (head_list n 1 (block_of s.encoder trailers))) ≡ 0
    by_role true = refl
    by_role false = head_no_data n 1 (block_of s.encoder trailers)

sent_data : (s : State) (n count : ℕ) → may s (Send n count) ≡ true → all_data_in (made_frames s (Send n count) (stream_at s.streams n)) ≡ count
unfolding all_data_in
sent_data s n count ok =
    let here = found_open s.streams n (can_send count s.send) (move_parts s (Send n count) ok).due in
    let fits : count ≤ length here.0.queue = (send_parts count s.send here.0 here.1.passed).queued in
    let long = length-take count here.0.queue in
    ap (λ (o : Option Stream). all_data_in (made_frames s (Send n count) o)) here.1.found ∙ omega (arith, fits, long)

pub data_is_spent : DataIsSpent
unfolding move_frames all_data_in
data_is_spent s GrantAll ok = refl
data_is_spent s (Grant n) ok = by_stream (stream_at s.streams n)
  where
    by_stream : (o : Option Stream) → all_data_in (made_frames s (Grant n) o) ≡ 0
    by_stream None = refl
    by_stream (Some st) = refl
data_is_spent s (Send n count) ok = sent_data s n count ok
data_is_spent s (End n) ok = by_stream (stream_at s.streams n)
  where
    by_stream : (o : Option Stream) → all_data_in (made_frames s (End n) o) ≡ 0
    by_stream None = refl
    by_stream (Some st) = end_no_data s n st.finish
data_is_spent s (Stop n) ok = by_stream (stream_at s.streams n)
  where
    by_stream : (o : Option Stream) → all_data_in (made_frames s (Stop n) o) ≡ 0
    by_stream None = refl
    by_stream (Some st) = refl
