-- The windows of one stream are sums over the life of its connection.
use Rattle.std.proofs.Common.{◌≡◌, ℕ, ℤ, pos, ◌<◌, ◌≤◌, ◌+◌, ◌+ℤ◌, ◌-ℤ◌, Bool, true, false, ◌||◌, cond, eqb, leb, ltb, List, [], ◌∷◌, ◌++◌, length, take, Option, Some, None, refl, sym, ap, ◌∙◌, subst, append-nil, length-append, arith}
use Rattle.std.specs.List.{AllByRecursion}
use Rattle.std.proofs.lemmas.Int.{ints}
use Rattle.std.proofs.lemmas.List.{length-take}
use Rattle.std.proofs.lemmas.Bool.{eqb-true, leb-true, leb-false, or_parts}
use Rattle.kn_frames.specs.declared.frame.Frame.{Frame}
use Rattle.kn_frames.specs.Frames.{IsWithinLimits}
use Rattle.kn_frames.specs.Readers.{Reading, frames_in}
use Rattle.kn_hpack.specs.Fields.{Field}
use Rattle.kn_hpack.specs.Strings.{IsBytes}
use Rattle.kn_hpack.specs.Encoding.{block_of}
use Rattle.kn_h2_state.specs.declared.role.Role.{Role}
use Rattle.kn_h2_state.specs.declared.moves.Move.{Move}
use Rattle.kn_h2_state.specs.declared.moves.Move.TheVariants.{GrantAll, Grant, Send, End, Stop}
use Rattle.kn_h2_state.specs.declared.stream.Stream.{Stream}
use Rattle.kn_h2_state.specs.declared.state.State.{State}
use Rattle.kn_h2_state.specs.Limits.{reply_limit, stream_window}
use Rattle.kn_h2_state.specs.Outgoing.{reply_bytes, put}
use Rattle.kn_h2_state.specs.Streams.{stream_at, is_open, passes, shut}
use Rattle.kn_h2_state.specs.Payloads.{reset_frame}
use Rattle.kn_h2_state.specs.Rules.{is_client}
use Rattle.kn_h2_state.specs.Effects.{fail, reply, on_stream, new_stream}
use Rattle.kn_h2_state.specs.Feeding.{after_frame, after_frames, after_piece}
use Rattle.kn_h2_state.specs.Moves.{headers_frames, may, made, target, after_move}
use Rattle.kn_h2_state.specs.Calls.{fresh, fresh_state, queue_in, queue_of, next_number, with_taken, with_queued, with_finish, after_take, after_begin, after_queue, after_finish, after_answer, after_reset, after_took}
use Rattle.kn_h2_state.specs.Holding.{Holds}
use Rattle.kn_h2_state.specs.Wire.{frame_grant, grants_in, wire_grants, data_length, data_lengths_in, wire_data, moved_text}
use Rattle.kn_h2_state.proofs.OpenLaws.{frames_open_above}
use Rattle.kn_h2_state.proofs.OtherLaws.{either, reply_streams}
use Rattle.kn_h2_state.proofs.WireLaws.{wire_splits}
use Rattle.kn_h2_state.proofs.BorneLemmas.{rises, at_change, at_push, Bears, borne_start, borne_frame}
use Rattle.kn_h2.specs.Written.{granted_by}
use Rattle.kn_h2.proofs.FrameBounds.{holds_after_frame}
use Rattle.kn_h2.proofs.FrameWindows.{frames_shift}
use Rattle.kn_h2.proofs.OwnWindows.{move_shifts}
use Rattle.kn_h2.proofs.BeginLemmas.{next_above}
use Rattle.kn_h2.specs.Finding.{owed_in}
use Rattle.kn_h2_courses.specs.Courses.{Act, Feeds, Tells, Takes, Begins, Answers, Queues, Finishes, Resets, Makes, Writes, MayDo, after, fed_by, sent_by, grants_to, Course, begins, after_acts, MayDoAll, first_reading}
use Rattle.kn_h2_courses.specs.StreamWindows.{HasStreamWindows, StreamWindowsAreSums}
use Rattle.kn_h2_courses.proofs.ByteLemmas.{frames_fit}
use Rattle.kn_h2_courses.proofs.LifeLemmas.{goes_on, going_before, piece_goes_on, going_act, IsCut, every_life}
use Rattle.kn_h2_courses.proofs.StreamSteps.{none_there, on_there, move_there, opened_move, reply_opened}
use Rattle.kn_h2_courses.proofs.FreshWindows.{idle_data, idle_grant, fresh_windows}

-- ---- of one stream, over values

-- by how much its windows were granted and taken: from here, by DATA that came, by increments that came, by what was sent
record Win (i : ℕ) (s r : ℤ) (a b c d : ℕ) : Type 0 where
  send : s ≡ (pos i +ℤ pos c) -ℤ pos d
  receive : r ≡ (pos stream_window +ℤ pos a) -ℤ pos b

-- nothing was
record Nil (a b c d : ℕ) : Type 0 where
  returned : a ≡ 0
  came : b ≡ 0
  grants : c ≡ 0
  sent : d ≡ 0

-- of a stream that is open
abbrev There : ℕ → ℕ → ℕ → ℕ → ℕ → Option Stream → Type 0
There initial returned came grants sent None = Unit {0}
There initial returned came grants sent (Some st) = is_open st ≡ true → Win initial st.send st.receive returned came grants sent

record Sums (n : ℕ) (s : State) (returned came grants sent : ℕ) : Type 0 where
  there : There s.initial returned came grants sent (stream_at s.streams n)
  idle : s.opened < n → Nil returned came grants sent

there_none : (i a b c d : ℕ) (st : Stream) → There i a b c d (Some st) → There i a b c d None
there_none i a b c d st h = tt

-- ---- a stream that is not open goes on not to be

abbrev IsOpen : Option Stream → Bool
IsOpen o = passes (λ x. true) o

abbrev NotOpen : Option Stream → Type 0
NotOpen None = Unit {0}
NotOpen (Some st) = is_open st ≡ false

own_closed : (st : Stream) → is_open st ≡ false → st.own_open ≡ false
own_closed st h = (or_parts st.peer_open st.own_open h).1

peer_closed : (st : Stream) → is_open st ≡ false → st.peer_open ≡ false
peer_closed st h = (or_parts st.peer_open st.own_open h).0

or_no : (b : Bool) → b ≡ false → (b || false) ≡ false
or_no true h = h
or_no false h = refl

bears_closed : (c : Bool) (n low : ℕ) → n ≤ low → Bears c (Unit {0}) NotOpen n low
bears_closed c n low le = record {
  gone = λ st e q. tt;
  texts = λ k text st q. q;
  ends = λ st q. own_closed st q;
  heads = λ e st q. q;
  shuts = λ p st q. refl;
  cuts = λ p st q. refl;
  grants = λ by st q. grant by (is_open st) st q;
  shifts = λ old new st q. shift old new (is_open st) st q;
  fresh = λ m t above same. absurd (omega (arith, above, same, le));
}
  where
    grant : (by : ℕ) (b : Bool) (st : Stream) → is_open st ≡ false → is_open (cond b (record st { send = st.send +ℤ pos by }) st) ≡ false
    grant by true st q = q
    grant by false st q = q

    shift : (old new : ℕ) (b : Bool) (st : Stream) → is_open st ≡ false → is_open (cond b (record st { send = st.send +ℤ (pos new -ℤ pos old) }) st) ≡ false
    shift old new true st q = q
    shift old new false st q = q

closed_frame : (s : State) (f : Frame) (n : ℕ) → Holds s → n ≤ s.opened → NotOpen (stream_at s.streams n) → NotOpen (stream_at (after_frame s f).streams n)
closed_frame s f n h le q =
    (borne_frame (bears_closed (is_client s.role) n s.opened le) s f refl (borne_start s (rises 0 s.opened s.streams h.rising) q)).there

closed_move : (s : State) (move : Move) (n : ℕ) → Holds s → NotOpen (stream_at s.streams n) → NotOpen (stream_at (after_move s move).streams n)
closed_move s move n h q =
    move_there NotOpen s move n h (λ st e x. tt) (λ st x. x) (λ count st x. x) (λ server st x. or_no st.peer_open (peer_closed st x)) (λ st x. own_closed st x) q

-- ---- a frame

idle_win : (initial returned came grants sent : ℕ) (send receive : ℤ) → Nil returned came grants sent → send ≡ pos initial → receive ≡ pos stream_window → Win initial send receive returned came grants sent
idle_win initial returned came grants sent send receive nil a b =
    let p = nil.returned in
    let q = nil.came in
    let r = nil.grants in
    let t = nil.sent in
    record { send = omega (arith, ints, a, r, t); receive = omega (arith, ints, b, p, q) }

frame_sums : (n : ℕ) (s : State) (f : Frame) (returned came grants sent : ℕ) → Holds s → Holds (after_frame s f) → (after_frame s f).failed ≡ None → Sums n s returned came grants sent
    → Sums n (after_frame s f) returned (came + data_length n f) (grants + frame_grant n f) sent
frame_sums n s f returned came grants sent h later e k = record { there = after_there (stream_at t.streams n) refl; idle = idle }
  where
    t : State
    t = after_frame s f

    le : s.opened ≤ t.opened
    le = (frames_open_above s f h).opened

    nil : s.opened < n → Nil returned (came + data_length n f) (grants + frame_grant n f) sent
    nil above =
        let was = k.idle above in
        let a = idle_data s f n (goes_on s f e).verdict above in
        let b = idle_grant s f n (goes_on s f e).verdict above in
        let x = was.came in
        let y = was.grants in
        record { returned = was.returned; came = omega (arith, x, a); grants = omega (arith, y, b); sent = was.sent }

    idle : t.opened < n → Nil returned (came + data_length n f) (grants + frame_grant n f) sent
    idle above = nil (omega (arith, le, above))

    moved : (old new : Stream) → stream_at s.streams n ≡ Some old → is_open old ≡ true → stream_at t.streams n ≡ Some new → Win t.initial new.send new.receive returned (came + data_length n f) (grants + frame_grant n f) sent
    moved old new was half is =
        let shift = frames_shift s f n old new h (goes_on s f e).before (goes_on s f e).verdict was half is in
        let win : Win s.initial old.send old.receive returned came grants sent = subst (λ (o : Option Stream). There s.initial returned came grants sent o) was k.there half in
        let a = shift.send in
        let b = shift.receive in
        let c = win.send in
        let d = win.receive in
        record { send = omega (arith, ints, a, c); receive = omega (arith, ints, b, d) }

    -- a stream that was opened before is open only if it was
    known : (new : Stream) → n ≤ s.opened → stream_at t.streams n ≡ Some new → is_open new ≡ true → (o : Option Stream) → stream_at s.streams n ≡ o → Win t.initial new.send new.receive returned (came + data_length n f) (grants + frame_grant n f) sent
    known new low is half None was =
        let closed : is_open new ≡ false = subst NotOpen is (closed_frame s f n h low (subst NotOpen (sym was) tt)) in
        absurd (let both : true ≡ false = sym half ∙ closed in cc)
    known new low is half (Some old) was = by_open (is_open old) refl
      where
        by_open : (b : Bool) → is_open old ≡ b → Win t.initial new.send new.receive returned (came + data_length n f) (grants + frame_grant n f) sent
        by_open true o = moved old new was o is
        by_open false o =
            let closed : is_open new ≡ false = subst NotOpen is (closed_frame s f n h low (subst NotOpen (sym was) o)) in
            absurd (let both : true ≡ false = sym half ∙ closed in cc)

    after_there : (o : Option Stream) → stream_at t.streams n ≡ o → There t.initial returned (came + data_length n f) (grants + frame_grant n f) sent o
    after_there None is = tt
    after_there (Some new) is = λ half. by_test (leb n s.opened) refl half
      where
        by_test : (b : Bool) → leb n s.opened ≡ b → is_open new ≡ true → Win t.initial new.send new.receive returned (came + data_length n f) (grants + frame_grant n f) sent
        by_test true q half = known new (leb-true n s.opened q) is half (stream_at s.streams n) refl
        by_test false q half =
            let above = leb-false n s.opened q in
            let begins = fresh_windows s f n new h later e above is in
            idle_win t.initial returned (came + data_length n f) (grants + frame_grant n f) sent new.send new.receive (nil above) begins.1 begins.0

frames_sums : (n : ℕ) (s : State) (fs : List Frame) (returned came grants sent : ℕ) → Holds s → AllByRecursion IsWithinLimits fs → (after_frames s fs).failed ≡ None → Sums n s returned came grants sent
    → Sums n (after_frames s fs) returned (came + data_lengths_in n fs) (grants + grants_in n fs) sent
unfolding after_frames data_lengths_in grants_in
frames_sums n s [] returned came grants sent h fits e k =
    let a : came ≡ came + 0 = omega arith in
    let b : grants ≡ grants + 0 = omega arith in
    subst (λ (x : ℕ). Sums n s returned x (grants + 0) sent) a (subst (λ (y : ℕ). Sums n s returned came y sent) b k)
frames_sums n s (f ∷ fs) returned came grants sent h fits e k =
    let t : State = after_frame s f in
    let next = holds_after_frame s f h fits.0 in
    let here = frame_sums n s f returned came grants sent h next (going_before t fs e) k in
    let later = frames_sums n t fs returned (came + data_length n f) (grants + frame_grant n f) sent next fits.1 e here in
    let a : (came + data_length n f) + data_lengths_in n fs ≡ came + (data_length n f + data_lengths_in n fs) = omega arith in
    let b : (grants + frame_grant n f) + grants_in n fs ≡ grants + (frame_grant n f + grants_in n fs) = omega arith in
    subst (λ (x : ℕ). Sums n (after_frames t fs) returned x (grants + (frame_grant n f + grants_in n fs)) sent) a
    (subst (λ (y : ℕ). Sums n (after_frames t fs) returned ((came + data_length n f) + data_lengths_in n fs) y sent) b later)

-- ---- a move

move_initial : (s : State) (move : Move) → (after_move s move).initial ≡ s.initial
unfolding after_move
move_initial s move = by_move move (stream_at s.streams (target move))
  where
    by_move : (k : Move) (x : Option Stream) → (made s k x).initial ≡ s.initial
    by_move GrantAll x = refl
    by_move (Grant k) None = refl
    by_move (Grant k) (Some st) = refl
    by_move (Send k count) None = refl
    by_move (Send k count) (Some st) = refl
    by_move (End k) None = refl
    by_move (End k) (Some st) = refl
    by_move (Stop k) None = refl
    by_move (Stop k) (Some st) = refl

-- nothing is granted or sent of a stream that is not there
nothing_granted : (n : ℕ) (s : State) (move : Move) → 0 < n → stream_at s.streams n ≡ None → granted_by n s move ≡ 0
nothing_granted n s GrantAll above none = by_test (eqb 0 n) refl
  where
    by_test : (b : Bool) → eqb 0 n ≡ b → cond b s.owed 0 ≡ 0
    by_test true t = let zero : 0 ≡ n = eqb-true 0 n t in absurd (omega (arith, above, zero))
    by_test false t = refl
nothing_granted n s (Grant k) above none = by_test (eqb k n) refl
  where
    by_test : (b : Bool) → eqb k n ≡ b → cond b (owed_in (stream_at s.streams k)) 0 ≡ 0
    by_test true t = ap (λ (j : ℕ). owed_in (stream_at s.streams j)) (eqb-true k n t) ∙ ap owed_in none
    by_test false t = refl
nothing_granted n s (Send k count) above none = refl
nothing_granted n s (End k) above none = refl
nothing_granted n s (Stop k) above none = refl

nothing_sent : (n : ℕ) (s : State) (move : Move) → stream_at s.streams n ≡ None → length (moved_text n s move) ≡ 0
nothing_sent n s GrantAll none = refl
nothing_sent n s (Grant k) none = refl
nothing_sent n s (Send k count) none = by_test (eqb k n)
  where
    empty : (j : ℕ) (xs : List ℕ) → xs ≡ [] → length (take j xs) ≡ 0
    empty j xs e = let a = length-take j xs in let b = ap length e in omega (arith, a, b)

    by_test : (b : Bool) → length (cond b (take count (queue_of s n)) []) ≡ 0
    by_test true = empty count (queue_of s n) (ap queue_in none)
    by_test false = refl
nothing_sent n s (End k) none = refl
nothing_sent n s (Stop k) none = refl

move_sums : (n : ℕ) (s : State) (move : Move) (returned came grants sent : ℕ) → Holds s → may s move ≡ true → Sums n s returned came grants sent
    → Sums n (after_move s move) (returned + granted_by n s move) came grants (sent + length (moved_text n s move))
move_sums n s move returned came grants sent h ok k = record { there = after_there (stream_at t.streams n) refl; idle = idle }
  where
    t : State
    t = after_move s move

    idle : t.opened < n → Nil (returned + granted_by n s move) came grants (sent + length (moved_text n s move))
    idle above =
        let same = opened_move s move in
        let low : s.opened < n = omega (arith, same, above) in
        let was = k.idle low in
        let none = none_there s n h low in
        let a = nothing_granted n s move (omega (arith, low)) none in
        let b = nothing_sent n s move none in
        let x = was.returned in
        let y = was.sent in
        record { returned = omega (arith, a, x); came = was.came; grants = was.grants; sent = omega (arith, b, y) }

    moved : (old new : Stream) → stream_at s.streams n ≡ Some old → is_open old ≡ true → stream_at t.streams n ≡ Some new
        → Win t.initial new.send new.receive (returned + granted_by n s move) came grants (sent + length (moved_text n s move))
    moved old new was half is =
        let shift = move_shifts s move n old new h ok was is in
        let win : Win s.initial old.send old.receive returned came grants sent = subst (λ (o : Option Stream). There s.initial returned came grants sent o) was k.there half in
        let a = shift.send in
        let b = shift.receive in
        let c = win.send in
        let d = win.receive in
        let i = move_initial s move in
        record { send = omega (arith, ints, a, c, i); receive = omega (arith, ints, b, d) }

    known : (new : Stream) → stream_at t.streams n ≡ Some new → is_open new ≡ true → (o : Option Stream) → stream_at s.streams n ≡ o
        → Win t.initial new.send new.receive (returned + granted_by n s move) came grants (sent + length (moved_text n s move))
    known new is half None was =
        let closed : is_open new ≡ false = subst NotOpen is (closed_move s move n h (subst NotOpen (sym was) tt)) in
        absurd (let both : true ≡ false = sym half ∙ closed in cc)
    known new is half (Some old) was = by_open (is_open old) refl
      where
        by_open : (b : Bool) → is_open old ≡ b → Win t.initial new.send new.receive (returned + granted_by n s move) came grants (sent + length (moved_text n s move))
        by_open true o = moved old new was o is
        by_open false o =
            let closed : is_open new ≡ false = subst NotOpen is (closed_move s move n h (subst NotOpen (sym was) o)) in
            absurd (let both : true ≡ false = sym half ∙ closed in cc)

    after_there : (o : Option Stream) → stream_at t.streams n ≡ o → There t.initial (returned + granted_by n s move) came grants (sent + length (moved_text n s move)) o
    after_there None is = tt
    after_there (Some new) is = λ half. known new is half (stream_at s.streams n) refl

-- ---- calls

-- the windows are as they were
kept_sums : (n : ℕ) (s t : State) (a b c d : ℕ) → t.initial ≡ s.initial → s.opened ≤ t.opened → There s.initial a b c d (stream_at t.streams n) → Sums n s a b c d → Sums n t a b c d
kept_sums n s t a b c d i le q k = record {
  there = subst (λ (j : ℕ). There j a b c d (stream_at t.streams n)) (sym i) q;
  idle = λ above. k.idle (omega (arith, le, above));
}

reply_initial : (frame : List ℕ) (s : State) → (reply frame s).initial ≡ s.initial
unfolding reply fail
reply_initial frame s = either (λ t. t.initial ≡ s.initial) (ltb reply_limit (reply_bytes s.out + length frame)) (fail 11 s) (record s { out = put s.out true frame }) refl refl

replied_sums : (n : ℕ) (frame : List ℕ) (s t : State) (a b c d : ℕ) → t.initial ≡ s.initial → t.opened ≡ s.opened → There s.initial a b c d (stream_at t.streams n) → Sums n s a b c d
    → Sums n (reply frame t) a b c d
replied_sums n frame s t a b c d i o q k =
    let up = reply_opened frame t in
    kept_sums n s (reply frame t) a b c d (reply_initial frame t ∙ i) (omega (arith, up, o))
    (subst (λ (ss : List Stream). There s.initial a b c d (stream_at ss n)) (sym (reply_streams frame t)) q) k

begun_sums : (n : ℕ) (s : State) (fields : List Field) (a b c d : ℕ) → Holds s → Sums n s a b c d → Sums n (after_begin fields s) a b c d
unfolding after_begin
begun_sums n s fields a b c d h k =
    let above : s.opened < next_number s = (next_above s.opened h.parity).0 in
    record {
      there = at_push (There s.initial a b c d) s.streams n (new_stream (next_number s) s)
          (λ same half. idle_win s.initial a b c d (pos s.initial) (pos stream_window) (k.idle (omega (arith, above, same))) refl refl) k.there;
      idle = λ higher. k.idle (omega (arith, above, higher));
    }

-- ---- an act

abbrev Has : ℕ → Role → State → List ℕ → ℕ → List ℕ → Type 0
Has n role s fed returned sent = Sums n s returned (wire_data n (first_reading role) fed) (wire_grants n (first_reading role) fed) (length sent)

-- nothing was fed, granted or sent
quiet : (n : ℕ) (role : Role) (c : Course) (t : State) → Sums n t c.returned (wire_data n (first_reading role) c.fed) (wire_grants n (first_reading role) c.fed) (length c.sent)
    → Has n role t (c.fed ++ []) (c.returned + 0) (c.sent ++ [])
quiet n role c t k =
    let fed : c.fed ≡ c.fed ++ [] = sym (append-nil c.fed) in
    let sent : c.sent ≡ c.sent ++ [] = sym (append-nil c.sent) in
    let returned : c.returned ≡ c.returned + 0 = omega arith in
    subst (λ (x : List ℕ). Has n role t x (c.returned + 0) (c.sent ++ [])) fed
    (subst (λ (x : ℕ). Has n role t c.fed x (c.sent ++ [])) returned (subst (λ (x : List ℕ). Has n role t c.fed c.returned x) sent k))

fed_sums : (n : ℕ) (role : Role) (c : Course) (piece : List ℕ) → IsBytes piece → IsCut role c → (after_piece c.connection piece).state.failed ≡ None → Has n role c.connection.state c.fed c.returned c.sent
    → Has n role (after_piece c.connection piece).state (c.fed ++ piece) (c.returned + 0) (c.sent ++ [])
fed_sums n role c piece bytes h e k =
    let on = piece_goes_on c.connection piece e in
    let r = first_reading role in
    let fs = frames_in c.connection.cutter piece in
    let s = c.connection.state in
    let cut = h.cut on.before in
    let going : (after_frames s fs).failed ≡ None = ap (λ (t : State). t.failed) (sym on.state) ∙ e in
    let all = frames_sums n s fs c.returned (wire_data n r c.fed) (wire_grants n r c.fed) (length c.sent) h.sound.holds (frames_fit c.connection.cutter piece h.sound.bytes bytes) going k in
    let came : wire_data n r c.fed + data_lengths_in n fs ≡ wire_data n r (c.fed ++ piece) =
    ap (λ (q : Reading). wire_data n r c.fed + wire_data n q piece) cut ∙ sym (wire_splits n r c.fed piece).taken in
    let grants : wire_grants n r c.fed + grants_in n fs ≡ wire_grants n r (c.fed ++ piece) =
    ap (λ (q : Reading). wire_grants n r c.fed + wire_grants n q piece) cut ∙ sym (wire_splits n r c.fed piece).grants in
    let sent : c.sent ≡ c.sent ++ [] = sym (append-nil c.sent) in
    let returned : c.returned ≡ c.returned + 0 = omega arith in
    let x = subst (λ (w : ℕ). Sums n (after_frames s fs) c.returned w (wire_grants n r c.fed + grants_in n fs) (length c.sent)) came all in
    let y = subst (λ (w : ℕ). Sums n (after_frames s fs) c.returned (wire_data n r (c.fed ++ piece)) w (length c.sent)) grants x in
    let z = subst (λ (w : ℕ). Has n role (after_frames s fs) (c.fed ++ piece) w c.sent) returned y in
    let w = subst (λ (l : List ℕ). Has n role (after_frames s fs) (c.fed ++ piece) (c.returned + 0) l) sent z in
    subst (λ (t : State). Has n role t (c.fed ++ piece) (c.returned + 0) (c.sent ++ [])) (sym on.state) w

made_sums : (n : ℕ) (role : Role) (c : Course) (move : Move) → Holds c.connection.state → may c.connection.state move ≡ true → Has n role c.connection.state c.fed c.returned c.sent
    → Has n role (after_move c.connection.state move) (c.fed ++ []) (c.returned + granted_by n c.connection.state move) (c.sent ++ moved_text n c.connection.state move)
made_sums n role c move h ok k =
    let s = c.connection.state in
    let r = first_reading role in
    let all = move_sums n s move c.returned (wire_data n r c.fed) (wire_grants n r c.fed) (length c.sent) h ok k in
    let fed : c.fed ≡ c.fed ++ [] = sym (append-nil c.fed) in
    let long : length c.sent + length (moved_text n s move) ≡ length (c.sent ++ moved_text n s move) = sym (length-append c.sent (moved_text n s move)) in
    subst (λ (x : List ℕ). Has n role (after_move s move) x (c.returned + granted_by n s move) (c.sent ++ moved_text n s move)) fed
    (subst (λ (x : ℕ). Sums n (after_move s move) (c.returned + granted_by n s move) (wire_data n r c.fed) (wire_grants n r c.fed) x) long all)

act_sums : (n : ℕ) (role : Role) (c : Course) (a : Act) → MayDo c.connection.state a → IsCut role c → (after c.connection a).state.failed ≡ None → Has n role c.connection.state c.fed c.returned c.sent
    → Has n role (after c.connection a).state (c.fed ++ fed_by a) (c.returned + grants_to n c.connection.state a) (c.sent ++ sent_by n c.connection.state a)
unfolding after_take after_queue after_finish after_answer after_reset after_took
act_sums n role c (Feeds piece) ok h e k = fed_sums n role c piece ok h e k
act_sums n role c (Tells count) ok h e k = quiet n role c _ (record { there = k.there; idle = k.idle })
act_sums n role c (Takes m count) ok h e k =
    let s = c.connection.state in
    quiet n role c _ (record { there = on_there (There s.initial _ _ _ _) s m n (with_taken count) h.sound.holds (λ x. refl) (λ st gone q. tt) (λ st q. q) k.there; idle = k.idle })
act_sums n role c (Begins fields) ok h e k = quiet n role c _ (begun_sums n c.connection.state fields _ _ _ _ h.sound.holds k)
act_sums n role c (Answers m fields) ok h e k =
    let s = c.connection.state in
    quiet n role c _ (replied_sums n (headers_frames m 0 (block_of s.encoder fields)) s _ _ _ _ _ refl refl
    (at_change (There s.initial _ _ _ _) s.streams m n (λ st. record st { answered = true }) (λ x. refl) (λ st q. q) k.there) k)
act_sums n role c (Queues m bytes) ok h e k =
    let s = c.connection.state in
    quiet n role c _ (record { there = at_change (There s.initial _ _ _ _) s.streams m n (with_queued bytes) (λ x. refl) (λ st q. q) k.there; idle = k.idle })
act_sums n role c (Finishes m trailers) ok h e k =
    let s = c.connection.state in
    quiet n role c _ (record { there = at_change (There s.initial _ _ _ _) s.streams m n (with_finish trailers) (λ x. refl) (λ st q. q) k.there; idle = k.idle })
act_sums n role c (Resets m code) ok h e k =
    let s = c.connection.state in
    quiet n role c _ (replied_sums n (reset_frame m code) s (on_stream m shut s) _ _ _ _ refl refl
    (on_there (There s.initial _ _ _ _) s m n shut h.sound.holds (λ x. refl) (λ st gone q. tt) (λ st q half. absurd cc) k.there) k)
act_sums n role c (Makes move) ok h e k = made_sums n role c move h.sound.holds ok k
act_sums n role c (Writes count) ok h e k = quiet n role c _ (record { there = k.there; idle = k.idle })

first_sums : (n : ℕ) (role : Role) → Has n role (begins role).connection.state [] 0 []
unfolding fresh fresh_state stream_at grants_in data_lengths_in
first_sums n role = record { there = tt; idle = λ above. record { returned = refl; came = refl; grants = refl; sent = refl } }

windows_of : (n : ℕ) (role : Role) (c : Course) → Has n role c.connection.state c.fed c.returned c.sent → (st : Stream) → stream_at c.connection.state.streams n ≡ Some st → is_open st ≡ true → HasStreamWindows n role c st
windows_of n role c k st there half =
    let win : Win c.connection.state.initial st.send st.receive c.returned (wire_data n (first_reading role) c.fed) (wire_grants n (first_reading role) c.fed) (length c.sent) =
    subst (There c.connection.state.initial _ _ _ _) there k.there half in
    record { send = win.send; receive = win.receive }

all_have : (n : ℕ) (role : Role) (acts : List Act) → MayDoAll n (begins role) acts → (after_acts n (begins role) acts).connection.state.failed ≡ None
    → Has n role (after_acts n (begins role) acts).connection.state (after_acts n (begins role) acts).fed (after_acts n (begins role) acts).returned (after_acts n (begins role) acts).sent
all_have = every_life (λ n role c. c.connection.state.failed ≡ None → Has n role c.connection.state c.fed c.returned c.sent) (λ n role. record {
  first = λ e. first_sums n role;
  step = λ c a ok h p e. act_sums n role c a ok h e (p (going_act c.connection a ok e));
})

pub stream_windows_are_sums : StreamWindowsAreSums
stream_windows_are_sums n role acts ok e st there half = windows_of n role (after_acts n (begins role) acts) (all_have n role acts ok e) st there half
