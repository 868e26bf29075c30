-- The two windows of a stream, through what an end does of its own.
use Rattle.std.proofs.Common.{◌≡◌, ◌≢◌, ◌⊎◌, inl, inr, ◌<◌, ◌+◌, ℤ, pos, ◌+ℤ◌, ◌-ℤ◌, ℕ, zero, suc, Bool, true, false, nat_lt, List, [], ◌∷◌, ◌++◌, length, take, Option, Some, None, IfSome, refl, sym, ap, ◌∙◌, subst, arith, if◌then◌else◌}
use Rattle.std.specs.Prelude.{◌==◌}
use Rattle.std.proofs.lemmas.Int.{ints}
use Rattle.std.proofs.lemmas.Bool.{eqb-true, ne_eqb}
use Rattle.kn_hpack.specs.Fields.{Field}
use Rattle.kn_hpack.specs.Encoding.{block_of}
use Rattle.kn_h2_state.specs.declared.moves.Move.{Move}
use Rattle.kn_h2_state.specs.declared.moves.Move.TheVariants.{GrantAll, Grant, Send, End, Stop}
use Rattle.kn_h2_state.specs.declared.stream.Stream.{Stream}
use Rattle.kn_h2_state.specs.declared.state.State.{State}
use Rattle.kn_h2_state.specs.Limits.{stream_window, default_window, reply_limit}
use Rattle.kn_h2_state.specs.Outgoing.{put, reply_bytes}
use Rattle.kn_h2_state.specs.Streams.{stream_at, change, is_open}
use Rattle.kn_h2_state.specs.Effects.{reply, fail, new_stream}
use Rattle.kn_h2_state.specs.Moves.{may, made, target, after_move, headers_frames}
use Rattle.kn_h2_state.specs.Calls.{queue_in, queue_of, with_taken, with_queued, with_finish, next_number, after_take, after_begin, after_queue, after_finish, after_answer, after_took}
use Rattle.kn_h2_state.specs.Holding.{Holds}
use Rattle.kn_h2_state.specs.Preorder.{IsOpenIn, IsNewTo, OwnFacts, OwnStepsAreHeard}
use Rattle.kn_h2_state.specs.Wire.{moved_text}
use Rattle.kn_h2.specs.Finding.{owed_in}
use Rattle.kn_h2.specs.Sending.{MoveKeeps}
use Rattle.kn_h2.specs.Windows.{MoveShifts}
use Rattle.kn_h2.specs.Written.{granted_by}
use Rattle.kn_h2_state.proofs.OtherLaws.{either, reply_streams}
use Rattle.kn_h2_state.proofs.BorneLemmas.{rises, climbing, rises_change, none_above, at_change, at_tidied, at_push}
use Rattle.kn_facing.specs.Sums.{MayCome, MayGo, LeavesWindows, MovesShiftBoth, CallsLeaveBoth}
use Rattle.kn_facing.proofs.FollowedLemmas.{is_known}

-- ---- moves

pub move_opened : (s : State) (m : Move) → (after_move s m).opened ≡ s.opened
unfolding after_move
move_opened s m = by_found m (stream_at s.streams (target m))
  where
    by_found : (m : Move) (o : Option Stream) → (made s m o).opened ≡ s.opened
    by_found GrantAll o = refl
    by_found (Grant n) None = refl
    by_found (Grant n) (Some st) = refl
    by_found (Send n count) None = refl
    by_found (Send n count) (Some st) = refl
    by_found (End n) None = refl
    by_found (End n) (Some st) = refl
    by_found (Stop n) None = refl
    by_found (Stop n) (Some st) = refl

-- a stream that is open after a move was so before
pub was_open : OwnStepsAreHeard → MoveKeeps → (s : State) (m : Move) (n : ℕ) (b : Stream) → Holds s → OwnFacts s → may s m ≡ true → stream_at (after_move s m).streams n ≡ Some b → is_open b ≡ true
    → (a : Stream) × (stream_at s.streams n ≡ Some a) × (is_open a ≡ true)
was_open heard keeps s m n b holds own allowed found up = by_case (((heard s holds own.known).move m own.ended allowed).streams n b found up)
  where
    by_case : IsOpenIn s n b ⊎ IsNewTo s (after_move s m) n b → (a : Stream) × (stream_at s.streams n ≡ Some a) × (is_open a ≡ true)
    by_case (inl (a, at, open_a, much)) = (a, at, open_a)
    by_case (inr (client, above, low)) =
        let same = move_opened s m in
        absurd (is_known (after_move s m).opened n (after_move s m).streams b (keeps s m holds allowed).rising found (omega (arith, same, above)))

abbrev nothing : List ℕ
nothing = []

take_none : (count : ℕ) (xs : List ℕ) → xs ≡ [] → length (take count xs) ≡ 0
take_none count xs e = ap (λ (l : List ℕ). length (take count l)) e ∙ by_count count
  where
    by_count : (k : ℕ) → length (take k nothing) ≡ 0
    by_count zero = refl
    by_count (suc k) = refl

-- nothing is sent or granted of a stream that is not begun
nothing_sent : (s : State) (m : Move) (n : ℕ) → stream_at s.streams n ≡ None → length (moved_text n s m) ≡ 0
nothing_sent s GrantAll n none = refl
nothing_sent s (Grant k) n none = refl
nothing_sent s (Send k count) n none = by_test (k == n)
  where
    by_test : (b : Bool) → length (if b then take count (queue_of s n) else []) ≡ 0
    by_test true = take_none count (queue_of s n) (ap queue_in none)
    by_test false = refl
nothing_sent s (End k) n none = refl
nothing_sent s (Stop k) n none = refl

nothing_granted : (s : State) (m : Move) (n : ℕ) → n ≢ 0 → stream_at s.streams n ≡ None → granted_by n s m ≡ 0
nothing_granted s GrantAll n some none = ap (λ (b : Bool). if b then s.owed else 0) (ne_eqb 0 n (λ e. some (sym e)))
nothing_granted s (Grant k) n some none = by_test (k == n) refl
  where
    by_test : (b : Bool) → (k == n) ≡ b → (if b then owed_in (stream_at s.streams k) else 0) ≡ 0
    by_test true e = ap (λ (j : ℕ). owed_in (stream_at s.streams j)) (eqb-true k n e) ∙ ap owed_in none
    by_test false e = refl
nothing_granted s (Send k count) n some none = refl
nothing_granted s (End k) n some none = refl
nothing_granted s (Stop k) n some none = refl

more : (x a b : ℤ) (k : ℕ) → x ≡ b → b ≡ (a -ℤ pos k) → (x +ℤ pos k) ≡ a
more x a b k e g = omega (arith, ints, e, g)

less : (y a b : ℤ) (k : ℕ) → y ≡ b → b ≡ (a +ℤ pos k) → (y -ℤ pos k) ≡ a
less y a b k e g = omega (arith, ints, e, g)

none_more : (x z : ℤ) (k : ℕ) → k ≡ 0 → x ≡ z → (x +ℤ pos k) ≡ z
none_more x z k e g = omega (arith, ints, e, g)

none_less : (x z : ℤ) (k : ℕ) → k ≡ 0 → x ≡ z → (x -ℤ pos k) ≡ z
none_less x z k e g = omega (arith, ints, e, g)

pub moves_shift_both : OwnStepsAreHeard → MoveKeeps → MoveShifts → MovesShiftBoth
moves_shift_both heard keeps shift s m n holds own allowed some = record { goes = goes; comes = comes }
  where
    young : s.opened < n → stream_at s.streams n ≡ None
    young above = none_above 0 s.opened n s.streams (rises 0 s.opened s.streams holds.rising) above

    goes : (x : ℤ) → MayGo (after_move s m) n x → MayGo s n (x +ℤ pos (length (moved_text n s m)))
    goes x (inl (b, found, up, is)) =
        let was = was_open heard keeps s m n b holds own allowed found up in
        inl (was.0, was.1, was.2, more x was.0.send b.send (length (moved_text n s m)) is (shift s m n was.0 b holds allowed was.1 found).send)
    goes x (inr (above, is)) =
        let below : s.opened < n = subst (λ (k : ℕ). k < n) (move_opened s m) above in
        inr (below, none_more x (pos default_window) (length (moved_text n s m)) (nothing_sent s m n (young below)) is)

    comes : (y : ℤ) → MayCome (after_move s m) n y → MayCome s n (y -ℤ pos (granted_by n s m))
    comes y (inl (b, found, up, is)) =
        let was = was_open heard keeps s m n b holds own allowed found up in
        inl (was.0, was.1, was.2, less y was.0.receive b.receive (granted_by n s m) is (shift s m n was.0 b holds allowed was.1 found).receive)
    comes y (inr (above, is)) =
        let below : s.opened < n = subst (λ (k : ℕ). k < n) (move_opened s m) above in
        inr (below, none_less y (pos stream_window) (granted_by n s m) (nothing_granted s m n some (young below)) is)

-- ---- calls

-- an open stream has the windows that it had before
abbrev Was : State → ℕ → Option Stream → Type 0
Was s n o = IfSome o (λ st. is_open st ≡ true → (a : Stream) × (stream_at s.streams n ≡ Some a) × (is_open a ≡ true) × (st.receive ≡ a.receive) × (st.send ≡ a.send))

itself : (s : State) (n : ℕ) (o : Option Stream) → stream_at s.streams n ≡ o → Was s n o
itself s n None e = tt
itself s n (Some st) e = λ up. (st, e, up, refl, refl)

leaves : (s t : State) (n : ℕ) → t.opened ≡ s.opened → Was s n (stream_at t.streams n) → LeavesWindows s t n
leaves s t n same was = record { goes = goes; comes = comes }
  where
    goes : (x : ℤ) → MayGo t n x → MayGo s n x
    goes x (inl (b, found, up, is)) = let w = subst (λ (o : Option Stream). Was s n o) found was up in inl (w.0, w.1, w.2, is ∙ w.4)
    goes x (inr (above, is)) = inr (subst (λ (k : ℕ). k < n) same above, is)

    comes : (y : ℤ) → MayCome t n y → MayCome s n y
    comes y (inl (b, found, up, is)) = let w = subst (λ (o : Option Stream). Was s n o) found was up in inl (w.0, w.1, w.2, is ∙ w.3)
    comes y (inr (above, is)) = inr (subst (λ (k : ℕ). k < n) same above, is)

changed : (s : State) (m n : ℕ) (f : Stream → Stream) → ((st : Stream) → (f st).number ≡ st.number) → ((st : Stream) → Was s n (Some st) → Was s n (Some (f st))) → Was s n (stream_at (change s.streams m f) n)
changed s m n f number step = at_change (Was s n) s.streams m n f number step (itself s n (stream_at s.streams n) refl)

take_leaves : (s : State) (m n count : ℕ) → Holds s → LeavesWindows s (after_take m count s) n
unfolding after_take
take_leaves s m n count holds =
    leaves s (after_take m count s) n refl
    (at_tidied (Was s n) 0 n (change s.streams m (with_taken count)) (λ st k h. tt)
    (climbing 0 s.opened (change s.streams m (with_taken count)) (rises_change 0 s.opened s.streams m (with_taken count) (λ st. refl) (rises 0 s.opened s.streams holds.rising)))
    (changed s m n (with_taken count) (λ st. refl) (λ st q. q)))

queue_leaves : (s : State) (m n : ℕ) (bytes : List ℕ) → LeavesWindows s (after_queue m bytes s) n
unfolding after_queue
queue_leaves s m n bytes = leaves s (after_queue m bytes s) n refl (changed s m n (with_queued bytes) (λ st. refl) (λ st q. q))

finish_leaves : (s : State) (m n : ℕ) (trailers : List Field) → LeavesWindows s (after_finish m trailers s) n
unfolding after_finish
finish_leaves s m n trailers = leaves s (after_finish m trailers s) n refl (changed s m n (with_finish trailers) (λ st. refl) (λ st q. q))

took_leaves : (s : State) (n count : ℕ) → LeavesWindows s (after_took count s) n
unfolding after_took
took_leaves s n count = leaves s (after_took count s) n refl (itself s n (stream_at s.streams n) refl)

pub reply_opened : (bytes : List ℕ) (s : State) → (reply bytes s).opened ≡ s.opened
unfolding reply fail
reply_opened bytes s = either (λ t. t.opened ≡ s.opened) (nat_lt reply_limit (reply_bytes s.out + length bytes)) (fail 11 s) (record s { out = put s.out true bytes }) refl refl

answer_leaves : (s : State) (m n : ℕ) (fields : List Field) → LeavesWindows s (after_answer m fields s) n
unfolding after_answer
answer_leaves s m n fields =
    leaves s (reply (headers_frames m 0 (block_of s.encoder fields)) answered) n (reply_opened (headers_frames m 0 (block_of s.encoder fields)) answered)
    (subst (λ (ss : List Stream). Was s n (stream_at ss n)) (sym (reply_streams (headers_frames m 0 (block_of s.encoder fields)) answered))
    (changed s m n (λ st. record st { answered = true }) (λ st. refl) (λ st q. q)))
  where
    answered : State
    answered = record s { streams = change s.streams m (λ st. record st { answered = true }); encoder = true }

pub next_above : (s : State) → s.opened < next_number s
next_above s = by_test (s.opened == 0) refl
  where
    by_test : (b : Bool) → (s.opened == 0) ≡ b → s.opened < (if b then 1 else s.opened + 2)
    by_test true e = let none : s.opened ≡ 0 = eqb-true s.opened 0 e in omega (arith, none)
    by_test false e = omega arith

-- what was there has its windows, and what is new has them whole
abbrev WasOrYoung : State → ℕ → Option Stream → Type 0
WasOrYoung s n o = IfSome o (λ st. is_open st ≡ true
    → ((a : Stream) × (stream_at s.streams n ≡ Some a) × (is_open a ≡ true) × (st.receive ≡ a.receive) × (st.send ≡ a.send)) ⊎ ((s.opened < n) × (st.receive ≡ pos stream_window) × (st.send ≡ pos s.initial)))

itself_or : (s : State) (n : ℕ) (o : Option Stream) → stream_at s.streams n ≡ o → WasOrYoung s n o
itself_or s n None e = tt
itself_or s n (Some st) e = λ up. inl (st, e, up, refl, refl)

begin_leaves : (s : State) (n : ℕ) (fields : List Field) → s.initial ≡ default_window → LeavesWindows s (after_begin fields s) n
unfolding after_begin
begin_leaves s n fields first = record { goes = goes; comes = comes }
  where
    both : WasOrYoung s n (stream_at (s.streams ++ new_stream (next_number s) s ∷ []) n)
    both =
        at_push (WasOrYoung s n) s.streams n (new_stream (next_number s) s)
        (λ e up. inr (subst (λ (k : ℕ). s.opened < k) e (next_above s), refl, refl)) (itself_or s n (stream_at s.streams n) refl)

    raised : next_number s < n → s.opened < n
    raised above = let up = next_above s in omega (arith, up, above)

    goes : (x : ℤ) → MayGo (after_begin fields s) n x → MayGo s n x
    goes x (inl (b, found, up, is)) = by_case (subst (λ (o : Option Stream). WasOrYoung s n o) found both up)
      where
        by_case : ((a : Stream) × (stream_at s.streams n ≡ Some a) × (is_open a ≡ true) × (b.receive ≡ a.receive) × (b.send ≡ a.send)) ⊎ ((s.opened < n) × (b.receive ≡ pos stream_window) × (b.send ≡ pos s.initial))
            → MayGo s n x
        by_case (inl (a, at, open_a, receive, send)) = inl (a, at, open_a, is ∙ send)
        by_case (inr (above, receive, send)) = inr (above, is ∙ (send ∙ ap (λ (i : ℕ). pos i) first))
    goes x (inr (above, is)) = inr (raised above, is)

    comes : (y : ℤ) → MayCome (after_begin fields s) n y → MayCome s n y
    comes y (inl (b, found, up, is)) = by_case (subst (λ (o : Option Stream). WasOrYoung s n o) found both up)
      where
        by_case : ((a : Stream) × (stream_at s.streams n ≡ Some a) × (is_open a ≡ true) × (b.receive ≡ a.receive) × (b.send ≡ a.send)) ⊎ ((s.opened < n) × (b.receive ≡ pos stream_window) × (b.send ≡ pos s.initial))
            → MayCome s n y
        by_case (inl (a, at, open_a, receive, send)) = inl (a, at, open_a, is ∙ receive)
        by_case (inr (above, receive, send)) = inr (above, is ∙ receive)
    comes y (inr (above, is)) = inr (raised above, is)

pub calls_leave_both : CallsLeaveBoth
calls_leave_both s m n holds = record {
  take = λ count. take_leaves s m n count holds;
  queue = λ bytes. queue_leaves s m n bytes;
  finish = λ trailers. finish_leaves s m n trailers;
  answer = λ fields. answer_leaves s m n fields;
  took = λ count. took_leaves s n count;
  begin = λ fields first. begin_leaves s n fields first;
}
