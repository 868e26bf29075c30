-- How moves change the windows of a stream.
use Rattle.std.proofs.Common.{◌≡◌, ℕ, ℤ, pos, ◌+◌, ◌+ℤ◌, ◌-ℤ◌, ◌≤◌, Bool, true, false, not, cond, eqb, List, [], ◌∷◌, ◌++◌, length, take, Option, Some, None, refl, sym, ap, ◌∙◌, subst, arith, length-append}
use Rattle.std.proofs.lemmas.Int.{ints}
use Rattle.std.proofs.lemmas.Bool.{eqb-true, eqb-false, ne_eqb}
use Rattle.std.proofs.lemmas.List.{length-take}
use Rattle.kn_h2_state.specs.declared.moves.Move.{Move}
use Rattle.kn_h2_state.specs.declared.moves.Move.TheVariants.{GrantAll, Grant, Send, End, Stop}
use Rattle.kn_h2_state.specs.declared.stream.Stream.{Stream}
use Rattle.kn_h2_state.specs.declared.state.State.{State}
use Rattle.kn_h2_state.specs.Rules.{is_client}
use Rattle.kn_h2_state.specs.Streams.{stream_at, change, is_kept, tidied}
use Rattle.kn_h2_state.specs.Moves.{is_owed, can_send, can_end, can_stop, made, after_move, granted, sent_some, own_ended, stopped, target, Makes}
use Rattle.kn_h2_state.specs.Calls.{queue_in, queue_of}
use Rattle.kn_h2_state.specs.Holding.{Rising, Holds}
use Rattle.kn_h2_state.specs.Wire.{moved_text}
use Rattle.kn_h2.specs.Finding.{owed_in}
use Rattle.kn_h2.specs.Sending.{sent}
use Rattle.kn_h2.specs.Written.{granted_by, granted_in}
use Rattle.kn_h2.specs.Windows.{Windows, MoveShifts, MovesShift, ConnectionRises}
use Rattle.kn_h2.proofs.StreamLemmas.{change_none, rising_change}
use Rattle.kn_h2.proofs.FoundLemmas.{found_open}
use Rattle.kn_h2.proofs.PlaceLemmas.{at_changed, at_other, none_tidied, none_below}
use Rattle.kn_h2.proofs.MoveLemmas.{move_parts, move_keeps, send_parts}

-- ---- numbers

none_sent : (z : ℤ) → z ≡ z -ℤ pos 0
none_sent z = omega (arith, ints)

none_granted : (z : ℤ) → z ≡ z +ℤ pos 0
none_granted z = omega (arith, ints)

unmoved : (st : Stream) → Windows st st [] 0
unmoved st = record { send = none_sent st.send; receive = none_granted st.receive }

then : (a b c : Stream) (xs ys : List ℕ) (g k : ℕ) → Windows a b xs g → Windows b c ys k → Windows a c (xs ++ ys) (g + k)
then a b c xs ys g k one two =
    let s1 = one.send in let s2 = two.send in let r1 = one.receive in let r2 = two.receive in let long = length-append xs ys in
    record { send = omega (arith, ints); receive = omega (arith, ints) }

-- ---- where a stream was

-- what is found after those with nothing left went was there before
pub there : (ss : List Stream) (low high n : ℕ) (st : Stream) → Rising low high ss → stream_at (tidied ss) n ≡ Some st → stream_at ss n ≡ Some st
unfolding stream_at Rising
there [] low high n st r e = absurd cc
there (x ∷ ss) low high n st r e = by_test (is_kept x) (eqb x.number n) refl (λ h. there ss x.number high n st r.2 h) e
  where
    by_test : (b c : Bool) → eqb x.number n ≡ c → (stream_at (tidied ss) n ≡ Some st → stream_at ss n ≡ Some st) → stream_at (cond b (x ∷ tidied ss) (tidied ss)) n ≡ Some st → cond c (Some x) (stream_at ss n) ≡ Some st
    by_test true true t rest h = rw t at h
    by_test false true t rest h =
        let is_n : x.number ≡ n = eqb-true _ _ t in
        let gone : stream_at (tidied ss) n ≡ None = none_tidied ss n (none_below ss x.number high n r.2 (omega arith)) in
        absurd cc
    by_test true false t rest h = rest (rw t at h)
    by_test false false t rest h = rest h

pub none_changed : (ss : List Stream) (k n : ℕ) (f : Stream → Stream) → ((x : Stream) → (f x).number ≡ x.number) → stream_at ss n ≡ None → stream_at (change ss k f) n ≡ None
none_changed ss k n f same e = by_test (eqb k n) refl
  where
    by_test : (b : Bool) → eqb k n ≡ b → stream_at (change ss k f) n ≡ None
    by_test true t = ap (λ l. stream_at l n) (change_none ss k f (ap (stream_at ss) (eqb-true k n t) ∙ e)) ∙ e
    by_test false t = at_other ss k n f same (eqb-false _ _ t) ∙ e

-- ---- one stream changes

changed : (ss : List Stream) (k n : ℕ) (f : Stream → Stream) (st new : Stream) (xs : List ℕ) (g : ℕ) → ((x : Stream) → (f x).number ≡ x.number) → stream_at ss n ≡ Some st → stream_at (change ss k f) n ≡ Some new
    → (eqb k n ≡ true → Windows st (f st) xs g) → (eqb k n ≡ false → Windows st st xs g) → Windows st new xs g
changed ss k n f st new xs g same e after own other = by_test (eqb k n) refl
  where
    by_test : (b : Bool) → eqb k n ≡ b → Windows st new xs g
    by_test true t =
        let is_n : k ≡ n = eqb-true _ _ t in
        let here : stream_at (change ss k f) n ≡ Some (f st) = subst (λ (j : ℕ). stream_at (change ss j f) n ≡ Some (f st)) (sym is_n) (at_changed ss n f st same e) in
        let is : f st ≡ new = cc in
        subst (λ (x : Stream). Windows st x xs g) is (own t)
    by_test false t =
        let here : stream_at (change ss k f) n ≡ stream_at ss n = at_other ss k n f same (eqb-false _ _ t) in
        let is : st ≡ new = cc in
        subst (λ (x : Stream). Windows st x xs g) is (other t)

grant_shifts : (s : State) (k n : ℕ) (st new : Stream) → stream_at s.streams n ≡ Some st → stream_at (change s.streams k granted) n ≡ Some new → Windows st new [] (granted_by n s (Grant k))
grant_shifts s k n st new e after = changed s.streams k n granted st new [] (granted_by n s (Grant k)) (λ _. refl) e after own other
  where
    own : eqb k n ≡ true → Windows st (granted st) [] (cond (eqb k n) (owed_in (stream_at s.streams k)) 0)
    own t =
        let owed : owed_in (stream_at s.streams k) ≡ st.owed = ap (λ j. owed_in (stream_at s.streams j)) (eqb-true k n t) ∙ ap owed_in e in
        subst (λ (b : Bool). Windows st (granted st) [] (cond b (owed_in (stream_at s.streams k)) 0)) (sym t)
        (subst (λ (g : ℕ). Windows st (granted st) [] g) (sym owed) (record { send = none_sent st.send; receive = refl }))

    other : eqb k n ≡ false → Windows st st [] (cond (eqb k n) (owed_in (stream_at s.streams k)) 0)
    other t = subst (λ (b : Bool). Windows st st [] (cond b (owed_in (stream_at s.streams k)) 0)) (sym t) (unmoved st)

send_shifts : (s : State) (k count n : ℕ) (sender st new : Stream) → stream_at s.streams k ≡ Some sender → count ≤ length sender.queue → stream_at s.streams n ≡ Some st → stream_at (change s.streams k (sent_some count)) n ≡ Some new
    → Windows st new (moved_text n s (Send k count)) 0
send_shifts s k count n sender st new found waits e after = changed s.streams k n (sent_some count) st new (moved_text n s (Send k count)) 0 (λ _. refl) e after own other
  where
    own : eqb k n ≡ true → Windows st (sent_some count st) (cond (eqb k n) (take count (queue_of s n)) []) 0
    own t =
        let is_n : k ≡ n = eqb-true k n t in
        let here : stream_at s.streams n ≡ Some sender = ap (stream_at s.streams) (sym is_n) ∙ found in
        let same : sender ≡ st = cc in
        let enough : count ≤ length st.queue = subst (λ (x : Stream). count ≤ length x.queue) same waits in
        let long : length (take count st.queue) ≡ count = omega (arith, length-take count st.queue) in
        subst (λ (b : Bool). Windows st (sent_some count st) (cond b (take count (queue_of s n)) []) 0) (sym t)
        (subst (λ (o : Option Stream). Windows st (sent_some count st) (take count (queue_in o)) 0) (sym e)
        (record { send = ap (λ (j : ℕ). st.send -ℤ pos j) (sym long); receive = none_granted st.receive }))

    other : eqb k n ≡ false → Windows st st (cond (eqb k n) (take count (queue_of s n)) []) 0
    other t = subst (λ (b : Bool). Windows st st (cond b (take count (queue_of s n)) []) 0) (sym t) (unmoved st)

end_shifts : (s : State) (k n : ℕ) (server : Bool) (st new : Stream) → Holds s → stream_at s.streams n ≡ Some st → stream_at (tidied (change s.streams k (own_ended server))) n ≡ Some new → Windows st new [] 0
end_shifts s k n server st new h e after =
    let f = own_ended server in
    changed s.streams k n f st new [] 0 (λ _. refl) e (there (change s.streams k f) 0 s.opened n new (rising_change 0 s.opened s.streams k f (λ _. refl) h.rising) after)
    (λ _. record { send = none_sent st.send; receive = none_granted st.receive }) (λ _. unmoved st)

stop_shifts : (s : State) (k n : ℕ) (st new : Stream) → Holds s → stream_at s.streams n ≡ Some st → stream_at (tidied (change s.streams k stopped)) n ≡ Some new → Windows st new [] 0
stop_shifts s k n st new h e after =
    changed s.streams k n stopped st new [] 0 (λ _. refl) e (there (change s.streams k stopped) 0 s.opened n new (rising_change 0 s.opened s.streams k stopped (λ _. refl) h.rising) after)
    (λ _. record { send = none_sent st.send; receive = none_granted st.receive }) (λ _. unmoved st)

-- ---- moves

-- stream 0 is none
pub above_0 : (s : State) (n : ℕ) (st : Stream) → Holds s → stream_at s.streams n ≡ Some st → eqb 0 n ≡ false
above_0 s n st h e = ne_eqb 0 n apart
  where
    apart : 0 ≡ n → ⊥
    apart z =
        let none : stream_at s.streams n ≡ None = ap (stream_at s.streams) (sym z) ∙ none_below s.streams 0 s.opened 0 h.rising (omega arith) in
        absurd cc

pub move_shifts : MoveShifts
unfolding after_move
move_shifts s GrantAll n st new h ok e after =
    let same : st ≡ new = cc in
    subst (λ (x : Stream). Windows st x [] (granted_by n s GrantAll)) same (subst (λ (b : Bool). Windows st st [] (cond b s.owed 0)) (sym (above_0 s n st h e)) (unmoved st))
move_shifts s (Grant k) n st new h ok e after =
    let here = found_open s.streams k is_owed (move_parts s (Grant k) ok).due in
    grant_shifts s k n st new e (subst (λ (o : Option Stream). stream_at (made s (Grant k) o).streams n ≡ Some new) here.1.found after)
move_shifts s (Send k count) n st new h ok e after =
    let here = found_open s.streams k (can_send count s.send) (move_parts s (Send k count) ok).due in
    send_shifts s k count n here.0 st new here.1.found (send_parts count s.send here.0 here.1.passed).queued e (subst (λ (o : Option Stream). stream_at (made s (Send k count) o).streams n ≡ Some new) here.1.found after)
move_shifts s (End k) n st new h ok e after =
    let here = found_open s.streams k can_end (move_parts s (End k) ok).due in
    end_shifts s k n (not (is_client s.role)) st new h e (subst (λ (o : Option Stream). stream_at (made s (End k) o).streams n ≡ Some new) here.1.found after)
move_shifts s (Stop k) n st new h ok e after =
    let here = found_open s.streams k can_stop (move_parts s (Stop k) ok).due in
    stop_shifts s k n st new h e (subst (λ (o : Option Stream). stream_at (made s (Stop k) o).streams n ≡ Some new) here.1.found after)

-- no move begins a stream
made_none : (s : State) (m : Move) (o : Option Stream) (n : ℕ) → stream_at s.streams n ≡ None → stream_at (made s m o).streams n ≡ None
made_none s GrantAll o n e = e
made_none s (Grant k) None n e = e
made_none s (Grant k) (Some st) n e = none_changed s.streams k n granted (λ _. refl) e
made_none s (Send k count) None n e = e
made_none s (Send k count) (Some st) n e = none_changed s.streams k n (sent_some count) (λ _. refl) e
made_none s (End k) None n e = e
made_none s (End k) (Some st) n e =
    let f = own_ended (not (is_client s.role)) in
    none_tidied (change s.streams k f) n (none_changed s.streams k n f (λ _. refl) e)
made_none s (Stop k) None n e = e
made_none s (Stop k) (Some st) n e = none_tidied (change s.streams k stopped) n (none_changed s.streams k n stopped (λ _. refl) e)

none_comes : (old new : State) (ms : List Move) (n : ℕ) → Makes old ms new → stream_at old.streams n ≡ None → stream_at new.streams n ≡ None
unfolding after_move
none_comes old new [] n makes e = ap (λ (s : State). stream_at s.streams n) makes ∙ e
none_comes old new (m ∷ ms) n makes e = none_comes (after_move old m) new ms n makes.1 (made_none old m (stream_at old.streams (target m)) n e)

pub moves_shift : MovesShift
moves_shift old new [] n st last h makes e after =
    let end : stream_at old.streams n ≡ Some last = ap (λ (s : State). stream_at s.streams n) (sym makes) ∙ after in
    let same : st ≡ last = cc in
    subst (λ (x : Stream). Windows st x [] 0) same (unmoved st)
moves_shift old new (m ∷ ms) n st last h makes e after =
    by_mid (stream_at (after_move old m).streams n) refl (λ mid found. moves_shift (after_move old m) new ms n mid last (move_keeps old m h makes.0) makes.1 found after)
  where
    by_mid : (o : Option Stream) → stream_at (after_move old m).streams n ≡ o
        → ((mid : Stream) → stream_at (after_move old m).streams n ≡ Some mid → Windows mid last (sent n (after_move old m) ms) (granted_in n (after_move old m) ms))
        → Windows st last (sent n old (m ∷ ms)) (granted_in n old (m ∷ ms))
    by_mid None gone rest = let none = none_comes (after_move old m) new ms n makes.1 gone in absurd cc
    by_mid (Some mid) found rest =
        then st mid last (moved_text n old m) (sent n (after_move old m) ms) (granted_by n old m) (granted_in n (after_move old m) ms)
        (move_shifts old m n st mid h makes.0 e found) (rest mid found)

-- ---- the connection

no_stream_0 : (s : State) (k : ℕ) → Holds s → granted_by 0 s (Grant k) ≡ 0
no_stream_0 s k h = by_test (eqb k 0) refl
  where
    by_test : (b : Bool) → eqb k 0 ≡ b → cond b (owed_in (stream_at s.streams k)) 0 ≡ 0
    by_test true t = ap (λ j. owed_in (stream_at s.streams j)) (eqb-true k 0 t) ∙ ap owed_in (none_below s.streams 0 s.opened 0 h.rising (omega arith))
    by_test false t = refl

made_rises : (s : State) (m : Move) (o : Option Stream) → Holds s → (made s m o).receive ≡ s.receive +ℤ pos (granted_by 0 s m)
made_rises s GrantAll o h = refl
made_rises s (Grant k) None h = none_granted s.receive ∙ ap (λ (j : ℕ). s.receive +ℤ pos j) (sym (no_stream_0 s k h))
made_rises s (Grant k) (Some st) h = none_granted s.receive ∙ ap (λ (j : ℕ). s.receive +ℤ pos j) (sym (no_stream_0 s k h))
made_rises s (Send k count) None h = none_granted s.receive
made_rises s (Send k count) (Some st) h = none_granted s.receive
made_rises s (End k) None h = none_granted s.receive
made_rises s (End k) (Some st) h = none_granted s.receive
made_rises s (Stop k) None h = none_granted s.receive
made_rises s (Stop k) (Some st) h = none_granted s.receive

pub connection_rises : ConnectionRises
unfolding after_move
connection_rises old new [] h makes = ap (λ (s : State). s.receive) makes ∙ none_granted old.receive
connection_rises old new (m ∷ ms) h makes =
    let next = after_move old m in
    let here = made_rises old m (stream_at old.streams (target m)) h in
    let later = connection_rises next new ms (move_keeps old m h makes.0) makes.1 in
    later ∙ both old.receive next.receive (granted_by 0 old m) (granted_in 0 next ms) here
  where
    both : (z y : ℤ) (a b : ℕ) → y ≡ z +ℤ pos a → y +ℤ pos b ≡ z +ℤ pos (a + b)
    both z y a b e = omega (arith, ints)
