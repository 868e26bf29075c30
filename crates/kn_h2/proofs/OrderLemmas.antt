-- Queued bytes go out in their order, and what is sent is what the windows lose.
use Rattle.std.proofs.Common.{◌≡◌, ℕ, ℤ, pos, ◌+◌, ◌-ℤ◌, Bool, true, false, not, cond, eqb, List, [], ◌∷◌, ◌++◌, length, take, Option, Some, None, refl, sym, ap, ◌∙◌, subst, arith, append_assoc}
use Rattle.std.proofs.lemmas.Int.{ints}
use Rattle.std.proofs.lemmas.Bool.{eqb-true, eqb-false}
use Rattle.std.proofs.lemmas.List.{take-append-drop}
use Rattle.kn_h2_state.specs.declared.moves.Move.{Move}
use Rattle.kn_h2_state.specs.declared.moves.Move.TheVariants.{GrantAll, Grant, Send, End, Stop}
use Rattle.kn_h2_state.specs.declared.stream.Stream.{Stream}
use Rattle.kn_h2_state.specs.declared.state.State.{State}
use Rattle.kn_h2_state.specs.Rules.{is_client}
use Rattle.kn_h2_state.specs.Streams.{stream_at, change, tidied}
use Rattle.kn_h2_state.specs.Moves.{may, is_owed, can_send, can_end, can_stop, made, after_move, granted, sent_some, own_ended, stopped, target, Makes}
use Rattle.kn_h2_state.specs.Calls.{queue_in, queue_of}
use Rattle.kn_h2_state.specs.Holding.{Holds, is_at_rest}
use Rattle.kn_h2_state.specs.Wire.{moved_text}
use Rattle.kn_h2.specs.Sending.{sent, spent_by, spent}
use Rattle.kn_h2.proofs.StreamLemmas.{all_change, rising_change}
use Rattle.kn_h2.proofs.FoundLemmas.{found_open}
use Rattle.kn_h2.proofs.PlaceLemmas.{at_changed, at_other, queue_changed, queue_tidied}
use Rattle.kn_h2.proofs.MoveLemmas.{move_parts, move_keeps, end_parts, ended_rest}

send_order : (s : State) (k count n : ℕ) (st : Stream) → stream_at s.streams k ≡ Some st → moved_text n s (Send k count) ++ queue_of (made s (Send k count) (Some st)) n ≡ queue_of s n
send_order s k count n st found = by_test (eqb k n) refl
  where
    by_test : (b : Bool) → eqb k n ≡ b → cond b (take count (queue_of s n)) [] ++ queue_in (stream_at (change s.streams k (sent_some count)) n) ≡ queue_of s n
    by_test true t =
        let is_n : k ≡ n = eqb-true _ _ t in
        let here : stream_at s.streams n ≡ Some st = subst (λ (j : ℕ). stream_at s.streams j ≡ Some st) is_n found in
        let after : stream_at (change s.streams k (sent_some count)) n ≡ Some (sent_some count st) = subst (λ (j : ℕ). stream_at (change s.streams j (sent_some count)) n ≡ Some (sent_some count st)) (sym is_n) (at_changed s.streams n (sent_some count) st (λ _. refl) here) in
        rw (here, after) (take-append-drop count st.queue)
    by_test false t = ap queue_in (at_other s.streams k n (sent_some count) (λ _. refl) (eqb-false _ _ t))

end_order : (s : State) (k n : ℕ) (server : Bool) (st : Stream) → Holds s → stream_at s.streams k ≡ Some st → can_end st ≡ true → queue_in (stream_at (tidied (change s.streams k (own_ended server))) n) ≡ queue_of s n
end_order s k n server st holds found can =
    let parts = end_parts st can in
    let f = own_ended server in
    queue_tidied (change s.streams k f) 0 s.opened n (rising_change 0 s.opened s.streams k f (λ _. refl) holds.rising)
    (all_change (λ x. is_at_rest x ≡ true) s.streams k f (λ x e _. let same : st ≡ x = cc in ended_rest server x (subst (λ (y : Stream). length y.queue ≡ 0) same parts.none)) holds.rest)
    ∙ queue_changed s.streams k n f (λ _. refl) (λ _. refl)

stop_order : (s : State) (k n : ℕ) → Holds s → queue_in (stream_at (tidied (change s.streams k stopped)) n) ≡ queue_of s n
stop_order s k n holds =
    queue_tidied (change s.streams k stopped) 0 s.opened n (rising_change 0 s.opened s.streams k stopped (λ _. refl) holds.rising)
    (all_change (λ x. is_at_rest x ≡ true) s.streams k stopped (λ _ _ r. r) holds.rest)
    ∙ queue_changed s.streams k n stopped (λ _. refl) (λ _. refl)

-- what a move sends, and then what waits, is what waited
pub move_order : (s : State) (m : Move) (n : ℕ) → Holds s → may s m ≡ true → moved_text n s m ++ queue_of (after_move s m) n ≡ queue_of s n
unfolding after_move
move_order s GrantAll n holds ok = refl
move_order s (Grant k) n holds ok =
    let here = found_open s.streams k is_owed (move_parts s (Grant k) ok).due in
    subst (λ (o : Option Stream). queue_of (made s (Grant k) o) n ≡ queue_of s n) (sym here.1.found) (queue_changed s.streams k n granted (λ _. refl) (λ _. refl))
move_order s (Send k count) n holds ok =
    let here = found_open s.streams k (can_send count s.send) (move_parts s (Send k count) ok).due in
    subst (λ (o : Option Stream). moved_text n s (Send k count) ++ queue_of (made s (Send k count) o) n ≡ queue_of s n) (sym here.1.found) (send_order s k count n here.0 here.1.found)
move_order s (End k) n holds ok =
    let here = found_open s.streams k can_end (move_parts s (End k) ok).due in
    subst (λ (o : Option Stream). queue_of (made s (End k) o) n ≡ queue_of s n) (sym here.1.found) (end_order s k n (not (is_client s.role)) here.0 holds here.1.found here.1.passed)
move_order s (Stop k) n holds ok =
    let here = found_open s.streams k can_stop (move_parts s (Stop k) ok).due in
    subst (λ (o : Option Stream). queue_of (made s (Stop k) o) n ≡ queue_of s n) (sym here.1.found) (stop_order s k n holds)

pub in_order : (old new : State) (ms : List Move) (n : ℕ) → Holds old → Makes old ms new → sent n old ms ++ queue_of new n ≡ queue_of old n
in_order old new [] n holds e = ap (λ (s : State). queue_of s n) e
in_order old new (m ∷ ms) n holds makes =
    let later = in_order (after_move old m) new ms n (move_keeps old m holds makes.0) makes.1 in
    append_assoc (moved_text n old m) (sent n (after_move old m) ms) (queue_of new n)
    ∙ ap (λ (xs : List ℕ). moved_text n old m ++ xs) later
    ∙ move_order old m n holds makes.0

-- ---- windows

none_spent : (z : ℤ) → z ≡ z -ℤ pos 0
none_spent z = omega (arith, ints)

made_spends : (s : State) (m : Move) (found : Option Stream) → found ≡ stream_at s.streams (target m) → may s m ≡ true → (made s m found).send ≡ s.send -ℤ pos (spent_by m)
made_spends s GrantAll found e ok = none_spent s.send
made_spends s (Grant n) None e ok = none_spent s.send
made_spends s (Grant n) (Some st) e ok = none_spent s.send
made_spends s (Send n count) None e ok =
    let here = found_open s.streams n (can_send count s.send) (move_parts s (Send n count) ok).due in
    let found = here.1.found in absurd cc
made_spends s (Send n count) (Some st) e ok = refl
made_spends s (End n) None e ok = none_spent s.send
made_spends s (End n) (Some st) e ok = none_spent s.send
made_spends s (Stop n) None e ok = none_spent s.send
made_spends s (Stop n) (Some st) e ok = none_spent s.send

pub spends : (old new : State) (ms : List Move) → Makes old ms new → new.send ≡ old.send -ℤ pos (spent ms)
unfolding after_move
spends old new [] e = ap (λ (s : State). s.send) e ∙ none_spent old.send
spends old new (m ∷ ms) makes =
    let later = spends (after_move old m) new ms makes.1 in
    let here = made_spends old m (stream_at old.streams (target m)) refl makes.0 in
    later ∙ both old.send (made old m (stream_at old.streams (target m))).send (spent_by m) (spent ms) here
  where
    both : (z y : ℤ) (a b : ℕ) → y ≡ z -ℤ pos a → y -ℤ pos b ≡ z -ℤ pos (a + b)
    both z y a b e = omega (arith, ints)
