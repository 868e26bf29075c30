-- Grants and text that one end writes, the other takes.
use Rattle.std.proofs.Common.{◌≡◌, inl, ◌<◌, ◌≤◌, ◌+◌, ◌*◌, ℤ, pos, ◌+ℤ◌, ◌-ℤ◌, ◌≤ℤ◌, ◌&&◌, ◌||◌, ℕ, Bool, true, false, not, eqb, nat_le, length, take, length-take, List, [], ◌∷◌, Option, Some, None, refl, sym, ap, ◌∙◌, subst, arith, if◌then◌else◌}
use Rattle.std.specs.Prelude.{◌==◌}
use Rattle.std.specs.Int.{to_be_bytes, w32}
use Rattle.std.proofs.lemmas.Int.{ints}
use Rattle.std.proofs.lemmas.Bool.{leb-true, ne_eqb, and_parts}
use Rattle.kn_frames.specs.declared.frame.Frame.{Frame}
use Rattle.kn_frames.specs.Frames.{spelled}
use Rattle.kn_windows.specs.Windows.{can_spend, can_grow}
use Rattle.kn_h2_state.specs.declared.event.H2Event.TheVariants.{Text}
use Rattle.kn_h2_state.specs.declared.moves.Move.{Move}
use Rattle.kn_h2_state.specs.declared.moves.Move.TheVariants.{GrantAll, Grant, Send, End, Stop}
use Rattle.kn_h2_state.specs.declared.stream.Stream.{Stream}
use Rattle.kn_h2_state.specs.declared.state.State.{State}
use Rattle.kn_h2_state.specs.Limits.{reply_limit, stream_window, connection_window, grant_size}
use Rattle.kn_h2_state.specs.Outgoing.{reply_bytes}
use Rattle.kn_h2_state.specs.Payloads.{content, increment_of, grant_frame}
use Rattle.kn_h2_state.specs.Streams.{stream_at, change, is_open, on_open}
use Rattle.kn_h2_state.specs.Rules.{is_client}
use Rattle.kn_h2_state.specs.Effects.{event, with_text, data_taken, data_in, data_dropped, data_of, with_grant, window_update, effect}
use Rattle.kn_h2_state.specs.Feeding.{judged, after_frame, after_frames}
use Rattle.kn_h2_state.specs.Holding.{Holds, HasSum, HasRoom, text_bytes}
use Rattle.kn_h2_state.specs.Moves.{may, is_owed, can_send, made, after_move, granted, sent_some}
use Rattle.kn_h2_state.specs.Wire.{frame, grants_in, data_lengths_in, made_frames, move_frames}
use Rattle.kn_h2_state.proofs.BorneLemmas.{at_change, grant_number}
use Rattle.kn_h2_state.proofs.PieceLaws.{after_frame-judged}
use Rattle.kn_h2.proofs.FoundLemmas.{IsFound, found_open}
use Rattle.kn_h2.proofs.MoveLemmas.{move_parts, send_parts, IsSendable}
use Rattle.kn_h2.proofs.HoldsLemmas.{replies_same}
use Rattle.kn_h2.proofs.OwnWindows.{above_0}
use Rattle.kn_h2.proofs.StreamLemmas.{all_at}
use Rattle.kn_facing.specs.Facing.{emptied, IsFollowed, Awaits, IsTaken, AreTaken, asking}
use Rattle.kn_facing.specs.Sums.{MayCome, MayGo}
use Rattle.kn_facing.specs.Faces.{all_lengths, IsEnd, Faces, IsCarrying, MovesKeepFaces}
use Rattle.kn_facing.specs.Taken.{IsListening}
use Rattle.kn_facing.proofs.AheadLemmas.{Ahead, ahead_of, Upper, upper_itself, Below, Above, followed_both, awaits_both, no_open, may_spend, may_grow, is_not_idle}
use Rattle.kn_facing.proofs.CarryLemmas.{holds_emptied, none_waits}
use Rattle.kn_facing.proofs.FaceLemmas.{Known, Runs, runs}
use Rattle.kn_facing.proofs.ListSums.{asking-append}
use Rattle.kn_facing.proofs.MoveStep.{Moving, MoveTaken, move_step}
use Rattle.kn_facing.proofs.OwnSumLemmas.{move_opened}
use Rattle.kn_facing.proofs.StepLemmas.{itself, changed, steps_keep_faces, awaits_back}
use Rattle.kn_facing.proofs.TakenLemmas.{data_is_taken, grant_is_taken, stream_grant_is_taken}

-- ---- what the end that writes knows of the other, as it will be

pub record Knows (s u : State) : Type 0 where
  pub own : IsEnd s
  pub holds : Holds u
  pub goes : u.failed ≡ None
  pub other : is_client u.role ≡ not (is_client s.role)
  pub followed : IsFollowed s u
  pub awaits : Awaits s u
  -- what it may send is not more than this end takes, and the other way round
  pub grants : u.send ≤ℤ s.receive
  pub texts : s.send ≤ℤ u.receive
  pub grant : (n : ℕ) (x y : ℤ) → MayGo u n x → MayCome s n y → x ≤ℤ y
  pub text : (n : ℕ) (x y : ℤ) → MayGo s n x → MayCome u n y → x ≤ℤ y

low_sum : (x z y : ℤ) (d g : ℕ) → (x +ℤ pos (d + g)) ≡ y → z ≡ (x +ℤ pos g) → z ≤ℤ y
low_sum x z y d g e f = omega (arith, ints, e, f)

high_sum : (x y z : ℤ) (d g : ℕ) → (x +ℤ pos (d + g)) ≡ y → y ≡ (z +ℤ pos d) → x ≤ℤ z
high_sum x y z d g e f = omega (arith, ints, e, f)

low_one : (x y : ℤ) (d g : ℕ) → ((x -ℤ pos g) +ℤ pos (d + g)) ≡ y → x ≤ℤ y
low_one x y d g e = omega (arith, ints, e)

high_one : (x y : ℤ) (d g : ℕ) → (x +ℤ pos (d + g)) ≡ (y +ℤ pos d) → x ≤ℤ y
high_one x y d g e = omega (arith, ints, e)

-- the windows of an end that is looked at without what waits are its own
as_emptied_come : (s : State) (n : ℕ) (y : ℤ) → MayCome (emptied s) n y → MayCome s n y
as_emptied_come s n y m = m

as_emptied_go : (s : State) (n : ℕ) (x : ℤ) → MayGo (emptied s) n x → MayGo s n x
as_emptied_go s n x m = m

pub knows : Known → (a b : State) (ab ba : List Frame) → Faces a b ab ba → Knows a (after_frames (emptied b) ab)
knows k a b ab ba h = record {
  own = h.end_a;
  holds = run.holds;
  goes = run.goes;
  other = ap is_client run.steady.role ∙ h.other;
  followed = h.to_b.followed;
  awaits = h.to_b.awaits;
  grants = low_sum b.send (after_frames (emptied b) ab).send a.receive (all_lengths ba) (grants_in 0 ab) h.all_ba ahead.send;
  texts = high_sum a.send b.receive (after_frames (emptied b) ab).receive (all_lengths ab) (grants_in 0 ba) h.all_ab ahead.receive;
  grant = λ n x y go come. low_one x y (data_lengths_in n ba) (grants_in n ab) (h.sum_ba n (x -ℤ pos (grants_in n ab)) y (as_emptied_go b n (x -ℤ pos (grants_in n ab)) (ahead.goes n x go)) come);
  text = λ n x y go come. high_one x y (data_lengths_in n ab) (grants_in n ba) (h.sum_ab n x (y +ℤ pos (data_lengths_in n ab)) go (as_emptied_come b n (y +ℤ pos (data_lengths_in n ab)) (ahead.comes n y come)));
}
  where
    room : reply_bytes (emptied b).out + 17 * asking ab ≤ reply_limit
    room = let none = none_waits in let few = h.to_b.replies in omega (arith, none, few)

    run : Runs (emptied b) ab
    run = runs k.keep (emptied b) ab (holds_emptied b h.end_b.holds) h.end_b.goes h.to_b.limits h.to_b.taken room

    ahead : Ahead (emptied b) ab
    ahead = ahead_of k (emptied b) ab (holds_emptied b h.end_b.holds) h.end_b.goes h.end_b.initial h.to_b.limits h.to_b.taken room

listens : (s u : State) → Knows s u → IsListening u
listens s u w = record { began = w.followed.began; block = w.followed.block }

-- ---- one frame that was taken

record Done (s t u : State) (f : Frame) : Type 0 where
  taken : IsTaken u f
  followed : IsFollowed t (after_frame u f)
  awaits : Awaits t (after_frame u f)

done : (s t u : State) (f : Frame) → Knows s u → IsTaken u f → Below s t → Above u (effect (record u { began = true }) f) → Done s t u f
done s t u f w taken below above = record {
  taken = taken;
  followed = subst (λ (v : State). IsFollowed t v) (sym to) (followed_both s t u (effect (record u { began = true }) f) below above w.followed);
  awaits = subst (λ (v : State). Awaits t v) (sym to) (awaits_both s t u (effect (record u { began = true }) f) below above w.awaits);
}
  where
    to : after_frame u f ≡ effect (record u { began = true }) f
    to = after_frame-judged u f w.goes ∙ ap (λ o. judged u f o) taken.kept

as_move : (s : State) (m : Move) (u : State) (f : Frame) → move_frames s m ≡ f ∷ [] → Done s (after_move s m) u f → MoveTaken s m u
unfolding AreTaken after_frames
as_move s m u f e d = record {
  taken = subst (λ (fs : List Frame). AreTaken u fs) (sym e) (d.taken, tt);
  followed = subst (λ (fs : List Frame). IsFollowed (after_move s m) (after_frames u fs)) (sym e) d.followed;
  awaits = subst (λ (fs : List Frame). Awaits (after_move s m) (after_frames u fs)) (sym e) d.awaits;
}

-- ---- grants

small_sum : (x r : ℤ) (o t total : ℕ) → x ≤ℤ r → (r +ℤ pos (o + t)) ≡ pos total → total ≤ 6553500 → (x +ℤ pos o) ≤ℤ pos 2147483647
small_sum x r o t total low sum small = omega (arith, ints, low, sum, small)

small_owed : (r : ℤ) (o t total : ℕ) → pos 0 ≤ℤ r → (r +ℤ pos (o + t)) ≡ pos total → total ≤ 6553500 → o ≤ 2147483647
small_owed r o t total low sum small = omega (arith, ints, low, sum, small)

grant_all_below : (s : State) → Below s (after_move s GrantAll)
unfolding after_move
grant_all_below s = record { role = refl; encoder = refl; opened = refl; lower = λ n. itself s n (stream_at s.streams n) refl }

grant_all_above : (u : State) (by : ℕ) → Above u (effect (record u { began = true }) (frame 8 0 0 (to_be_bytes w32 by)))
unfolding effect window_update
grant_all_above u by = record { role = refl; began = refl; block = refl; decoder = refl; opened = refl; upper = λ n. upper_itself u n (stream_at u.streams n) refl }

grant_all_frames : (s : State) → move_frames s GrantAll ≡ frame 8 0 0 (to_be_bytes w32 s.owed) ∷ []
unfolding move_frames
grant_all_frames s = refl

grant_all : (s u : State) → Knows s u → may s GrantAll ≡ true → MoveTaken s GrantAll u
grant_all s u w ok =
    as_move s GrantAll u (frame 8 0 0 (to_be_bytes w32 s.owed)) (grant_all_frames s)
    (done s (after_move s GrantAll) u (frame 8 0 0 (to_be_bytes w32 s.owed)) w
    (record {
      kept = grant_is_taken u s.owed w.holds (listens s u w) some (small_owed s.receive s.owed (text_bytes s.streams) connection_window w.own.holds.room w.own.holds.sum (omega arith))
          (may_grow u.send s.owed (small_sum u.send s.receive s.owed (text_bytes s.streams) connection_window w.grants w.own.holds.sum (omega arith)));
      plain = record { whole = refl; silent = refl; windows = λ e. absurd cc };
      head = λ e. absurd cc;
    })
    (grant_all_below s) (grant_all_above u s.owed))
  where
    some : 0 < s.owed
    some = let many : grant_size ≤ s.owed = leb-true grant_size s.owed (move_parts s GrantAll ok).due in omega (arith, many)

upper_grant : (u : State) (n by : ℕ) (st : Stream) → Upper u n (Some st) → Upper u n (Some (with_grant by st))
upper_grant u n by st h = by_open (is_open st) refl
  where
    by_open : (b : Bool) → is_open st ≡ b → Upper u n (Some (if b then record st { send = st.send +ℤ pos by } else st))
    by_open true e = h
    by_open false e = h

grant_below : (s : State) (n : ℕ) → Below s (after_move s (Grant n))
unfolding after_move
grant_below s n = by_found (stream_at s.streams n)
  where
    by_found : (o : Option Stream) → Below s (made s (Grant n) o)
    by_found None = record { role = refl; encoder = refl; opened = refl; lower = λ m. itself s m (stream_at s.streams m) refl }
    by_found (Some st) = record { role = refl; encoder = refl; opened = refl; lower = λ m. changed s n m granted (λ x. refl) (λ x q. q) }

grant_above : (u : State) (n by : ℕ) → Above u (effect (record u { began = true }) (frame 8 0 n (to_be_bytes w32 by)))
unfolding effect window_update
grant_above u n by = by_test (n == 0)
  where
    by_test : (b : Bool) → Above u (if b then record u { began = true; send = u.send +ℤ pos (increment_of (to_be_bytes w32 by)) } else record u { began = true; streams = change u.streams n (with_grant (increment_of (to_be_bytes w32 by))) })
    by_test true = record { role = refl; began = refl; block = refl; decoder = refl; opened = refl; upper = λ m. upper_itself u m (stream_at u.streams m) refl }
    by_test false = record {
      role = refl;
      began = refl;
      block = refl;
      decoder = refl;
      opened = refl;
      upper = λ m. at_change (Upper u m) u.streams n m (with_grant (increment_of (to_be_bytes w32 by))) (grant_number (increment_of (to_be_bytes w32 by)))
          (λ st q. upper_grant u m (increment_of (to_be_bytes w32 by)) st q) (upper_itself u m (stream_at u.streams m) refl);
    }

grant_frames : (s : State) (n : ℕ) (st : Stream) → stream_at s.streams n ≡ Some st → move_frames s (Grant n) ≡ frame 8 0 n (to_be_bytes w32 st.owed) ∷ []
unfolding move_frames
grant_frames s n st e = ap (λ (o : Option Stream). made_frames s (Grant n) o) e

pub not_zero : (s : State) (n : ℕ) (st : Stream) → Holds s → stream_at s.streams n ≡ Some st → eqb n 0 ≡ false
not_zero s n st holds at = ne_eqb n 0 (λ e. contrary (above_0 s n st holds at) (ap (λ (k : ℕ). eqb 0 k) e))
  where
    contrary : eqb 0 n ≡ false → eqb 0 n ≡ true → ⊥
    contrary a b = cc

grant_one : (s u : State) (n : ℕ) → Knows s u → may s (Grant n) ≡ true → MoveTaken s (Grant n) u
grant_one s u n w ok =
    as_move s (Grant n) u (frame 8 0 n (to_be_bytes w32 st.owed)) (grant_frames s n st found)
    (done s (after_move s (Grant n)) u (frame 8 0 n (to_be_bytes w32 st.owed)) w
    (record {
      kept = stream_grant_is_taken u n st.owed (listens s u w) (not_zero s n st w.own.holds found) (is_not_idle s u n st w.own.holds w.other w.followed found) some
          (small_owed st.receive st.owed (length st.text) stream_window room sum (omega arith)) fits;
      plain = record { whole = refl; silent = refl; windows = λ e. absurd cc };
      head = λ e. absurd cc;
    })
    (grant_below s n) (grant_above u n st.owed))
  where
    here : (st : Stream) × IsFound s.streams n is_owed st
    here = found_open s.streams n is_owed (move_parts s (Grant n) ok).due

    st : Stream
    st = here.0

    found : stream_at s.streams n ≡ Some st
    found = here.1.found

    sum : HasSum st
    sum = all_at HasSum s.streams n st w.own.holds.sums found

    room : HasRoom st
    room = all_at HasRoom s.streams n st w.own.holds.rooms found

    some : 0 < st.owed
    some = let many : grant_size ≤ st.owed = leb-true grant_size st.owed (and_parts st.peer_open (nat_le grant_size st.owed) here.1.passed).1 in omega (arith, many)

    fits : on_open u.streams n (λ c. not (can_grow c.send (pos st.owed))) ≡ false
    fits = no_open u.streams n (λ c. not (can_grow c.send (pos st.owed)))
        (λ c at up. ap not (may_grow c.send st.owed (small_sum c.send st.receive st.owed (length st.text) stream_window (w.grant n c.send st.receive (inl (c, at, up, refl)) (inl (st, found, here.1.opened, refl))) sum (omega arith))))

-- ---- text

send_below : (s : State) (n count : ℕ) → Below s (after_move s (Send n count))
unfolding after_move
send_below s n count = by_found (stream_at s.streams n)
  where
    by_found : (o : Option Stream) → Below s (made s (Send n count) o)
    by_found None = record { role = refl; encoder = refl; opened = refl; lower = λ m. itself s m (stream_at s.streams m) refl }
    by_found (Some st) = record { role = refl; encoder = refl; opened = refl; lower = λ m. changed s n m (sent_some count) (λ x. refl) (λ x q. q) }

send_above : (u : State) (n : ℕ) (text : List ℕ) → Above u (effect (record u { began = true }) (frame 0 0 n text))
unfolding effect data_in data_taken data_dropped
send_above u n text = by_found (stream_at u.streams n)
  where
    f : Frame
    f = frame 0 0 n text

    v : State
    v = record u { began = true }

    same : (t : State) → t.role ≡ u.role → t.began ≡ true → t.block ≡ u.block → t.decoder ≡ u.decoder → t.opened ≡ u.opened → ((m : ℕ) → Upper u m (stream_at t.streams m)) → Above u t
    same t a b c d e g = record { role = a; began = b; block = c; decoder = d; opened = e; upper = g }

    unchanged : (m : ℕ) → Upper u m (stream_at u.streams m)
    unchanged m = upper_itself u m (stream_at u.streams m) refl

    changed_one : (m : ℕ) → Upper u m (stream_at (change u.streams n (with_text (length text) (content f))) m)
    changed_one m = at_change (Upper u m) u.streams n m (with_text (length text) (content f)) (λ st. refl) (λ st q. q) (unchanged m)

    told : (b : Bool) → Above u (if b then data_taken f v else event (data_taken f v) (Text n))
    told true = same (data_taken f v) refl refl refl refl refl changed_one
    told false = same (event (data_taken f v) (Text n)) refl refl refl refl refl changed_one

    by_open : (b : Bool) → Above u (if b then data_in f v else data_dropped f v)
    by_open true = told (length (content f) == 0)
    by_open false = same (data_dropped f v) refl refl refl refl refl unchanged

    by_found : (o : Option Stream) → Above u (data_of f v o)
    by_found None = same (data_dropped f v) refl refl refl refl refl unchanged
    by_found (Some st) = by_open (is_open st)

send_frames : (s : State) (n count : ℕ) (st : Stream) → stream_at s.streams n ≡ Some st → move_frames s (Send n count) ≡ frame 0 0 n (take count st.queue) ∷ []
unfolding move_frames
send_frames s n count st e = ap (λ (o : Option Stream). made_frames s (Send n count) o) e

le_then : (k : ℕ) (x y : ℤ) → pos k ≤ℤ x → x ≤ℤ y → pos k ≤ℤ y
le_then k x y a b = omega (arith, ints, a, b)

open_own : (st : Stream) → st.own_open ≡ true → is_open st ≡ true
open_own st e = ap (λ (b : Bool). st.peer_open || b) e ∙ either_true st.peer_open
  where
    either_true : (b : Bool) → (b || true) ≡ true
    either_true true = refl
    either_true false = refl

none_and : (b : Bool) → (b && false) ≡ false
none_and true = refl
none_and false = refl

send_text : (s u : State) (n count : ℕ) → Knows s u → may s (Send n count) ≡ true → MoveTaken s (Send n count) u
send_text s u n count w ok =
    as_move s (Send n count) u (frame 0 0 n text) (send_frames s n count st found)
    (done s (after_move s (Send n count)) u (frame 0 0 n text) w
    (record {
      kept = data_is_taken u n text (record {
        listens = listens s u w;
        number = not_zero s n st w.own.holds found;
        known = is_not_idle s u n st w.own.holds w.other w.followed found;
        all = may_spend u.receive (length text) (subst (λ (j : ℕ). pos j ≤ℤ u.receive) (sym long) (le_then count s.send u.receive parts.connection w.texts));
        one = no_open u.streams n (λ c. not (can_spend c.receive (length text)))
            (λ c at up. ap not (may_spend c.receive (length text) (subst (λ (j : ℕ). pos j ≤ℤ c.receive) (sym long)
            (le_then count st.send c.receive parts.stream (w.text n st.send c.receive (inl (st, found, open_own st parts.own, refl)) (inl (c, at, up, refl)))))));
        half = no_open u.streams n (λ c. not c.peer_open) (λ c at up. ap not (w.followed.halves n st c found parts.own at up));
        head = by_role (is_client u.role) refl;
      });
      plain = record { whole = refl; silent = refl; windows = λ e. absurd cc };
      head = λ e. absurd cc;
    })
    (send_below s n count) (send_above u n text))
  where
    here : (st : Stream) × IsFound s.streams n (can_send count s.send) st
    here = found_open s.streams n (can_send count s.send) (move_parts s (Send n count) ok).due

    st : Stream
    st = here.0

    found : stream_at s.streams n ≡ Some st
    found = here.1.found

    parts : IsSendable count s.send st
    parts = send_parts count s.send st here.1.passed

    text : List ℕ
    text = take count st.queue

    long : length text ≡ count
    long = let e = length-take count st.queue in let fits = parts.queued in omega (arith, e, fits)

    served : (c d : Bool) → c ≡ not d → c ≡ true → d ≡ false
    served true true e g = absurd cc
    served true false e g = refl
    served false d e g = absurd cc

    answered : is_client u.role ≡ true → st.answered ≡ true
    answered client = by_answer st.answered refl
      where
        by_answer : (b : Bool) → st.answered ≡ b → b ≡ true
        by_answer true e = refl
        by_answer false e =
            let nothing = (w.own.first (served (is_client u.role) (is_client s.role) w.other client) n st found e).0 in
            let some = parts.some in let fits = parts.queued in absurd (omega (arith, nothing, some, fits))

    by_role : (c : Bool) → is_client u.role ≡ c → (is_client u.role && on_open u.streams n (λ c. not c.answered)) ≡ false
    by_role true client =
        ap (λ (b : Bool). is_client u.role && b) (no_open u.streams n (λ c. not c.answered) (λ c at up. ap not (w.followed.heads client n st c found at up ∙ answered client))) ∙ none_and (is_client u.role)
    by_role false server = ap (λ (b : Bool). b && on_open u.streams n (λ c. not c.answered)) server

-- ---- grants and text

pub carried : (s u : State) (m : Move) → Knows s u → may s m ≡ true → IsCarrying m → MoveTaken s m u
carried s u GrantAll w ok is = grant_all s u w ok
carried s u (Grant n) w ok is = grant_one s u n w ok
carried s u (Send n count) w ok is = send_text s u n count w ok
carried s u (End n) w ok is = absurd is
carried s u (Stop n) w ok is = absurd is

-- none of them asks for a reply, or counts as one
asks_nothing : (s : State) (m : Move) → IsCarrying m → asking (move_frames s m) ≡ 0
unfolding move_frames asking
asks_nothing s GrantAll is = refl
asks_nothing s (Grant n) is = by_found (stream_at s.streams n)
  where
    by_found : (o : Option Stream) → asking (made_frames s (Grant n) o) ≡ 0
    by_found None = refl
    by_found (Some st) = refl
asks_nothing s (Send n count) is = by_found (stream_at s.streams n)
  where
    by_found : (o : Option Stream) → asking (made_frames s (Send n count) o) ≡ 0
    by_found None = refl
    by_found (Some st) = refl
asks_nothing s (End n) is = absurd is
asks_nothing s (Stop n) is = absurd is

no_replies : (s : State) (m : Move) → IsCarrying m → reply_bytes (after_move s m).out ≡ reply_bytes s.out
unfolding after_move
no_replies s GrantAll is = replies_same s.out (grant_frame 0 s.owed)
no_replies s (Grant n) is = by_found (stream_at s.streams n)
  where
    by_found : (o : Option Stream) → reply_bytes (made s (Grant n) o).out ≡ reply_bytes s.out
    by_found None = refl
    by_found (Some st) = replies_same s.out (grant_frame n st.owed)
no_replies s (Send n count) is = by_found (stream_at s.streams n)
  where
    by_found : (o : Option Stream) → reply_bytes (made s (Send n count) o).out ≡ reply_bytes s.out
    by_found None = refl
    by_found (Some st) = replies_same s.out (spelled 0 0 n (take count st.queue))
no_replies s (End n) is = absurd is
no_replies s (Stop n) is = absurd is

pub moves_keep_faces : Known → Moving → MovesKeepFaces
moves_keep_faces k v a b ab ba m h ok is =
    let w = knows k a b ab ba h in
    let u : State = after_frames (emptied b) ab in
    let step = move_step k v a m u h.end_a ok (carried a u m w ok is) in
    steps_keep_faces k a b (after_move a m) (move_frames a m) ab ba h step (awaits_back k a b (after_move a m) ab ba h step.still step.hears (move_opened a m))
    (let same = no_replies a m is in let few = h.to_a.replies in omega (arith, same, few))
    (let nothing = asks_nothing a m is in let e = asking-append ab (move_frames a m) in let few = h.to_b.replies in omega (arith, nothing, e, few))
