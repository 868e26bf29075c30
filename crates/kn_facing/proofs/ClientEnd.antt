-- A client ends its half of a stream, by an empty DATA frame.
use Rattle.std.proofs.Common.{◌≡◌, ◌&&◌, ◌||◌, ℕ, Bool, true, false, not, List, [], ◌∷◌, Option, Some, None, IfSome, refl, sym, ap, ◌∙◌, subst, arith, if◌then◌else◌}
use Rattle.kn_frames.specs.declared.frame.Frame.{Frame}
use Rattle.kn_hpack.specs.Fields.{Field}
use Rattle.kn_hpack.specs.Encoding.{block_of}
use Rattle.kn_windows.specs.Windows.{can_spend}
use Rattle.kn_h2_state.specs.declared.moves.Move.TheVariants.{End}
use Rattle.kn_h2_state.specs.declared.stream.Stream.{Stream}
use Rattle.kn_h2_state.specs.declared.state.State.{State}
use Rattle.kn_h2_state.specs.InStep.{IsInStep}
use Rattle.kn_h2_state.specs.Outgoing.{reply_bytes}
use Rattle.kn_h2_state.specs.Payloads.{content}
use Rattle.kn_h2_state.specs.Streams.{stream_at, change, is_open, on_open}
use Rattle.kn_h2_state.specs.Rules.{is_client}
use Rattle.kn_h2_state.specs.Effects.{peer_ends, data_taken, data_in, data_dropped, data_of, effect}
use Rattle.kn_h2_state.specs.Feeding.{judged, after_frame, after_frames}
use Rattle.kn_h2_state.specs.Moves.{may, can_end, made, after_move, own_ended, end_frames}
use Rattle.kn_h2_state.specs.Holding.{Holds, HasRoom}
use Rattle.kn_h2_state.specs.Wire.{frame, head_list, end_list, made_frames, move_frames}
use Rattle.kn_h2_state.proofs.BorneLemmas.{at_tidied}
use Rattle.kn_h2_state.proofs.OtherLaws.{frames_leave_others, moves_leave_others}
use Rattle.kn_h2_state.proofs.PieceLaws.{after_frame-judged}
use Rattle.kn_h2_state.proofs.SeenLemmas.{at_changed}
use Rattle.kn_h2.proofs.FoundLemmas.{IsFound, found_open}
use Rattle.kn_h2.proofs.HoldsLemmas.{replies_same}
use Rattle.kn_h2.proofs.MoveLemmas.{move_parts, IsEndable, end_parts}
use Rattle.kn_h2.proofs.StreamLemmas.{all_at}
use Rattle.kn_facing.specs.Facing.{emptied, IsTaken, asking}
use Rattle.kn_facing.specs.Faces.{ClientEndKeepsFaces}
use Rattle.kn_facing.proofs.AheadLemmas.{no_open, may_spend, is_not_idle}
use Rattle.kn_facing.proofs.EndStep.{climbs_changed, begun, some_finish, as_move}
use Rattle.kn_facing.proofs.FaceLemmas.{Known}
use Rattle.kn_facing.proofs.ListSums.{asking-append}
use Rattle.kn_facing.proofs.MoveStep.{Moving, MoveTaken, move_step}
use Rattle.kn_facing.proofs.MoveTaken.{Knows, knows, not_zero}
use Rattle.kn_facing.proofs.OwnSumLemmas.{move_opened}
use Rattle.kn_facing.proofs.StepLemmas.{steps_keep_faces, awaits_back}
use Rattle.kn_facing.proofs.TakenLemmas.{last_data_is_taken}

abbrev last : ℕ → Frame
last n = frame 0 1 n []

-- ---- at the server that reads it

-- what a server reads of blocks and streams goes on as it was
record Same (u v : State) : Type 0 where
  began : v.began ≡ true
  block : v.block ≡ u.block
  decoder : v.decoder ≡ u.decoder
  opened : v.opened ≡ u.opened

last_same : (u : State) (n : ℕ) → Same u (effect (begun u) (last n))
unfolding effect data_in data_taken data_dropped peer_ends content
last_same u n = by_found (stream_at u.streams n)
  where
    f : Frame
    f = last n

    by_open : (b : Bool) → Same u (if b then data_in f (begun u) else data_dropped f (begun u))
    by_open true = record { began = refl; block = refl; decoder = refl; opened = refl }
    by_open false = record { began = refl; block = refl; decoder = refl; opened = refl }

    by_found : (o : Option Stream) → Same u (data_of f (begun u) o)
    by_found None = record { began = refl; block = refl; decoder = refl; opened = refl }
    by_found (Some st) = by_open (is_open st)

-- ---- at the client

-- its own half has ended
abbrev IsOver : Option Stream → Type 0
IsOver o = IfSome o (λ x. x.own_open ≡ false)

record Over (s t : State) (n : ℕ) : Type 0 where
  encoder : t.encoder ≡ s.encoder
  gone : IsOver (stream_at t.streams n)
  out : reply_bytes t.out ≡ reply_bytes s.out

over_here : (s : State) (n : ℕ) (st : Stream) → Holds s → is_client s.role ≡ true → stream_at s.streams n ≡ Some st → Over s (after_move s (End n)) n
unfolding after_move
over_here s n st holds client at = subst (λ (o : Option Stream). Over s (made s (End n) o) n) (sym at) (record {
  encoder = ap (λ (b : Bool). s.encoder || not b) client ∙ or_false s.encoder;
  gone = at_tidied IsOver 0 n (change s.streams n (own_ended (not (is_client s.role)))) (λ x k h. tt) (climbs_changed s n (own_ended (not (is_client s.role))) (λ x. refl) holds)
      (subst IsOver (sym (at_changed s.streams n (own_ended (not (is_client s.role))) st (λ x. refl) at)) refl);
  out = replies_same s.out (end_frames s n st.finish);
})
  where
    or_false : (b : Bool) → (b || false) ≡ b
    or_false true = refl
    or_false false = refl

last_frames : (s : State) (n : ℕ) (st : Stream) (trailers : List Field) → is_client s.role ≡ true → stream_at s.streams n ≡ Some st → st.finish ≡ Some trailers → move_frames s (End n) ≡ last n ∷ []
unfolding move_frames
last_frames s n st trailers client at finish =
    ap (λ (o : Option Stream). made_frames s (End n) o) at ∙ (ap (λ (o : Option (List Field)). end_list s n o) finish ∙ ap (λ (b : Bool). if b then last n ∷ [] else head_list n 1 (block_of s.encoder trailers)) client)

-- ---- the step

last_taken : Known → (s u : State) (n : ℕ) → Knows s u → is_client s.role ≡ true → may s (End n) ≡ true → MoveTaken s (End n) u
last_taken k s u n w client ok =
    as_move s (End n) u (after_frame u (last n)) n (last n) w (last_frames s n st has.0 client here.1.found has.1) taken refl
    (record {
      here = st;
      found = here.1.found;
      own = λ m other. moves_leave_others s (End n) m w.own.holds other;
      other = λ m other. frames_leave_others u (last n) m w.holds other;
      opened = move_opened s (End n);
      role = k.roles.move s (End n);
      began = ap (λ (z : State). z.began) to ∙ was.began;
      block = ap (λ (z : State). z.block) to ∙ (was.block ∙ w.followed.block);
      decoder = subst (λ (b : Bool). IsInStep b (after_frame u (last n)).decoder) (sym done.encoder) (subst (λ d. IsInStep s.encoder d) (sym (ap (λ (z : State). z.decoder) to ∙ was.decoder)) w.followed.decoder);
      kind = k.roles.frame u (last n);
      there = ap (λ (z : State). z.opened) to ∙ was.opened;
      half = λ x y at own there up. absurd (ended x at own);
      head = λ c x y at there up. absurd (contrary c server);
    })
  where
    here : (st : Stream) × IsFound s.streams n can_end st
    here = found_open s.streams n can_end (move_parts s (End n) ok).due

    st : Stream
    st = here.0

    parts : IsEndable st
    parts = end_parts st here.1.passed

    has : (trailers : List Field) × (st.finish ≡ Some trailers)
    has = some_finish st.finish parts.asked

    server : is_client u.role ≡ false
    server = w.other ∙ ap not client

    contrary : is_client u.role ≡ true → is_client u.role ≡ false → ⊥
    contrary c d = cc

    taken : IsTaken u (last n)
    taken = record {
      kept = last_data_is_taken u n [] (record {
        listens = record { began = w.followed.began; block = w.followed.block };
        number = not_zero s n st w.own.holds here.1.found;
        known = is_not_idle s u n st w.own.holds w.other w.followed here.1.found;
        all = may_spend u.receive 0 w.holds.room;
        one = no_open u.streams n (λ c. not (can_spend c.receive 0)) (λ c at up. ap not (may_spend c.receive 0 (all_at HasRoom u.streams n c w.holds.rooms at)));
        half = no_open u.streams n (λ c. not c.peer_open) (λ c at up. ap not (w.followed.halves n st c here.1.found parts.own at up));
        head = ap (λ (b : Bool). b && on_open u.streams n (λ c. not c.answered)) server;
      });
      plain = record { whole = refl; silent = refl; windows = λ e. absurd cc };
      head = λ e. absurd cc;
    }

    to : after_frame u (last n) ≡ effect (begun u) (last n)
    to = after_frame-judged u (last n) w.goes ∙ ap (λ o. judged u (last n) o) taken.kept

    was : Same u (effect (begun u) (last n))
    was = last_same u n

    done : Over s (after_move s (End n)) n
    done = over_here s n st w.own.holds client here.1.found

    ended : (x : Stream) → stream_at (after_move s (End n)).streams n ≡ Some x → x.own_open ≡ true → ⊥
    ended x at own = both (subst IsOver at done.gone)
      where
        both : x.own_open ≡ false → ⊥
        both e = cc

pub client_end_keeps_faces : Known → Moving → ClientEndKeepsFaces
unfolding asking
client_end_keeps_faces k v a b ab ba n h client ok =
    let u : State = after_frames (emptied b) ab in
    let step = move_step k v a (End n) u h.end_a ok (last_taken k a u n (knows k a b ab ba h) client ok) in
    let here = found_open a.streams n can_end (move_parts a (End n) ok).due in
    let has = some_finish here.0.finish (end_parts here.0 here.1.passed).asked in
    let done = over_here a n here.0 h.end_a.holds client here.1.found in
    let quiet : asking (move_frames a (End n)) ≡ 0 = ap (λ (fs : List Frame). asking fs) (last_frames a n here.0 has.0 client here.1.found has.1) in
    steps_keep_faces k a b (after_move a (End n)) (move_frames a (End n)) ab ba h step (awaits_back k a b (after_move a (End n)) ab ba h step.still step.hears (move_opened a (End n)))
    (let same = done.out in let few = h.to_a.replies in omega (arith, same, few))
    (let e = asking-append ab (move_frames a (End n)) in let few = h.to_b.replies in omega (arith, quiet, e, few))
