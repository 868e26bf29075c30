-- The first frame on its way is read.
use Rattle.std.proofs.Common.{◌≡◌, ◌≤◌, ◌+◌, ℤ, pos, ◌+ℤ◌, ◌-ℤ◌, ◌&&◌, ℕ, Bool, true, false, not, length, List, [], ◌∷◌, ◌++◌, append-nil, Option, Some, None, IfSome, refl, sym, ap, ◌∙◌, subst, arith, if◌then◌else◌}
use Rattle.std.specs.Prelude.{◌==◌}
use Rattle.std.proofs.lemmas.Int.{ints}
use Rattle.kn_frames.specs.declared.frame.Frame.{Frame}
use Rattle.kn_frames.specs.Frames.{IsWithinLimits}
use Rattle.kn_h2_state.specs.declared.stream.Stream.{Stream}
use Rattle.kn_h2_state.specs.declared.state.State.{State}
use Rattle.kn_h2_state.specs.Payloads.{has, settings_of}
use Rattle.kn_h2_state.specs.Streams.{stream_at, is_open}
use Rattle.kn_h2_state.specs.Rules.{is_client, shifted_one}
use Rattle.kn_h2_state.specs.Effects.{effect, settings, with_grant}
use Rattle.kn_h2_state.specs.Feeding.{judged, after_frame, after_frames}
use Rattle.kn_h2_state.specs.Holding.{Holds}
use Rattle.kn_h2_state.specs.Preorder.{HearsMore}
use Rattle.kn_h2_state.specs.Wire.{frame, frame_grant, grants_in, data_length, data_lengths_in}
use Rattle.kn_h2_state.proofs.BorneLemmas.{Bears, rises, borne_frame, borne_start}
use Rattle.kn_h2_state.proofs.PieceLaws.{after_frame-judged, after_frames-append}
use Rattle.kn_facing.specs.Facing.{emptied, IsFollowed, Awaits, IsTaken, AreTaken, asks, asking}
use Rattle.kn_facing.specs.Laws.{ReadsOnFollowed}
use Rattle.kn_facing.specs.Faces.{all_lengths, AnswersFirst, IsEnd, IsSound, acknowledged, FramesKeepFaces}
use Rattle.kn_facing.specs.Taken.{IsListening}
use Rattle.kn_facing.proofs.CarryLemmas.{hears_left, hears_right, holds_emptied, taken_too, none_waits}
use Rattle.kn_facing.proofs.FaceLemmas.{Known, turned, Runs, runs, WayOn, Before, way_on}
use Rattle.kn_facing.proofs.ListSums.{grants-append, lengths-append, all-append, asking-append, all_by-append, acks_nothing, grants-first, lengths-first, all-first}
use Rattle.kn_facing.proofs.ReadLemmas.{frames_keep_followed}
use Rattle.kn_facing.proofs.RoomLemmas.{Replied, most, few_replies, one_open, opened_on}
use Rattle.kn_facing.proofs.SteadyLemmas.{Steady, steady_frame}
use Rattle.kn_facing.proofs.SumLemmas.{frames_take, frames_grant}
use Rattle.kn_facing.proofs.TakenLemmas.{acknowledgement_is_taken}
use Rattle.kn_facing.proofs.UnendedLemmas.{unended_frame, no_end, rest_end, one_goes_on}

-- ---- text waits on answered streams alone

abbrev pub First : Stream → Type 0
First st = st.answered ≡ false → (length st.queue ≡ 0) × (st.finish ≡ None)

abbrev pub FirstOf : Option Stream → Type 0
FirstOf o = IfSome o (λ st. First st)

first_grant : (by : ℕ) (st : Stream) → First st → First (with_grant by st)
first_grant by st h = by_open (is_open st)
  where
    by_open : (b : Bool) → First (if b then record st { send = st.send +ℤ pos by } else st)
    by_open true = h
    by_open false = h

first_shift : (old new : ℕ) (st : Stream) → First st → First (shifted_one old new st)
first_shift old new st h = by_open (is_open st)
  where
    by_open : (b : Bool) → First (if b then record st { send = st.send +ℤ (pos new -ℤ pos old) } else st)
    by_open true = h
    by_open false = h

bears_first : (n low : ℕ) → Bears false (Unit {0}) FirstOf n low
bears_first n low = record {
  gone = λ st k q. tt;
  texts = λ k text st q. q;
  ends = λ st q. q;
  heads = λ e st q. absurd cc;
  shuts = λ _ st q e. (refl, refl);
  cuts = λ _ st q e. (refl, refl);
  grants = λ by st q. first_grant by st q;
  shifts = λ old new st q. first_shift old new st q;
  fresh = λ m u above e first. (refl, refl);
}

pub first_at : (s : State) (n : ℕ) → AnswersFirst s → is_client s.role ≡ false → (o : Option Stream) → stream_at s.streams n ≡ o → FirstOf o
first_at s n first server None e = tt
first_at s n first server (Some st) e = first server n st e

first_frame : (s : State) (f : Frame) → Holds s → (after_frame s f).role ≡ s.role → AnswersFirst s → AnswersFirst (after_frame s f)
first_frame s f holds role first server n st at =
    let here : is_client s.role ≡ false = ap is_client (sym role) ∙ server in
    let b = borne_frame (bears_first n s.opened) s f here (borne_start s (rises 0 s.opened s.streams holds.rising) (first_at s n first here (stream_at s.streams n) refl)) in
    subst FirstOf at b.there

-- ---- what acknowledges

abbrev ack : Frame
ack = frame 4 1 0 []

ack_taken : (t : State) → IsListening t → IsTaken t ack
unfolding settings_of
ack_taken t listens = record { kept = acknowledgement_is_taken t listens; plain = record { whole = refl; silent = refl; windows = λ e. tt }; head = λ e. absurd cc }

ack_effect : (t : State) → effect t ack ≡ t
unfolding effect settings
ack_effect t = refl

ack_after : (t : State) → t.failed ≡ None → IsListening t → after_frame t ack ≡ t
ack_after t on listens =
    after_frame-judged t ack on ∙ (ap (λ o. judged t ack o) (acknowledgement_is_taken t listens) ∙ (ack_effect (record t { began = true }) ∙ ap (λ (b : Bool). record t { began = b }) (sym listens.began)))

pub taken_join : (s : State) (fs gs : List Frame) → AreTaken s fs → AreTaken (after_frames s fs) gs → AreTaken s (fs ++ gs)
unfolding AreTaken after_frames
taken_join s [] gs a b = b
taken_join s (f ∷ fs) gs a b = (a.0, taken_join (after_frame s f) fs gs a.1 b)

ack_last : (t : State) (fs : List Frame) → (after_frames t fs).failed ≡ None → IsListening (after_frames t fs) → after_frames t (fs ++ ack ∷ []) ≡ after_frames t fs
unfolding after_frames
ack_last t fs on listens = after_frames-append t fs (ack ∷ []) ∙ ack_after (after_frames t fs) on listens

pub one_taken : (t : State) (f : Frame) → IsTaken t f → AreTaken t (f ∷ [])
unfolding AreTaken
one_taken t f h = (h, tt)

sound_acks : (a s : State) (ba : List Frame) (f : Frame) → (after_frames (emptied a) ba).failed ≡ None → IsSound a ba s → IsSound a (ba ++ acknowledged f) s
unfolding asking
sound_acks a s ba f on h = by_test ((f.kind == 4) && not (has f 1))
  where
    listens : IsListening (after_frames (emptied a) ba)
    listens = record { began = h.followed.began; block = h.followed.block }

    with_ack : IsSound a (ba ++ ack ∷ []) s
    with_ack = record {
      limits = all_by-append IsWithinLimits ba (ack ∷ []) h.limits (record { payload = omega arith; stream = omega arith }, tt);
      taken = taken_join (emptied a) ba (ack ∷ []) h.taken (one_taken (after_frames (emptied a) ba) ack (ack_taken (after_frames (emptied a) ba) listens));
      followed = subst (λ (t : State). IsFollowed s t) (sym (ack_last (emptied a) ba on listens)) h.followed;
      awaits = subst (λ (t : State). Awaits s t) (sym (ack_last (emptied a) ba on listens)) h.awaits;
      ends = λ n g. no_end n ba (ack ∷ []) (h.ends n g) (one_goes_on n ack refl);
      replies = let e = asking-append ba (ack ∷ []) in let few = h.replies in omega (arith, e, few);
    }

    by_test : (b : Bool) → IsSound a (ba ++ (if b then ack ∷ [] else [])) s
    by_test true = with_ack
    by_test false = subst (λ (fs : List Frame). IsSound a fs s) (sym (append-nil ba)) h

-- ---- sums

take_sum : (x y r : ℤ) (d dd dd' gg gg' : ℕ) → (x +ℤ pos (dd' + gg)) ≡ r → dd' ≡ d + dd → r ≡ (y +ℤ pos d) → gg' ≡ gg → (x +ℤ pos (dd + gg')) ≡ y
take_sum x y r d dd dd' gg gg' e f g h = omega (arith, ints, e, f, g, h)

grant_sum : (x y : ℤ) (g dd dd' gg gg' : ℕ) → ((x -ℤ pos g) +ℤ pos (dd + gg')) ≡ y → gg' ≡ g + gg → dd' ≡ dd → (x +ℤ pos (dd' + gg)) ≡ y
grant_sum x y g dd dd' gg gg' e f h = omega (arith, ints, e, f, h)

less_more : (y r : ℤ) (d : ℕ) → y ≡ (r -ℤ pos d) → r ≡ (y +ℤ pos d)
less_more y r d e = omega (arith, ints, e)

more_sum : (x x' y : ℤ) (g dd dd' gg gg' : ℕ) → (x +ℤ pos (dd + gg')) ≡ y → x' ≡ (x +ℤ pos g) → gg' ≡ g + gg → dd' ≡ dd → (x' +ℤ pos (dd' + gg)) ≡ y
more_sum x x' y g dd dd' gg gg' e k f h = omega (arith, ints, e, k, f, h)

plus_none : (x y z : ℕ) → x ≡ y + z → z ≡ 0 → x ≡ y
plus_none x y z e n = omega (arith, e, n)

-- ---- the step

pub frames_keep_faces : Known → FramesKeepFaces
unfolding AreTaken after_frames asking
frames_keep_faces k a b f ab ba h = record {
  other = ap is_client steady_b.role ∙ h.other;
  end_a = h.end_a;
  end_b = record { holds = holds_b; facts = (k.facts b e.holds e.facts).frame f; goes = replied_b.goes; initial = steady_b.initial ∙ e.initial; one = one; first = first_frame b f e.holds steady_b.role e.first };
  to_b = record { limits = w.limits.1; taken = way.taken; followed = way.followed; awaits = way.awaits; replies = let few = replied_b.few in let all = w.replies in omega (arith, few, all); ends = λ n g. rest_end n f ab (w.ends n g) };
  to_a = sound_acks a (after_frame b f) ba f run_a.goes
      (record { limits = h.to_a.limits; taken = h.to_a.taken; followed = kept.followed; awaits = kept.awaits; replies = h.to_a.replies; ends = λ n g. h.to_a.ends n (unended_frame k.above b f n e.holds g) });
  sum_ab = λ n x y mx my. take_sum x y (y +ℤ pos (data_length n f)) (data_length n f) (data_lengths_in n ab) (data_lengths_in n (f ∷ ab)) (grants_in n ba) (grants_in n (ba ++ acknowledged f))
      (h.sum_ab n x (y +ℤ pos (data_length n f)) mx (frames_take k.above k.shift b f n y e.holds e.goes taken_b.kept my)) (lengths-first n f ab) refl
      (plus_none (grants_in n (ba ++ acknowledged f)) (grants_in n ba) (grants_in n (acknowledged f)) (grants-append n ba (acknowledged f)) (acks_nothing n f).grants);
  sum_ba = λ n x y mx my. grant_sum x y (frame_grant n f) (data_lengths_in n ba) (data_lengths_in n (ba ++ acknowledged f)) (grants_in n ab) (grants_in n (f ∷ ab))
      (h.sum_ba n (x -ℤ pos (frame_grant n f)) y (frames_grant k.above k.shift b f n x e.holds e.goes taken_b.kept e.initial (steady_b.initial ∙ e.initial) mx) my) (grants-first n f ab)
      (plus_none (data_lengths_in n (ba ++ acknowledged f)) (data_lengths_in n ba) (data_lengths_in n (acknowledged f)) (lengths-append n ba (acknowledged f)) (acks_nothing n f).lengths);
  all_ab = take_sum a.send (after_frame b f).receive b.receive (if f.kind == 0 then length f.payload else 0) (all_lengths ab) (all_lengths (f ∷ ab)) (grants_in 0 ba) (grants_in 0 (ba ++ acknowledged f))
      h.all_ab (all-first f ab) (less_more (after_frame b f).receive b.receive (if f.kind == 0 then length f.payload else 0) (k.shift_all b f e.goes taken_b.kept).receive)
      (plus_none (grants_in 0 (ba ++ acknowledged f)) (grants_in 0 ba) (grants_in 0 (acknowledged f)) (grants-append 0 ba (acknowledged f)) (acks_nothing 0 f).grants);
  all_ba = more_sum b.send (after_frame b f).send a.receive (frame_grant 0 f) (all_lengths ba) (all_lengths (ba ++ acknowledged f)) (grants_in 0 ab) (grants_in 0 (f ∷ ab))
      h.all_ba (k.shift_all b f e.goes taken_b.kept).send (grants-first 0 f ab)
      (plus_none (all_lengths (ba ++ acknowledged f)) (all_lengths ba) (all_lengths (acknowledged f)) (all-append ba (acknowledged f)) (acks_nothing 0 f).all);
}
  where
    e : IsEnd b
    e = h.end_b

    w : IsSound b (f ∷ ab) a
    w = h.to_b

    x : State
    x = after_frame (emptied b) f

    holds_e : Holds (emptied b)
    holds_e = holds_emptied b e.holds

    taken_e : IsTaken (emptied b) f
    taken_e = w.taken.0

    hears_e : HearsMore (emptied b) b
    hears_e = hears_left b b (k.steps b e.holds e.facts.known).none

    taken_b : IsTaken b f
    taken_b = taken_too k.heard (emptied b) b f e.holds hears_e taken_e

    replied_x : Replied (most (asks f)) (emptied b) x
    replied_x = few_replies (emptied b) f e.goes taken_e.kept (let none = none_waits in let few = w.replies in omega (arith, none, few))

    replied_b : Replied (most (asks f)) b (after_frame b f)
    replied_b = few_replies b f e.goes taken_b.kept (let few = w.replies in omega (arith, few))

    holds_x : Holds x
    holds_x = k.keep (emptied b) f holds_e w.limits.0

    holds_b : Holds (after_frame b f)
    holds_b = k.keep b f e.holds w.limits.0

    hears_x : HearsMore x (after_frame b f)
    hears_x = k.frames (emptied b) b f holds_e e.holds hears_e e.goes e.goes taken_e.kept (λ server. one_open b.opened b.streams e.holds.rising e.one) (λ server. one_open b.opened b.streams e.holds.rising e.one)

    steady_x : Steady (emptied b) x
    steady_x = steady_frame (emptied b) f e.goes taken_e.kept taken_e.plain

    steady_b : Steady b (after_frame b f)
    steady_b = steady_frame b f e.goes taken_b.kept taken_b.plain

    before : Before a x ab
    before = record {
      holds = holds_x;
      goes = replied_x.goes;
      other = ap is_client steady_x.role ∙ h.other;
      limits = w.limits.1;
      taken = w.taken.1;
      followed = w.followed;
      awaits = w.awaits;
      room = let none = none_waits in let few = replied_x.few in let all = w.replies in omega (arith, none, few, all);
    }

    same_opened : is_client x.role ≡ true → (after_frame b f).opened ≡ x.opened
    same_opened client = let here : is_client b.role ≡ true = ap is_client (sym steady_x.role) ∙ client in steady_b.opened here ∙ sym (steady_x.opened here)

    way : WayOn a (emptied (after_frame b f)) ab
    way =
        way_on k a x (emptied (after_frame b f)) ab h.end_a.holds h.end_a.one before (holds_emptied (after_frame b f) holds_b) replied_b.goes (hears_right x (after_frame b f) hears_x) same_opened
        (let none = none_waits in let all = w.replies in omega (arith, none, all))

    client_of : (c d : Bool) → c ≡ not d → c ≡ false → d ≡ true
    client_of c true g i = refl
    client_of c false g i = absurd cc

    server_of : (c d : Bool) → c ≡ not d → d ≡ true → c ≡ false
    server_of c true g i = g
    server_of c false g i = absurd cc

    below : is_client b.role ≡ false → (after_frame b f).opened ≤ a.opened
    below server =
        let same = hears_x.server (ap is_client steady_x.role ∙ server) in
        let up = opened_on k.above k.keep x ab holds_x w.limits.1 in
        let all = w.followed.opened (client_of (is_client b.role) (is_client a.role) h.other server) in
        omega (arith, same, up, all)

    one : (after_frame b f).opened ≤ 1
    one = by_role (is_client b.role) refl
      where
        by_role : (c : Bool) → is_client b.role ≡ c → (after_frame b f).opened ≤ 1
        by_role true client = let same = steady_b.opened client in let few = e.one in omega (arith, same, few)
        by_role false server = let low = below server in let few = h.end_a.one in omega (arith, low, few)

    run_a : Runs (emptied a) ba
    run_a = runs k.keep (emptied a) ba (holds_emptied a h.end_a.holds) h.end_a.goes h.to_a.limits h.to_a.taken (let none = none_waits in let few = h.to_a.replies in omega (arith, none, few))

    bound : is_client (after_frames (emptied a) ba).role ≡ true → (after_frame b f).opened ≤ (after_frames (emptied a) ba).opened
    bound client =
        let here : is_client a.role ≡ true = ap is_client (sym run_a.steady.role) ∙ client in
        let same = run_a.steady.opened here in
        let low = below (server_of (is_client b.role) (is_client a.role) h.other here) in
        omega (arith, same, low)

    kept : ReadsOnFollowed (after_frame b f) (after_frames (emptied a) ba)
    kept =
        frames_keep_followed k.above k.answered b (after_frames (emptied a) ba) f e.holds holds_b e.goes taken_b.kept taken_b.plain
        (ap is_client run_a.steady.role ∙ (turned a b (f ∷ ab) ba h).other) h.to_a.followed h.to_a.awaits bound
