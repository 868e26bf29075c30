-- A client begins its one stream.
use Rattle.std.proofs.Common.{◌≡◌, ◌⊎◌, inl, inr, ◌<◌, ◌≤◌, ◌+◌, ◌*◌, ◌%◌, ℤ, pos, ◌+ℤ◌, ◌-ℤ◌, ◌||◌, ℕ, Bool, true, false, not, eqb, nat_lt, length, List, [], ◌∷◌, ◌++◌, Option, Some, None, IfSome, Result, Ok, Err, refl, sym, ap, ◌∙◌, subst, arith, if◌then◌else◌}
use Rattle.std.specs.Prelude.{◌==◌}
use Rattle.std.specs.List.{AllByRecursion}
use Rattle.std.proofs.lemmas.Int.{ints}
use Rattle.std.proofs.lemmas.Bool.{eqb-true, eqb-false, le-leb}
use Rattle.kn_frames.specs.declared.frame.Frame.{Frame}
use Rattle.kn_frames.specs.Frames.{IsWithinLimits}
use Rattle.kn_hpack.specs.Fields.{Field}
use Rattle.kn_hpack.specs.Blocks.{Progress, progress, read_block}
use Rattle.kn_hpack.specs.Encoding.{block_of}
use Rattle.kn_hpack.specs.declared.fault.HpackFault.{HpackFault}
use Rattle.kn_h2_state.specs.declared.event.H2Event.TheVariants.{Opened}
use Rattle.kn_h2_state.specs.declared.state.Block.{Block}
use Rattle.kn_h2_state.specs.declared.stream.Stream.{Stream}
use Rattle.kn_h2_state.specs.declared.state.State.{State}
use Rattle.kn_h2_state.specs.InStep.{no_table, NextIsRead}
use Rattle.kn_h2_state.specs.Limits.{reply_limit, frame_limit}
use Rattle.kn_h2_state.specs.Outgoing.{reply_bytes}
use Rattle.kn_h2_state.specs.Payloads.{content}
use Rattle.kn_h2_state.specs.Streams.{stream_at, on_open}
use Rattle.kn_h2_state.specs.Heads.{is_malformed_request}
use Rattle.kn_h2_state.specs.Rules.{is_client, bytes_so_far, block_with, verdict}
use Rattle.kn_h2_state.specs.Effects.{event, new_stream, if_open, data_of, block_of_headers, head_of, request, accepted, reset_of, settings, ping, goaway, window_update, effect}
use Rattle.kn_h2_state.specs.Moves.{headers_frames}
use Rattle.kn_h2_state.specs.Feeding.{judged, after_frame, after_frames}
use Rattle.kn_h2_state.specs.Calls.{next_number, after_begin}
use Rattle.kn_h2_state.specs.Holding.{Holds, Rising}
use Rattle.kn_h2_state.specs.Laws.{Seen, seen, seen_at}
use Rattle.kn_h2_state.specs.Preorder.{IsOpenIn, IsNewTo}
use Rattle.kn_h2_state.specs.Wire.{frame, grants_in, frame_grant, data_lengths_in, data_length, head_list}
use Rattle.kn_h2_state.proofs.BorneLemmas.{rises, none_above, at_push}
use Rattle.kn_h2_state.proofs.OtherLaws.{either, alike_all_settings, same_ping, same_goaway, frames_leave_others}
use Rattle.kn_h2_state.proofs.PieceLaws.{after_frame-judged}
use Rattle.kn_h2_state.proofs.PreorderLaws.{Silent, silent, old_data, old_reset, old_grant, old_head}
use Rattle.kn_h2.proofs.BeginLemmas.{holds_begin}
use Rattle.kn_h2.proofs.HoldsLemmas.{replies_same}
use Rattle.kn_h2.specs.Written.{begin_list}
use Rattle.kn_facing.specs.Facing.{emptied, IsFollowed, Awaits, IsTaken, AreTaken, asks, asking}
use Rattle.kn_facing.specs.Laws.{AreTakenToo}
use Rattle.kn_facing.specs.Sums.{MayCome, MayGo}
use Rattle.kn_facing.specs.Faces.{all_lengths, IsEnd, Faces, IsStep, BeginKeepsFaces}
use Rattle.kn_facing.proofs.CarryLemmas.{holds_emptied, none_waits}
use Rattle.kn_facing.proofs.FaceLemmas.{Known, Runs, runs}
use Rattle.kn_facing.proofs.MoveTaken.{Knows, knows}
use Rattle.kn_facing.proofs.OwnSumLemmas.{calls_leave_both}
use Rattle.kn_facing.proofs.ReadStep.{one_taken}
use Rattle.kn_facing.proofs.RoomLemmas.{Replied, most, few_replies, Keeps}
use Rattle.kn_facing.proofs.SteadyLemmas.{Steady, steady_frame}
use Rattle.kn_facing.proofs.StepLemmas.{steps_keep_faces, taken_back}
use Rattle.kn_facing.proofs.UnendedLemmas.{one_goes_on}
use Rattle.kn_facing.proofs.TakenLemmas.{content_is, request_is_taken}

-- ---- what is on its way leaves a stream as it is that was not begun when it was written

chosen : (P : State → Type 0) (b : Bool) (x y : State) → (b ≡ true → P x) → (b ≡ false → P y) → P (if b then x else y)
chosen P true x y p q = p refl
chosen P false x y p q = q refl

first_kind : (a b : Bool) → (a || b) ≡ true → b ≡ false → a ≡ true
first_kind true b e g = refl
first_kind false b e g = absurd (contrary b e g)
  where
    contrary : (b : Bool) → b ≡ true → b ≡ false → ⊥
    contrary b e g = cc

seen_effect : (x y : State) (f : Frame) → verdict x f ≡ None → is_client x.role ≡ true → x.opened < f.stream → (f.kind == 9) ≡ false → seen_at (effect y f) f.stream ≡ seen_at y f.stream
unfolding effect
seen_effect x y f v client above whole =
    chosen P (f.kind == 0) (data_of f y (stream_at y.streams f.stream)) _ (λ e. absurd (old_data x f q.streams e above))
    (λ _. chosen P ((f.kind == 1) || (f.kind == 9)) (block_of_headers f y) _ (λ e. absurd (old_head x f q.streams (first_kind (f.kind == 1) (f.kind == 9) e whole) client above))
    (λ _. chosen P (f.kind == 3) (if_open (stream_at y.streams f.stream) y (λ st. reset_of f st y)) _ (λ e. absurd (old_reset x f q.streams e above))
    (λ _. either P (f.kind == 4) (settings f y) _ (alike_all_settings f f.stream y)
    (either P (f.kind == 6) (ping f y) _ (ap seen (same_ping f f.stream y))
    (either P (f.kind == 7) (goaway f y) _ (ap seen (same_goaway f f.stream y))
    (chosen P (f.kind == 8) (window_update f y) y (λ e. absurd (old_grant x f q.streams e above)) (λ _. refl)))))))
  where
    q : Silent x f
    q = silent x f v

    P : State → Type 0
    P z = seen_at z f.stream ≡ seen_at y f.stream

seen_frame : (x y : State) (f : Frame) (m : ℕ) → verdict x f ≡ None → is_client x.role ≡ true → x.opened < m → (f.kind == 9) ≡ false → Holds y → y.failed ≡ None → verdict y f ≡ None
    → seen_at (after_frame y f) m ≡ seen_at y m
seen_frame x y f m v client above whole holds on w = by_test (eqb f.stream m) refl
  where
    to : after_frame y f ≡ effect (record y { began = true }) f
    to = after_frame-judged y f on ∙ ap (λ o. judged y f o) w

    by_test : (b : Bool) → eqb f.stream m ≡ b → seen_at (after_frame y f) m ≡ seen_at y m
    by_test false e = frames_leave_others y f m holds (eqb-false f.stream m e)
    by_test true e =
        let same : f.stream ≡ m = eqb-true f.stream m e in
        subst (λ (k : ℕ). seen_at (after_frame y f) k ≡ seen_at y k) same
        (ap (λ (z : State). seen_at z f.stream) to ∙ seen_effect x (record y { began = true }) f v client (subst (λ (k : ℕ). x.opened < k) (sym same) above) whole)

seen_run : Keeps → (x y : State) (fs : List Frame) (m : ℕ) → is_client x.role ≡ true → x.opened < m → x.failed ≡ None → y.failed ≡ None → Holds y → AllByRecursion IsWithinLimits fs → AreTaken x fs → AreTaken y fs
    → reply_bytes x.out + 17 * asking fs ≤ reply_limit → reply_bytes y.out + 17 * asking fs ≤ reply_limit → seen_at (after_frames y fs) m ≡ seen_at y m
unfolding after_frames AreTaken asking
seen_run keep x y [] m client above on on' holds limits a b room room' = refl
seen_run keep x y (f ∷ fs) m client above on on' holds limits a b room room' =
    let one : Replied (most (asks f)) x (after_frame x f) = few_replies x f on a.0.kept (omega (arith, room)) in
    let two : Replied (most (asks f)) y (after_frame y f) = few_replies y f on' b.0.kept (omega (arith, room')) in
    let few = one.few in
    let few' = two.few in
    let steady : Steady x (after_frame x f) = steady_frame x f on a.0.kept a.0.plain in
    let same = steady.opened client in
    seen_run keep (after_frame x f) (after_frame y f) fs m (ap is_client steady.role ∙ client) (omega (arith, same, above)) one.goes two.goes (keep y f holds limits.0) limits.1 a.1 b.1
    (omega (arith, room, few)) (omega (arith, room', few'))
    ∙ seen_frame x y f m a.0.kept client above a.0.plain.whole holds on' b.0.kept

-- ---- the head

pub after_one : (u : State) (f : Frame) → after_frames u (f ∷ []) ≡ after_frame u f
unfolding after_frames
after_one u f = refl

pub head_frames : (n flags : ℕ) (block : List ℕ) → length block ≤ frame_limit → head_list n flags block ≡ frame 1 (flags + 4) n block ∷ []
unfolding head_list
head_frames n flags block short = rw (le-leb (length block) frame_limit short) refl

abbrev after_request : State → ℕ → List Field → State
after_request u n fields = event (record u { began = true; block = None; decoder = no_table; opened = n; streams = new_stream n u ∷ [] }) (Opened n fields)

requested : (u : State) (n : ℕ) (block : List ℕ) (fields : List Field) → u.block ≡ None → read_block u.decoder block ≡ Ok (progress no_table fields) → is_client u.role ≡ false → nat_lt u.opened n ≡ true
    → u.streams ≡ [] → is_malformed_request fields ≡ false → effect (record u { began = true }) (frame 1 4 n block) ≡ after_request u n fields
unfolding effect block_of_headers head_of request accepted
requested u n block fields none reads server above streams formed = rw (none, content_is n block, reads, server, above, streams, formed) refl

-- ---- the step

-- what a new stream is
abbrev IsFresh : Option Stream → Type 0
IsFresh o = IfSome o (λ st. (st.peer_open ≡ true) × (st.answered ≡ false))

peer_of : Option Seen → Bool
peer_of None = true
peer_of (Some s) = s.peer_open

answered_of : Option Seen → Bool
answered_of None = false
answered_of (Some s) = s.answered

fresh_seen : (st : Stream) (o : Option Stream) → seen (Some st) ≡ seen o → IsFresh o → (st.peer_open ≡ true) × (st.answered ≡ false)
unfolding peer_of answered_of
fresh_seen st None e h = let gone : seen (Some st) ≡ None = e in absurd cc
fresh_seen st (Some c) e h = (ap peer_of e ∙ h.0, ap answered_of e ∙ h.1)

up_to : (low high : ℕ) (ss : List Stream) → Rising low high ss → low ≤ high
unfolding Rising
up_to low high [] r = r
up_to low high (st ∷ ss) (above, odd, r) = let rest = up_to st.number high ss r in omega (arith, rest, above)

none_up_to : (high : ℕ) (ss : List Stream) → high ≡ 0 → Rising 0 high ss → ss ≡ []
unfolding Rising
none_up_to high [] e r = refl
none_up_to high (st ∷ ss) e (low, odd, r) = let up = up_to st.number high ss r in absurd (omega (arith, e, up, low))

no_streams : (s : State) → Holds s → s.opened ≡ 0 → s.streams ≡ []
no_streams s holds none = none_up_to s.opened s.streams none holds.rising

is_first : (a : State) → a.opened ≡ 0 → next_number a ≡ 1
is_first a none = ap (λ (k : ℕ). if k == 0 then 1 else k + 2) none

same_less : (x : ℤ) → x ≡ (x +ℤ pos 0)
same_less x = omega (arith, ints)

same_minus : (x : ℤ) → x ≡ (x -ℤ pos 0)
same_minus x = omega (arith, ints)

none_at : (n : ℕ) → on_open [] n (λ st. true) ≡ false
unfolding stream_at
none_at n = refl

none_in : (m : ℕ) → IfSome (stream_at [] m) (λ st. st.peer_open ≡ true)
unfolding stream_at
none_in m = tt

malformed_in : Result Progress HpackFault → Bool
malformed_in (Ok p) = is_malformed_request p.fields
malformed_in (Err e) = false

pub begin_keeps_faces : Known → NextIsRead → BeginKeepsFaces
unfolding after_begin grants_in frame_grant data_lengths_in data_length all_lengths malformed_in
begin_keeps_faces k next a b ab ba fields h client none formed one room =
    subst (λ (fs : List Frame). Faces t b (ab ++ fs) ba) (sym frames)
    (steps_keep_faces k a b t (head ∷ []) ab ba h step waits still_room (subst (λ (fs : List Frame). reply_bytes b.out + 17 * asking (ab ++ fs) ≤ 32768) frames room))
  where
    n : ℕ
    n = next_number a

    block : List ℕ
    block = block_of a.encoder fields

    head : Frame
    head = frame 1 4 n block

    t : State
    t = after_begin fields a

    u : State
    u = after_frames (emptied b) ab

    w : Knows a u
    w = knows k a b ab ba h

    frames : begin_list a fields ≡ head ∷ []
    frames = head_frames n 0 block one.short

    is_one : n ≡ 1
    is_one = is_first a none

    server : is_client u.role ≡ false
    server = w.other ∙ ap not client

    known : u.opened ≡ 0
    known = w.followed.opened client ∙ none

    empty : u.streams ≡ []
    empty = no_streams u w.holds known

    reads : read_block u.decoder block ≡ Ok (progress no_table fields)
    reads = next a.encoder u.decoder fields one.small w.followed.decoder

    whole : block_with u head ≡ block
    whole = ap (λ (o : Option Block). bytes_so_far o ++ content head) w.followed.block ∙ content_is n block

    closed : on_open u.streams n (λ st. true) ≡ false
    closed = ap (λ (ss : List Stream). on_open ss n (λ st. true)) empty ∙ nowhere
      where
        nowhere : on_open [] n (λ st. true) ≡ false
        nowhere = none_at n

    odd : (n % 2 == 0) ≡ false
    odd = ap (λ (j : ℕ). j % 2 == 0) is_one

    fields_of : (p : Progress) → read_block u.decoder (block_with u head) ≡ Ok p → is_malformed_request p.fields ≡ false
    fields_of p e = ap (λ (r : Result Progress HpackFault). malformed_in r) (sym (sym reads ∙ (ap (λ (l : List ℕ). read_block u.decoder l) (sym whole) ∙ e))) ∙ formed

    taken : IsTaken u head
    taken = record {
      kept = request_is_taken u n block (record {
        block = record { listens = record { began = w.followed.began; block = w.followed.block }; odd = odd; small = let short = one.short in omega (arith, short); progress = progress no_table fields; reads = reads };
        server = server;
        once = closed;
      });
      plain = record { whole = refl; silent = refl; windows = λ e. absurd cc };
      head = λ e p r. record { request = λ s. fields_of p r; response = λ c waiting. absurd (contrary c server) };
    }
      where
        contrary : is_client u.role ≡ true → is_client u.role ≡ false → ⊥
        contrary c d = cc

    low : nat_lt u.opened n ≡ true
    low = ap (λ (j : ℕ). nat_lt j n) known ∙ ap (λ (j : ℕ). nat_lt 0 j) is_one

    after : after_frame u head ≡ after_request u n fields
    after = after_frame-judged u head w.goes ∙ (ap (λ o. judged u head o) taken.kept ∙ requested u n block fields w.followed.block reads server low empty formed)

    new_there : (m : ℕ) → IfSome (stream_at (new_stream n u ∷ []) m) (λ st. st.peer_open ≡ true)
    new_there m = at_push (λ (o : Option Stream). IfSome o (λ st. st.peer_open ≡ true)) [] m (new_stream n u) (λ e. refl) (none_in m)

    no_client : is_client u.role ≡ true → ⊥
    no_client c = contrary server c
      where
        contrary : is_client u.role ≡ false → is_client u.role ≡ true → ⊥
        contrary d e = cc

    followed : IsFollowed t (after_request u n fields)
    followed = record {
      began = refl;
      block = refl;
      decoder = refl;
      halves = λ m x y at own there up. subst (λ (o : Option Stream). IfSome o (λ st. st.peer_open ≡ true)) there (new_there m);
      heads = λ c m x y at there up. absurd (no_client c);
      opened = λ c. refl;
      begun = λ c. absurd (no_client c);
    }

    still : IsEnd t
    still = record {
      holds = holds_begin fields a (omega (arith, is_one)) h.end_a.holds;
      facts = (k.facts a h.end_a.holds h.end_a.facts).begin fields;
      goes = h.end_a.goes;
      initial = h.end_a.initial;
      one = omega (arith, is_one);
      first = λ s m st at e. absurd (contrary s);
    }
      where
        contrary : is_client a.role ≡ false → ⊥
        contrary s = cc

    step : IsStep a t (head ∷ []) u
    step = record {
      still = still;
      role = refl;
      hears = (k.steps a h.end_a.holds h.end_a.facts.known).begin fields client;
      limits = (record { payload = one.short; stream = omega (arith, is_one) }, tt);
      taken = one_taken u head taken;
      ends = λ m g. one_goes_on m head refl;
      followed = subst (λ (v : State). IsFollowed t v) (sym (after_one u head ∙ after)) followed;
      awaits = subst (λ (v : State). Awaits t v) (sym (after_one u head ∙ after)) (λ c m y below at up. absurd (no_client c));
      goes = λ m x g. subst (λ (z : ℤ). MayGo a m z) (same_less x) (((calls_leave_both a 0 m h.end_a.holds).begin fields h.end_a.initial).goes x g);
      comes = λ m y g. subst (λ (z : ℤ). MayCome a m z) (same_minus y) (((calls_leave_both a 0 m h.end_a.holds).begin fields h.end_a.initial).comes y g);
      all_goes = same_less a.send;
      all_comes = same_less a.receive;
    }

    still_room : reply_bytes t.out + 17 * asking ba ≤ 32768
    still_room = let same = replies_same a.out (headers_frames n 0 block) in let few = h.to_a.replies in omega (arith, same, few)

    back : AreTakenToo (emptied a) (emptied t) ba
    back = taken_back k a b t ab ba h still step.hears

    run : Runs (emptied a) ba
    run = runs k.keep (emptied a) ba (holds_emptied a h.end_a.holds) h.end_a.goes h.to_a.limits h.to_a.taken (let empty_out = none_waits in let few = h.to_a.replies in omega (arith, empty_out, few))

    fresh_at : (m : ℕ) → a.opened < m → IsFresh (stream_at t.streams m)
    fresh_at m above =
        at_push IsFresh a.streams m (new_stream n a) (λ e. (refl, refl))
        (subst IsFresh (sym (none_above 0 a.opened m a.streams (rises 0 a.opened a.streams h.end_a.holds.rising) above)) tt)

    waits : Awaits b (after_frames (emptied t) ba)
    waits c m y below at up = by_case (back.more.streams m y at up)
      where
        here : is_client (after_frames (emptied a) ba).role ≡ true
        here = ap is_client run.steady.role ∙ client

        by_case : IsOpenIn (after_frames (emptied a) ba) m y ⊎ IsNewTo (after_frames (emptied a) ba) (after_frames (emptied t) ba) m y → (y.peer_open ≡ true) × (y.answered ≡ false)
        by_case (inl (x, was, open_x, much)) = let v = h.to_a.awaits here m x below was open_x in (much.half ∙ v.0, much.head here ∙ v.1)
        by_case (inr (c', above, less)) =
            let same = run.steady.opened client in
            let low : a.opened < m = omega (arith, same, above) in
            let room = none_waits in let few = h.to_a.replies in
            let all : seen_at (after_frames (emptied t) ba) m ≡ seen_at (emptied t) m =
            seen_run k.keep (emptied a) (emptied t) ba m client low h.end_a.goes still.goes (holds_emptied t still.holds) h.to_a.limits h.to_a.taken back.taken (omega (arith, room, few)) (omega (arith, room, few)) in
            fresh_seen y (stream_at t.streams m) (ap seen (sym at) ∙ all) (fresh_at m low)
