-- A server ends its half of a stream, and tells a client that goes on to stop.
use Rattle.std.proofs.Common.{◌≡◌, ◌≢◌, ◌<◌, ◌%◌, ◌&&◌, ◌||◌, ℕ, Bool, true, false, not, eqb, List, [], ◌∷◌, Option, Some, None, IfSome, Ok, is_some, refl, sym, ap, ◌∙◌, subst, arith, if◌then◌else◌}
use Rattle.std.specs.Prelude.{◌==◌}
use Rattle.std.specs.Int.{to_be_bytes, w32}
use Rattle.std.proofs.lemmas.Bool.{eqb-true, eqb-false}
use Rattle.kn_frames.specs.declared.frame.Frame.{Frame}
use Rattle.kn_hpack.specs.Fields.{Field}
use Rattle.kn_hpack.specs.Blocks.{progress, read_block}
use Rattle.kn_hpack.specs.Encoding.{block_of}
use Rattle.kn_h2_state.specs.declared.event.H2Event.TheVariants.{Ended}
use Rattle.kn_h2_state.specs.declared.moves.Move.{Move}
use Rattle.kn_h2_state.specs.declared.moves.Move.TheVariants.{End, Stop}
use Rattle.kn_h2_state.specs.declared.stream.Stream.{Stream}
use Rattle.kn_h2_state.specs.declared.state.State.{State}
use Rattle.kn_h2_state.specs.InStep.{no_table, IsInStep, NextIsRead}
use Rattle.kn_h2_state.specs.Outgoing.{reply_bytes}
use Rattle.kn_h2_state.specs.Payloads.{number_at}
use Rattle.kn_h2_state.specs.Streams.{stream_at, change, tidied, is_open, on_open, shut}
use Rattle.kn_h2_state.specs.Rules.{is_client}
use Rattle.kn_h2_state.specs.Effects.{event, on_stream, if_open, block_of_headers, head_of, response, peer_ends, reset_of, cut_off, effect}
use Rattle.kn_h2_state.specs.Feeding.{judged, after_frame, after_frames}
use Rattle.kn_h2_state.specs.Moves.{may, can_end, can_stop, made, after_move, own_ended, end_frames}
use Rattle.kn_h2_state.specs.Holding.{Holds}
use Rattle.kn_h2_state.specs.Laws.{seen, seen_at}
use Rattle.kn_h2_state.specs.Wire.{frame, head_list, end_list, made_frames, move_frames}
use Rattle.kn_h2_state.proofs.BorneLemmas.{rises, climbing, rises_change, at_tidied}
use Rattle.kn_h2_state.proofs.OtherLaws.{frames_leave_others, moves_leave_others}
use Rattle.kn_h2_state.proofs.PieceLaws.{after_frame-judged}
use Rattle.kn_h2_state.proofs.SeenLemmas.{Climbs, at_changed}
use Rattle.kn_h2.proofs.FoundLemmas.{IsFound, found_open}
use Rattle.kn_h2.proofs.HoldsLemmas.{replies_same}
use Rattle.kn_h2.proofs.MoveLemmas.{move_parts, IsEndable, end_parts}
use Rattle.kn_facing.specs.Facing.{emptied, IsFollowed, Awaits, IsTaken, AreTaken, asking}
use Rattle.kn_facing.specs.Faces.{IsOneFrame, EndKeepsFaces, StopKeepsFaces}
use Rattle.kn_facing.proofs.AheadLemmas.{no_open, is_not_idle, odd_at, not_even}
use Rattle.kn_facing.proofs.AnswerStep.{alike, read_head}
use Rattle.kn_facing.proofs.BeginStep.{after_one, head_frames}
use Rattle.kn_facing.proofs.FaceLemmas.{Known}
use Rattle.kn_facing.proofs.FollowedLemmas.{is_known}
use Rattle.kn_facing.proofs.ListSums.{asking-append}
use Rattle.kn_facing.proofs.MoveStep.{Moving, MoveTaken, move_step}
use Rattle.kn_facing.proofs.MoveTaken.{Knows, knows, not_zero}
use Rattle.kn_facing.proofs.OwnSumLemmas.{move_opened}
use Rattle.kn_facing.proofs.ReadStep.{one_taken}
use Rattle.kn_facing.proofs.StepLemmas.{steps_keep_faces, awaits_back}
use Rattle.kn_facing.proofs.TakenLemmas.{content_last, trailers_are_taken, reset_is_taken}

pub climbs_changed : (s : State) (n : ℕ) (f : Stream → Stream) → ((st : Stream) → (f st).number ≡ st.number) → Holds s → Climbs 0 (change s.streams n f)
climbs_changed s n f number holds = climbing 0 s.opened (change s.streams n f) (rises_change 0 s.opened s.streams n f number (rises 0 s.opened s.streams holds.rising))

-- ---- one stream changes at both ends

pub record Changes (s t u v : State) (n : ℕ) : Type 0 where
  pub here : Stream
  pub found : stream_at s.streams n ≡ Some here
  pub own : (m : ℕ) → n ≢ m → stream_at t.streams m ≡ stream_at s.streams m
  pub other : (m : ℕ) → n ≢ m → seen_at v m ≡ seen_at u m
  pub opened : t.opened ≡ s.opened
  pub role : t.role ≡ s.role
  pub began : v.began ≡ true
  pub block : v.block ≡ None
  pub decoder : IsInStep t.encoder v.decoder
  pub kind : v.role ≡ u.role
  pub there : v.opened ≡ u.opened
  pub half : (x y : Stream) → stream_at t.streams n ≡ Some x → x.own_open ≡ true → stream_at v.streams n ≡ Some y → is_open y ≡ true → y.peer_open ≡ true
  pub head : is_client u.role ≡ true → (x y : Stream) → stream_at t.streams n ≡ Some x → stream_at v.streams n ≡ Some y → is_open y ≡ true → y.answered ≡ x.answered

changes_followed : (s t u v : State) (n : ℕ) → Knows s u → Changes s t u v n → IsFollowed t v
changes_followed s t u v n w c = record {
  began = c.began;
  block = c.block;
  decoder = c.decoder;
  halves = λ m x y at own there up. half m x y at own there up (eqb n m) refl;
  heads = λ client m x y at there up. heads (here client) m x y at there up (eqb n m) refl;
  opened = λ client. c.there ∙ (w.followed.opened (ap is_client (sym c.role) ∙ client) ∙ sym c.opened);
  begun = λ client. let low = w.followed.begun (here client) in let same = c.there in let mine = c.opened in omega (arith, low, same, mine);
}
  where
    here : is_client v.role ≡ true → is_client u.role ≡ true
    here client = ap is_client (sym c.kind) ∙ client

    half : (m : ℕ) (x y : Stream) → stream_at t.streams m ≡ Some x → x.own_open ≡ true → stream_at v.streams m ≡ Some y → is_open y ≡ true → (b : Bool) → eqb n m ≡ b → y.peer_open ≡ true
    half m x y at own there up true e =
        let same : n ≡ m = eqb-true n m e in
        c.half x y (subst (λ (j : ℕ). stream_at t.streams j ≡ Some x) (sym same) at) own (subst (λ (j : ℕ). stream_at v.streams j ≡ Some y) (sym same) there) up
    half m x y at own there up false e =
        let other = eqb-false n m e in
        let g = alike y (stream_at u.streams m) (ap seen (sym there) ∙ c.other m other) in
        g.2.peer ∙ w.followed.halves m x g.0 (sym (c.own m other) ∙ at) own g.1 (g.2.up ∙ up)

    heads : is_client u.role ≡ true → (m : ℕ) (x y : Stream) → stream_at t.streams m ≡ Some x → stream_at v.streams m ≡ Some y → is_open y ≡ true → (b : Bool) → eqb n m ≡ b → y.answered ≡ x.answered
    heads client m x y at there up true e =
        let same : n ≡ m = eqb-true n m e in
        c.head client x y (subst (λ (j : ℕ). stream_at t.streams j ≡ Some x) (sym same) at) (subst (λ (j : ℕ). stream_at v.streams j ≡ Some y) (sym same) there) up
    heads client m x y at there up false e =
        let other = eqb-false n m e in
        let g = alike y (stream_at u.streams m) (ap seen (sym there) ∙ c.other m other) in
        g.2.head ∙ w.followed.heads client m x g.0 (sym (c.own m other) ∙ at) g.1 (g.2.up ∙ up)

changes_awaits : (s t u v : State) (n : ℕ) → Knows s u → Changes s t u v n → Awaits t v
changes_awaits s t u v n w c client m y low there up = by_test (eqb n m) refl
  where
    above : s.opened < m
    above = subst (λ (j : ℕ). j < m) c.opened low

    by_test : (b : Bool) → eqb n m ≡ b → (y.peer_open ≡ true) × (y.answered ≡ false)
    by_test true e = absurd (is_known s.opened m s.streams c.here w.own.holds.rising (subst (λ (j : ℕ). stream_at s.streams j ≡ Some c.here) (eqb-true n m e) c.found) above)
    by_test false e =
        let g = alike y (stream_at u.streams m) (ap seen (sym there) ∙ c.other m (eqb-false n m e)) in
        let z = w.awaits (ap is_client (sym c.kind) ∙ client) m g.0 above g.1 (g.2.up ∙ up) in
        (g.2.peer ∙ z.0, g.2.head ∙ z.1)

pub as_move : (s : State) (m : Move) (u v : State) (n : ℕ) (f : Frame) → Knows s u → move_frames s m ≡ f ∷ [] → IsTaken u f → after_frame u f ≡ v → Changes s (after_move s m) u v n → MoveTaken s m u
as_move s m u v n f w e taken after c = record {
  taken = subst (λ (fs : List Frame). AreTaken u fs) (sym e) (one_taken u f taken);
  followed = subst (λ (fs : List Frame). IsFollowed (after_move s m) (after_frames u fs)) (sym e) (subst (λ (z : State). IsFollowed (after_move s m) z) (sym (after_one u f ∙ after)) (changes_followed s (after_move s m) u v n w c));
  awaits = subst (λ (fs : List Frame). Awaits (after_move s m) (after_frames u fs)) (sym e) (subst (λ (z : State). Awaits (after_move s m) z) (sym (after_one u f ∙ after)) (changes_awaits s (after_move s m) u v n w c));
}

-- ---- RST_STREAM

abbrev IsShut : Option Stream → Type 0
IsShut o = IfSome o (λ y. is_open y ≡ false)

abbrev reset : ℕ → Frame
reset n = frame 3 0 n (to_be_bytes w32 0)

abbrev cut : Stream → Stream
cut c = record (shut c) { text = [] }

abbrev pub begun : State → State
begun u = record u { began = true }

record IsCut (u v : State) (n : ℕ) : Type 0 where
  began : v.began ≡ true
  block : v.block ≡ u.block
  decoder : v.decoder ≡ u.decoder
  opened : v.opened ≡ u.opened
  gone : IsShut (stream_at v.streams n)

is_cut : (u : State) (n : ℕ) → Holds u → IsCut u (effect (begun u) (reset n)) n
unfolding effect reset_of cut_off
is_cut u n holds = by_found (stream_at u.streams n) refl
  where
    f : Frame
    f = reset n

    gone_by : (g : Stream → Stream) → ((st : Stream) → (g st).number ≡ st.number) → ((st : Stream) → is_open (g st) ≡ false) → (c : Stream) → stream_at u.streams n ≡ Some c → IsShut (stream_at (tidied (change u.streams n g)) n)
    gone_by g number closes c at = at_tidied IsShut 0 n (change u.streams n g) (λ st k h. tt) (climbs_changed u n g number holds) (subst IsShut (sym (at_changed u.streams n g c number at)) (closes c))

    by_kind : (b : Bool) (c : Stream) → stream_at u.streams n ≡ Some c → IsCut u (if b then on_stream n shut (begun u) else cut_off n (number_at f.payload 0) c (begun u)) n
    by_kind true c at = record { began = refl; block = refl; decoder = refl; opened = refl; gone = gone_by shut (λ st. refl) (λ st. refl) c at }
    by_kind false c at = record { began = refl; block = refl; decoder = refl; opened = refl; gone = gone_by cut (λ st. refl) (λ st. refl) c at }

    by_open : (b : Bool) (c : Stream) → is_open c ≡ b → stream_at u.streams n ≡ Some c → IsCut u (if b then reset_of f c (begun u) else begun u) n
    by_open true c e at = by_kind (is_client u.role && (number_at f.payload 0 == 0) && not c.peer_open) c at
    by_open false c e at = record { began = refl; block = refl; decoder = refl; opened = refl; gone = subst IsShut (sym at) e }

    by_found : (o : Option Stream) → stream_at u.streams n ≡ o → IsCut u (if_open o (begun u) (λ c. reset_of f c (begun u))) n
    by_found None at = record { began = refl; block = refl; decoder = refl; opened = refl; gone = subst IsShut (sym at) tt }
    by_found (Some c) at = by_open (is_open c) c refl at

stop_encoder : (s : State) (n : ℕ) → (after_move s (Stop n)).encoder ≡ s.encoder
unfolding after_move
stop_encoder s n = by_found (stream_at s.streams n)
  where
    by_found : (o : Option Stream) → (made s (Stop n) o).encoder ≡ s.encoder
    by_found None = refl
    by_found (Some st) = refl

stop_frames : (s : State) (n : ℕ) (st : Stream) → stream_at s.streams n ≡ Some st → move_frames s (Stop n) ≡ reset n ∷ []
unfolding move_frames
stop_frames s n st e = ap (λ (o : Option Stream). made_frames s (Stop n) o) e

stop_taken : Known → (s u : State) (n : ℕ) → Knows s u → is_client s.role ≡ false → may s (Stop n) ≡ true → MoveTaken s (Stop n) u
stop_taken k s u n w server ok =
    as_move s (Stop n) u (after_frame u (reset n)) n (reset n) w (stop_frames s n st here.1.found) taken refl
    (record {
      here = st;
      found = here.1.found;
      own = λ m other. moves_leave_others s (Stop n) m w.own.holds other;
      other = λ m other. frames_leave_others u (reset n) m w.holds other;
      opened = move_opened s (Stop n);
      role = k.roles.move s (Stop n);
      began = ap (λ (z : State). z.began) to ∙ was.began;
      block = ap (λ (z : State). z.block) to ∙ (was.block ∙ w.followed.block);
      decoder = subst (λ (b : Bool). IsInStep b (after_frame u (reset n)).decoder) (sym (stop_encoder s n)) (subst (λ d. IsInStep s.encoder d) (sym (ap (λ (z : State). z.decoder) to ∙ was.decoder)) w.followed.decoder);
      kind = k.roles.frame u (reset n);
      there = ap (λ (z : State). z.opened) to ∙ was.opened;
      half = λ x y at own there up. absurd (closed y there up);
      head = λ _ x y at there up. absurd (closed y there up);
    })
  where
    here : (st : Stream) × IsFound s.streams n can_stop st
    here = found_open s.streams n can_stop (move_parts s (Stop n) ok).due

    st : Stream
    st = here.0

    taken : IsTaken u (reset n)
    taken = record {
      kept = reset_is_taken u n 0 (record { began = w.followed.began; block = w.followed.block }) (not_zero s n st w.own.holds here.1.found) (is_not_idle s u n st w.own.holds w.other w.followed here.1.found);
      plain = record { whole = refl; silent = refl; windows = λ e. absurd cc };
      head = λ e. absurd cc;
    }

    to : after_frame u (reset n) ≡ effect (begun u) (reset n)
    to = after_frame-judged u (reset n) w.goes ∙ ap (λ o. judged u (reset n) o) taken.kept

    was : IsCut u (effect (begun u) (reset n)) n
    was = is_cut u n w.holds

    closed : (y : Stream) → stream_at (after_frame u (reset n)).streams n ≡ Some y → is_open y ≡ true → ⊥
    closed y there up = contrary (subst IsShut (sym (ap (λ (z : State). stream_at z.streams n) to) ∙ there) was.gone)
      where
        contrary : is_open y ≡ false → ⊥
        contrary e = cc

stop_asks : (s : State) (n : ℕ) → asking (move_frames s (Stop n)) ≡ 0
unfolding move_frames asking
stop_asks s n = by_found (stream_at s.streams n)
  where
    by_found : (o : Option Stream) → asking (made_frames s (Stop n) o) ≡ 0
    by_found None = refl
    by_found (Some st) = refl

pub stop_keeps_faces : Known → Moving → StopKeepsFaces
stop_keeps_faces k v a b ab ba n h server ok room =
    let u : State = after_frames (emptied b) ab in
    let step = move_step k v a (Stop n) u h.end_a ok (stop_taken k a u n (knows k a b ab ba h) server ok) in
    steps_keep_faces k a b (after_move a (Stop n)) (move_frames a (Stop n)) ab ba h step (awaits_back k a b (after_move a (Stop n)) ab ba h step.still step.hears (move_opened a (Stop n))) room
    (let nothing = stop_asks a n in let e = asking-append ab (move_frames a (Stop n)) in let few = h.to_b.replies in omega (arith, nothing, e, few))

-- ---- trailers

abbrev pub over : Stream → Stream
over c = record c { peer_open = false }

abbrev with_end : ℕ → State → State
with_end n u = event (on_stream n over (read_head u)) (Ended n)

abbrev ended_state : ℕ → State → Option Stream → State
ended_state n u None = read_head u
ended_state n u (Some c) = if is_open c then with_end n u else read_head u

trailed : (u : State) (n : ℕ) (block : List ℕ) (fields : List Field) (o : Option Stream) → stream_at u.streams n ≡ o → u.block ≡ None → read_block u.decoder block ≡ Ok (progress no_table fields) → is_client u.role ≡ true
    → ((c : Stream) → o ≡ Some c → is_open c ≡ true → c.answered ≡ true) → effect (begun u) (frame 1 5 n block) ≡ ended_state n u o
unfolding effect block_of_headers head_of response peer_ends
trailed u n block fields None at none reads client answered = rw (none, content_last n block, reads, client, at) refl
trailed u n block fields (Some c) at none reads client answered = by_open (is_open c) refl
  where
    by_open : (b : Bool) → is_open c ≡ b → effect (begun u) (frame 1 5 n block) ≡ (if b then with_end n u else read_head u)
    by_open true up = rw (none, content_last n block, reads, client, at, up, answered c refl up) refl
    by_open false shut = rw (none, content_last n block, reads, client, at, shut) refl

-- where the stream is open afterwards, it was so, and has its head as before
abbrev AsBefore : State → ℕ → Option Stream → Type 0
AsBefore u n o = IfSome o (λ y. is_open y ≡ true → (c : Stream) × (stream_at u.streams n ≡ Some c) × (is_open c ≡ true) × (y.answered ≡ c.answered))

as_before : (u : State) (n : ℕ) (o : Option Stream) → Holds u → stream_at u.streams n ≡ o → AsBefore u n (stream_at (ended_state n u o).streams n)
as_before u n None holds at = subst (AsBefore u n) (sym at) tt
as_before u n (Some c) holds at = by_open (is_open c) refl
  where
    contrary : is_open c ≡ false → is_open c ≡ true → ⊥
    contrary a b = cc

    by_open : (b : Bool) → is_open c ≡ b → AsBefore u n (stream_at (if b then with_end n u else read_head u).streams n)
    by_open true up =
        at_tidied (AsBefore u n) 0 n (change u.streams n over) (λ st k h. tt) (climbs_changed u n over (λ st. refl) holds)
        (subst (AsBefore u n) (sym (at_changed u.streams n over c (λ st. refl) at)) (λ open_y. (c, at, up, refl)))
    by_open false shut = subst (AsBefore u n) (sym at) (λ open_y. absurd (contrary shut open_y))

record Heard (u v : State) : Type 0 where
  began : v.began ≡ true
  block : v.block ≡ None
  decoder : v.decoder ≡ no_table
  opened : v.opened ≡ u.opened

heard : (u : State) (n : ℕ) (o : Option Stream) → Heard u (ended_state n u o)
heard u n None = record { began = refl; block = refl; decoder = refl; opened = refl }
heard u n (Some c) = by_open (is_open c)
  where
    by_open : (b : Bool) → Heard u (if b then with_end n u else read_head u)
    by_open true = record { began = refl; block = refl; decoder = refl; opened = refl }
    by_open false = record { began = refl; block = refl; decoder = refl; opened = refl }

-- the server's own half has ended
abbrev pub HasEnded : Stream → Option Stream → Type 0
HasEnded st o = IfSome o (λ x. (x.own_open ≡ false) × (x.answered ≡ st.answered))

record Ends (s t : State) (n : ℕ) (st : Stream) : Type 0 where
  encoder : t.encoder ≡ true
  gone : HasEnded st (stream_at t.streams n)
  out : reply_bytes t.out ≡ reply_bytes s.out

ends : (s : State) (n : ℕ) (st : Stream) → Holds s → is_client s.role ≡ false → stream_at s.streams n ≡ Some st → Ends s (after_move s (End n)) n st
unfolding after_move
ends s n st holds server at = subst (λ (o : Option Stream). Ends s (made s (End n) o) n st) (sym at) (record {
  encoder = ap (λ (b : Bool). s.encoder || not b) server ∙ or_true s.encoder;
  gone = at_tidied (HasEnded st) 0 n (change s.streams n (own_ended (not (is_client s.role)))) (λ x k h. tt) (climbs_changed s n (own_ended (not (is_client s.role))) (λ x. refl) holds)
      (subst (HasEnded st) (sym (at_changed s.streams n (own_ended (not (is_client s.role))) st (λ x. refl) at)) (refl, refl));
  out = replies_same s.out (end_frames s n st.finish);
})
  where
    or_true : (b : Bool) → (b || true) ≡ true
    or_true true = refl
    or_true false = refl

pub end_frames_of : (s : State) (n : ℕ) (st : Stream) (trailers : List Field) → is_client s.role ≡ false → stream_at s.streams n ≡ Some st → st.finish ≡ Some trailers → move_frames s (End n) ≡ head_list n 1 (block_of s.encoder trailers)
unfolding move_frames
end_frames_of s n st trailers server at finish =
    ap (λ (o : Option Stream). made_frames s (End n) o) at ∙ (ap (λ (o : Option (List Field)). end_list s n o) finish ∙ ap (λ (b : Bool). if b then frame 0 1 n [] ∷ [] else head_list n 1 (block_of s.encoder trailers)) server)

pub some_finish : (o : Option (List Field)) → is_some o ≡ true → (trailers : List Field) × (o ≡ Some trailers)
some_finish None e = absurd cc
some_finish (Some trailers) e = (trailers, refl)

end_taken : Known → NextIsRead → (s u : State) (n : ℕ) → Knows s u → is_client s.role ≡ false → may s (End n) ≡ true
    → ((st : Stream) (trailers : List Field) → stream_at s.streams n ≡ Some st → st.finish ≡ Some trailers → IsOneFrame s.encoder trailers) → MoveTaken s (End n) u
end_taken k next s u n w server ok short =
    as_move s (End n) u v n head w (end_frames_of s n st trailers server here.1.found has.1 ∙ head_frames n 1 block one.short) taken after
    (record {
      here = st;
      found = here.1.found;
      own = λ m other. moves_leave_others s (End n) m w.own.holds other;
      other = λ m other. ap (λ (z : State). seen_at z m) (sym after) ∙ frames_leave_others u head m w.holds other;
      opened = move_opened s (End n);
      role = k.roles.move s (End n);
      began = now.began;
      block = now.block;
      decoder = subst (λ (b : Bool). IsInStep b v.decoder) (sym done.encoder) now.decoder;
      kind = ap (λ (z : State). z.role) (sym after) ∙ k.roles.frame u head;
      there = now.opened;
      half = λ x y at own there up. absurd (ended x at own);
      head = λ _ x y at there up. let g = subst (AsBefore u n) there (as_before u n (stream_at u.streams n) w.holds refl) up in
          g.3 ∙ (w.followed.heads client n st g.0 here.1.found g.1 g.2 ∙ sym (subst (HasEnded st) at done.gone).1);
    })
  where
    here : (st : Stream) × IsFound s.streams n can_end st
    here = found_open s.streams n can_end (move_parts s (End n) ok).due

    st : Stream
    st = here.0

    parts : IsEndable st
    parts = end_parts st here.1.passed

    has : (trailers : List Field) × (st.finish ≡ Some trailers)
    has = some_finish st.finish parts.asked

    trailers : List Field
    trailers = has.0

    one : IsOneFrame s.encoder trailers
    one = short st trailers here.1.found has.1

    block : List ℕ
    block = block_of s.encoder trailers

    head : Frame
    head = frame 1 5 n block

    client : is_client u.role ≡ true
    client = w.other ∙ ap not server

    answered : st.answered ≡ true
    answered = by_answer st.answered refl
      where
        contrary : st.finish ≡ None → ⊥
        contrary e = let f : st.finish ≡ Some trailers = has.1 in cc

        by_answer : (b : Bool) → st.answered ≡ b → b ≡ true
        by_answer true e = refl
        by_answer false e = absurd (contrary (w.own.first server n st here.1.found e).1)

    reads : read_block u.decoder block ≡ Ok (progress no_table trailers)
    reads = next s.encoder u.decoder trailers one.small w.followed.decoder

    has_it : (c : Stream) → stream_at u.streams n ≡ Some c → is_open c ≡ true → c.answered ≡ true
    has_it c at up = w.followed.heads client n st c here.1.found at up ∙ answered

    none_waits : on_open u.streams n (λ c. not c.answered) ≡ false
    none_waits = no_open u.streams n (λ c. not c.answered) (λ c at up. ap not (has_it c at up))

    taken : IsTaken u head
    taken = record {
      kept = trailers_are_taken u n block (record {
        block = record {
          listens = record { began = w.followed.began; block = w.followed.block };
          odd = not_even (n % 2) (odd_at 0 s.opened n s.streams st w.own.holds.rising here.1.found);
          small = let fits = one.short in omega (arith, fits);
          progress = progress no_table trailers;
          reads = reads;
        };
        known = is_not_idle s u n st w.own.holds w.other w.followed here.1.found;
        half = no_open u.streams n (λ c. not c.peer_open) (λ c at up. ap not (w.followed.halves n st c here.1.found parts.own at up));
      });
      plain = record { whole = refl; silent = refl; windows = λ e. absurd cc };
      head = λ e p r. record { request = λ z. absurd (roles client z); response = λ z waiting. absurd (both none_waits waiting) };
    }
      where
        roles : is_client u.role ≡ true → is_client u.role ≡ false → ⊥
        roles c d = cc

        both : on_open u.streams n (λ c. not c.answered) ≡ false → on_open u.streams n (λ c. not c.answered) ≡ true → ⊥
        both c d = cc

    v : State
    v = ended_state n u (stream_at u.streams n)

    after : after_frame u head ≡ v
    after = after_frame-judged u head w.goes ∙ (ap (λ o. judged u head o) taken.kept ∙ trailed u n block trailers (stream_at u.streams n) refl w.followed.block reads client has_it)

    now : Heard u v
    now = heard u n (stream_at u.streams n)

    done : Ends s (after_move s (End n)) n st
    done = ends s n st w.own.holds server here.1.found

    ended : (x : Stream) → stream_at (after_move s (End n)).streams n ≡ Some x → x.own_open ≡ true → ⊥
    ended x at own = contrary (subst (HasEnded st) at done.gone).0
      where
        contrary : x.own_open ≡ false → ⊥
        contrary e = cc

pub end_keeps_faces : Known → Moving → NextIsRead → EndKeepsFaces
end_keeps_faces k v next a b ab ba n h server ok short room_b =
    let u : State = after_frames (emptied b) ab in
    let step = move_step k v a (End n) u h.end_a ok (end_taken k next a u n (knows k a b ab ba h) server ok short) in
    let here = found_open a.streams n can_end (move_parts a (End n) ok).due in
    let done = ends a n here.0 h.end_a.holds server here.1.found in
    steps_keep_faces k a b (after_move a (End n)) (move_frames a (End n)) ab ba h step (awaits_back k a b (after_move a (End n)) ab ba h step.still step.hears (move_opened a (End n)))
    (let same = done.out in let few = h.to_a.replies in omega (arith, same, few)) room_b
