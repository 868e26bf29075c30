-- A server answers a stream.
use Rattle.std.proofs.Common.{◌≡◌, ◌≢◌, ◌<◌, ◌≤◌, ◌+◌, ◌*◌, ◌%◌, ℤ, pos, ◌+ℤ◌, ◌-ℤ◌, ◌&&◌, ◌||◌, ℕ, Bool, true, false, not, eqb, nat_lt, length, List, [], ◌∷◌, ◌++◌, Option, Some, None, IfSome, Result, Ok, Err, refl, sym, ap, ◌∙◌, subst, arith, if◌then◌else◌}
use Rattle.std.specs.Prelude.{is_none}
use Rattle.std.proofs.lemmas.Int.{ints}
use Rattle.std.proofs.lemmas.Bool.{eqb-true, eqb-false, and_parts, ltb-true}
use Rattle.kn_frames.specs.declared.frame.Frame.{Frame}
use Rattle.kn_hpack.specs.Fields.{Field}
use Rattle.kn_hpack.specs.Blocks.{Progress, progress, read_block}
use Rattle.kn_hpack.specs.Encoding.{block_of}
use Rattle.kn_hpack.specs.declared.fault.HpackFault.{HpackFault}
use Rattle.kn_h2_state.specs.declared.event.H2Event.TheVariants.{Head}
use Rattle.kn_h2_state.specs.declared.state.Block.{Block}
use Rattle.kn_h2_state.specs.declared.stream.Stream.{Stream}
use Rattle.kn_h2_state.specs.declared.state.State.{State}
use Rattle.kn_h2_state.specs.InStep.{no_table, IsInStep, NextIsRead}
use Rattle.kn_h2_state.specs.Limits.{reply_limit}
use Rattle.kn_h2_state.specs.Outgoing.{put, reply_bytes}
use Rattle.kn_h2_state.specs.Payloads.{content}
use Rattle.kn_h2_state.specs.Streams.{stream_at, change, tidied, is_open, on_open, passes}
use Rattle.kn_h2_state.specs.Heads.{is_malformed_response, is_informational}
use Rattle.kn_h2_state.specs.Rules.{is_client, bytes_so_far, block_with}
use Rattle.kn_h2_state.specs.Effects.{event, reply, block_of_headers, head_of, response, headed, effect}
use Rattle.kn_h2_state.specs.Feeding.{judged, after_frame, after_frames}
use Rattle.kn_h2_state.specs.Moves.{headers_frames}
use Rattle.kn_h2_state.specs.Calls.{refusal, refused_where, takes_more, after_answer}
use Rattle.kn_h2_state.specs.Holding.{Holds}
use Rattle.kn_h2_state.specs.Laws.{Seen, seen, seen_at}
use Rattle.kn_h2_state.specs.Opening.{answered_in}
use Rattle.kn_h2_state.specs.Wire.{frame, grants_in, frame_grant, data_lengths_in, data_length, head_list}
use Rattle.kn_h2_state.proofs.BorneLemmas.{rises, climbing, rises_change, at_tidied}
use Rattle.kn_h2_state.proofs.OtherLaws.{frames_leave_others, calls_leave_others}
use Rattle.kn_h2_state.proofs.PieceLaws.{after_frame-judged}
use Rattle.kn_h2_state.proofs.SeenLemmas.{at_changed}
use Rattle.kn_h2.proofs.AnswerLemmas.{holds_answer, number_of_call}
use Rattle.kn_h2.proofs.FoundLemmas.{IsFound, found_open}
use Rattle.kn_h2.proofs.HoldsLemmas.{replies_more}
use Rattle.kn_facing.specs.Facing.{emptied, IsFollowed, Awaits, IsTaken, asking}
use Rattle.kn_facing.specs.Sums.{MayCome, MayGo}
use Rattle.kn_facing.specs.Faces.{all_lengths, AnswersFirst, Faces, IsStep, AnswerKeepsFaces}
use Rattle.kn_facing.proofs.AheadLemmas.{no_open, is_not_idle, odd_at, not_even}
use Rattle.kn_facing.proofs.BeginStep.{after_one, head_frames}
use Rattle.kn_facing.proofs.FaceLemmas.{Known}
use Rattle.kn_facing.proofs.FollowedLemmas.{is_known}
use Rattle.kn_facing.proofs.MoveTaken.{Knows, knows}
use Rattle.kn_facing.proofs.OwnSumLemmas.{calls_leave_both}
use Rattle.kn_facing.proofs.ReadStep.{one_taken}
use Rattle.kn_facing.proofs.StepLemmas.{steps_keep_faces, awaits_back}
use Rattle.kn_facing.proofs.UnendedLemmas.{one_goes_on}
use Rattle.kn_facing.proofs.TakenLemmas.{content_is, response_is_taken}

-- ---- the server's own side

abbrev mark : Stream → Stream
mark st = record st { answered = true }

abbrev answered_state : ℕ → List Field → State → State
answered_state n fields a = record a { streams = change a.streams n mark; encoder = true; out = put a.out true (headers_frames n 0 (block_of a.encoder fields)) }

not_flooded : (x y : ℕ) → y ≤ x → nat_lt x y ≡ false
not_flooded x y le = by_test (nat_lt x y) refl
  where
    by_test : (b : Bool) → nat_lt x y ≡ b → b ≡ false
    by_test false e = refl
    by_test true e = let below : x < y = ltb-true x y e in absurd (omega (arith, below, le))

is_answered : (n : ℕ) (fields : List Field) (a : State) → reply_bytes a.out + length (headers_frames n 0 (block_of a.encoder fields)) ≤ reply_limit → after_answer n fields a ≡ answered_state n fields a
unfolding after_answer reply
is_answered n fields a room = rw (not_flooded reply_limit (reply_bytes a.out + length (headers_frames n 0 (block_of a.encoder fields))) room) refl

-- ---- the client's side

abbrev pub read_head : State → State
read_head u = record u { began = true; block = None; decoder = no_table }

abbrev with_head : ℕ → List Field → State → State
with_head n fields u = event (record (read_head u) { streams = tidied (change u.streams n mark) }) (Head n fields)

-- what the head does: the stream has it, if it is open
abbrev headed_state : ℕ → List Field → State → Option Stream → State
headed_state n fields u None = read_head u
headed_state n fields u (Some c) = if is_open c then with_head n fields u else read_head u

answered_head : (u : State) (n : ℕ) (block : List ℕ) (fields : List Field) (o : Option Stream) → stream_at u.streams n ≡ o → u.block ≡ None → read_block u.decoder block ≡ Ok (progress no_table fields) → is_client u.role ≡ true
    → is_malformed_response fields ≡ false → is_informational fields ≡ false → ((c : Stream) → o ≡ Some c → is_open c ≡ true → c.answered ≡ false)
    → effect (record u { began = true }) (frame 1 4 n block) ≡ headed_state n fields u o
unfolding effect block_of_headers head_of response headed
answered_head u n block fields None at none reads client formed last first = rw (none, content_is n block, reads, client, at) refl
answered_head u n block fields (Some c) at none reads client formed last first = by_open (is_open c) refl
  where
    by_open : (b : Bool) → is_open c ≡ b → effect (record u { began = true }) (frame 1 4 n block) ≡ (if b then with_head n fields u else read_head u)
    by_open true up = rw (none, content_is n block, reads, client, at, up, first c refl up, last, formed) refl
    by_open false shut = rw (none, content_is n block, reads, client, at, shut) refl

-- where the stream is open afterwards, it was so, and has its head
abbrev HasHead : State → ℕ → Option Stream → Type 0
HasHead u n o = IfSome o (λ y. is_open y ≡ true → (c : Stream) × (stream_at u.streams n ≡ Some c) × (is_open c ≡ true) × (y.peer_open ≡ c.peer_open) × (y.answered ≡ true))

has_head : (u : State) (n : ℕ) (fields : List Field) (o : Option Stream) → Holds u → stream_at u.streams n ≡ o → HasHead u n (stream_at (headed_state n fields u o).streams n)
has_head u n fields None holds at = subst (HasHead u n) (sym at) tt
has_head u n fields (Some c) holds at = by_open (is_open c) refl
  where
    contrary : is_open c ≡ false → is_open c ≡ true → ⊥
    contrary a b = cc

    by_open : (b : Bool) → is_open c ≡ b → HasHead u n (stream_at (if b then with_head n fields u else read_head u).streams n)
    by_open true up =
        at_tidied (HasHead u n) 0 n (change u.streams n mark) (λ st k h. tt)
        (climbing 0 u.opened (change u.streams n mark) (rises_change 0 u.opened u.streams n mark (λ st. refl) (rises 0 u.opened u.streams holds.rising)))
        (subst (HasHead u n) (sym (at_changed u.streams n mark c (λ st. refl) at)) (λ open_y. (c, at, up, refl, refl)))
    by_open false shut = subst (HasHead u n) (sym at) (λ open_y. absurd (contrary shut open_y))

record Heard (u v : State) : Type 0 where
  role : v.role ≡ u.role
  began : v.began ≡ true
  block : v.block ≡ None
  decoder : v.decoder ≡ no_table
  opened : v.opened ≡ u.opened

heard : (u : State) (n : ℕ) (fields : List Field) (o : Option Stream) → Heard u (headed_state n fields u o)
heard u n fields None = record { role = refl; began = refl; block = refl; decoder = refl; opened = refl }
heard u n fields (Some c) = by_open (is_open c)
  where
    by_open : (b : Bool) → Heard u (if b then with_head n fields u else read_head u)
    by_open true = record { role = refl; began = refl; block = refl; decoder = refl; opened = refl }
    by_open false = record { role = refl; began = refl; block = refl; decoder = refl; opened = refl }

-- a stream that is seen alike
pub record Alike (y c : Stream) : Type 0 where
  pub up : is_open c ≡ is_open y
  pub peer : y.peer_open ≡ c.peer_open
  pub head : y.answered ≡ c.answered

peer_of : Option Seen → Bool
peer_of None = true
peer_of (Some s) = s.peer_open

own_of : Option Seen → Bool
own_of None = true
own_of (Some s) = s.own_open

head_of_seen : Option Seen → Bool
head_of_seen None = true
head_of_seen (Some s) = s.answered

pub alike : (y : Stream) (o : Option Stream) → seen (Some y) ≡ seen o → (c : Stream) × (o ≡ Some c) × Alike y c
unfolding peer_of own_of head_of_seen
alike y None e = let gone : seen (Some y) ≡ None = e in absurd cc
alike y (Some c) e =
    let p : y.peer_open ≡ c.peer_open = ap peer_of e in
    let q : y.own_open ≡ c.own_open = ap own_of e in
    (c, refl, record { up = ap (λ (b : Bool). b || c.own_open) (sym p) ∙ ap (λ (b : Bool). y.peer_open || b) (sym q); peer = p; head = ap head_of_seen e })

malformed_in : Result Progress HpackFault → Bool
malformed_in (Ok p) = is_malformed_response p.fields
malformed_in (Err e) = false

interim_in : Result Progress HpackFault → Bool
interim_in (Ok p) = is_informational p.fields
interim_in (Err e) = false

same_less : (x : ℤ) → x ≡ (x +ℤ pos 0)
same_less x = omega (arith, ints)

same_more : (x y : ℤ) → y ≡ x → y ≡ (x +ℤ pos 0)
same_more x y e = omega (arith, ints, e)

back_less : (x y : ℤ) → y ≡ x → x ≡ (y +ℤ pos 0)
back_less x y e = omega (arith, ints, e)

same_minus : (x : ℤ) → x ≡ (x -ℤ pos 0)
same_minus x = omega (arith, ints)

-- ---- the step

takes_parts : (s : State) (n : ℕ) → refusal takes_more s n ≡ None → on_open s.streams n takes_more ≡ true
unfolding refusal
takes_parts s n e = of_failed s.failed (on_open s.streams n takes_more) refl e
  where
    of_failed : (o : Option ℕ) (b : Bool) → on_open s.streams n takes_more ≡ b → refused_where o b ≡ None → b ≡ true
    of_failed (Some code) b t k = absurd cc
    of_failed None false t k = absurd cc
    of_failed None true t k = refl

pub answer_keeps_faces : Known → NextIsRead → AnswerKeepsFaces
unfolding grants_in frame_grant data_lengths_in data_length all_lengths malformed_in interim_in
answer_keeps_faces k next a b ab ba n fields h server fits first answer one room room_b =
    subst (λ (fs : List Frame). Faces t b (ab ++ fs) ba) (sym frames)
    (steps_keep_faces k a b t (head ∷ []) ab ba h step (awaits_back k a b t ab ba h step.still step.hears (ap (λ (z : State). z.opened) is_t)) room_t
    (subst (λ (fs : List Frame). reply_bytes b.out + 17 * asking (ab ++ fs) ≤ 32768) frames room_b))
  where
    block : List ℕ
    block = block_of a.encoder fields

    head : Frame
    head = frame 1 4 n block

    t : State
    t = after_answer n fields a

    is_t : t ≡ answered_state n fields a
    is_t = is_answered n fields a (omega (arith, room))

    u : State
    u = after_frames (emptied b) ab

    w : Knows a u
    w = knows k a b ab ba h

    frames : head_list n 0 block ≡ head ∷ []
    frames = head_frames n 0 block one.short

    client : is_client u.role ≡ true
    client = w.other ∙ ap not server

    here : (st : Stream) × IsFound a.streams n takes_more st
    here = found_open a.streams n takes_more (takes_parts a n fits)

    st : Stream
    st = here.0

    own : st.own_open ≡ true
    own = (and_parts st.own_open (is_none st.finish) here.1.passed).0

    unanswered : st.answered ≡ false
    unanswered = by_answer st.answered refl
      where
        test : (is_open st && st.answered) ≡ false
        test = ap (λ (o : Option Stream). passes (λ x. x.answered) o) (sym here.1.found) ∙ first

        by_answer : (b : Bool) → st.answered ≡ b → b ≡ false
        by_answer false e = refl
        by_answer true e = sym (ap (λ (b : Bool). b && st.answered) here.1.opened ∙ e) ∙ test

    reads : read_block u.decoder block ≡ Ok (progress no_table fields)
    reads = next a.encoder u.decoder fields one.small w.followed.decoder

    whole : block_with u head ≡ block
    whole = ap (λ (o : Option Block). bytes_so_far o ++ content head) w.followed.block ∙ content_is n block

    result : (p : Progress) → read_block u.decoder (block_with u head) ≡ Ok p → read_block u.decoder block ≡ Ok p
    result p e = ap (λ (l : List ℕ). read_block u.decoder l) (sym whole) ∙ e

    waits : (c : Stream) → stream_at u.streams n ≡ Some c → is_open c ≡ true → c.answered ≡ false
    waits c at up = w.followed.heads client n st c here.1.found at up ∙ unanswered

    taken : IsTaken u head
    taken = record {
      kept = response_is_taken u n block (record {
        block = record {
          listens = record { began = w.followed.began; block = w.followed.block };
          odd = not_even (n % 2) (odd_at 0 a.opened n a.streams st h.end_a.holds.rising here.1.found);
          small = let short = one.short in omega (arith, short);
          progress = progress no_table fields;
          reads = reads;
        };
        known = is_not_idle a u n st h.end_a.holds w.other w.followed here.1.found;
        half = no_open u.streams n (λ c. not c.peer_open) (λ c at up. ap not (w.followed.halves n st c here.1.found own at up));
      }) client (no_open u.streams n (λ c. c.answered) waits);
      plain = record { whole = refl; silent = refl; windows = λ e. absurd cc };
      head = λ e p r. record {
        request = λ s. absurd (contrary client s);
        response = λ c waiting. record { formed = ap malformed_in (sym (result p r)) ∙ (ap malformed_in reads ∙ answer.formed); last = ap interim_in (sym (result p r)) ∙ (ap interim_in reads ∙ answer.last) };
      };
    }
      where
        contrary : is_client u.role ≡ true → is_client u.role ≡ false → ⊥
        contrary c d = cc

    v : State
    v = headed_state n fields u (stream_at u.streams n)

    after : after_frame u head ≡ v
    after =
        after_frame-judged u head w.goes
        ∙ (ap (λ o. judged u head o) taken.kept
        ∙ answered_head u n block fields (stream_at u.streams n) refl w.followed.block reads client answer.formed answer.last waits)

    others : (m : ℕ) → n ≢ m → seen_at v m ≡ seen_at u m
    others m other = ap (λ (z : State). seen_at z m) (sym after) ∙ frames_leave_others u head m w.holds other

    at_t : stream_at t.streams n ≡ Some (mark st)
    at_t = ap (λ (z : State). stream_at z.streams n) is_t ∙ at_changed a.streams n mark st (λ x. refl) here.1.found

    others_t : (m : ℕ) → n ≢ m → stream_at t.streams m ≡ stream_at a.streams m
    others_t m other = (calls_leave_others a n m h.end_a.holds other).answer fields

    now : Heard u v
    now = heard u n fields (stream_at u.streams n)

    head_there : (y : Stream) → stream_at v.streams n ≡ Some y → is_open y ≡ true → (c : Stream) × (stream_at u.streams n ≡ Some c) × (is_open c ≡ true) × (y.peer_open ≡ c.peer_open) × (y.answered ≡ true)
    head_there y there up = subst (HasHead u n) there (has_head u n fields (stream_at u.streams n) w.holds refl) up

    half : (m : ℕ) (x y : Stream) → stream_at t.streams m ≡ Some x → x.own_open ≡ true → stream_at v.streams m ≡ Some y → is_open y ≡ true → (b : Bool) → eqb n m ≡ b → y.peer_open ≡ true
    half m x y at own_x there up true e =
        let g = head_there y (subst (λ (j : ℕ). stream_at v.streams j ≡ Some y) (sym (eqb-true n m e)) there) up in g.3 ∙ w.followed.halves n st g.0 here.1.found own g.1 g.2
    half m x y at own_x there up false e =
        let other = eqb-false n m e in
        let g = alike y (stream_at u.streams m) (ap seen (sym there) ∙ others m other) in
        g.2.peer ∙ w.followed.halves m x g.0 (sym (others_t m other) ∙ at) own_x g.1 (g.2.up ∙ up)

    heads : (m : ℕ) (x y : Stream) → stream_at t.streams m ≡ Some x → stream_at v.streams m ≡ Some y → is_open y ≡ true → (b : Bool) → eqb n m ≡ b → y.answered ≡ x.answered
    heads m x y at there up true e =
        let same : n ≡ m = eqb-true n m e in
        let g = head_there y (subst (λ (j : ℕ). stream_at v.streams j ≡ Some y) (sym same) there) up in
        g.4 ∙ sym (ap answered_in (sym at ∙ subst (λ (j : ℕ). stream_at t.streams j ≡ Some (mark st)) same at_t))
    heads m x y at there up false e =
        let other = eqb-false n m e in
        let g = alike y (stream_at u.streams m) (ap seen (sym there) ∙ others m other) in
        g.2.head ∙ w.followed.heads client m x g.0 (sym (others_t m other) ∙ at) g.1 (g.2.up ∙ up)

    not_client : is_client t.role ≡ true → ⊥
    not_client c = contrary (ap (λ (z : State). is_client z.role) (sym is_t) ∙ c) server
      where
        contrary : is_client a.role ≡ true → is_client a.role ≡ false → ⊥
        contrary c d = cc

    followed : IsFollowed t v
    followed = record {
      began = now.began;
      block = now.block;
      decoder = subst (λ (b : Bool). IsInStep b v.decoder) (sym (ap (λ (z : State). z.encoder) is_t)) now.decoder;
      halves = λ m x y at own_x there up. half m x y at own_x there up (eqb n m) refl;
      heads = λ c m x y at there up. heads m x y at there up (eqb n m) refl;
      opened = λ c. absurd (not_client c);
      begun = λ c. let low = w.followed.begun client in let same = now.opened in let mine = ap (λ (z : State). z.opened) is_t in omega (arith, low, same, mine);
    }

    awaits : Awaits t v
    awaits c m y low there up = by_test (eqb n m) refl
      where
        above : a.opened < m
        above = subst (λ (j : ℕ). j < m) (ap (λ (z : State). z.opened) is_t) low

        by_test : (b : Bool) → eqb n m ≡ b → (y.peer_open ≡ true) × (y.answered ≡ false)
        by_test true e = absurd (is_known a.opened m a.streams st h.end_a.holds.rising (subst (λ (j : ℕ). stream_at a.streams j ≡ Some st) (eqb-true n m e) here.1.found) above)
        by_test false e =
            let g = alike y (stream_at u.streams m) (ap seen (sym there) ∙ others m (eqb-false n m e)) in
            let z = w.awaits client m g.0 above g.1 (g.2.up ∙ up) in
            (g.2.peer ∙ z.0, g.2.head ∙ z.1)

    first_t : AnswersFirst t
    first_t s m x at e = by_test (eqb n m) refl
      where
        contrary : true ≡ false → ⊥
        contrary c = cc

        by_test : (b : Bool) → eqb n m ≡ b → (length x.queue ≡ 0) × (x.finish ≡ None)
        by_test true g = absurd (contrary (sym (ap answered_in (sym at ∙ subst (λ (j : ℕ). stream_at t.streams j ≡ Some (mark st)) (eqb-true n m g) at_t)) ∙ e))
        by_test false g = h.end_a.first server m x (sym (others_t m (eqb-false n m g)) ∙ at) e

    step : IsStep a t (head ∷ []) u
    step = record {
      still = record {
        holds = holds_answer n fields a h.end_a.holds;
        facts = (k.facts a h.end_a.holds h.end_a.facts).answer n fields;
        goes = ap (λ (z : State). z.failed) is_t ∙ h.end_a.goes;
        initial = ap (λ (z : State). z.initial) is_t ∙ h.end_a.initial;
        one = subst (λ (j : ℕ). j ≤ 1) (sym (ap (λ (z : State). z.opened) is_t)) h.end_a.one;
        first = first_t;
      };
      role = ap (λ (z : State). z.role) is_t;
      hears = (k.steps a h.end_a.holds h.end_a.facts.known).answer n fields server;
      limits = (record { payload = one.short; stream = number_of_call a n takes_more fits h.end_a.holds }, tt);
      taken = one_taken u head taken;
      ends = λ m g. one_goes_on m head refl;
      followed = subst (λ (z : State). IsFollowed t z) (sym (after_one u head ∙ after)) followed;
      awaits = subst (λ (z : State). Awaits t z) (sym (after_one u head ∙ after)) awaits;
      goes = λ m x g. subst (λ (z : ℤ). MayGo a m z) (same_less x) (((calls_leave_both a n m h.end_a.holds).answer fields).goes x g);
      comes = λ m y g. subst (λ (z : ℤ). MayCome a m z) (same_minus y) (((calls_leave_both a n m h.end_a.holds).answer fields).comes y g);
      all_goes = back_less a.send t.send (ap (λ (z : State). z.send) is_t);
      all_comes = same_more a.receive t.receive (ap (λ (z : State). z.receive) is_t);
    }

    room_t : reply_bytes t.out + 17 * asking ba ≤ 32768
    room_t = let same = ap (λ (z : State). reply_bytes z.out) is_t in let more = replies_more a.out (headers_frames n 0 block) in omega (arith, same, more, room)
