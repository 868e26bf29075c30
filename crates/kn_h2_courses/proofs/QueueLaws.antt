-- What was queued on a stream is what was sent on it, followed by what waits.
use Rattle.std.proofs.Common.{◌≡◌, ◌≢◌, ◌⊎◌, inl, inr, ℕ, ◌<◌, ◌≤◌, ◌+ℤ◌, ◌-ℤ◌, pos, Bool, true, false, not, ◌&&◌, ◌||◌, cond, eqb, leb, List, [], ◌∷◌, ◌++◌, length, Option, Some, None, is_none, refl, sym, ap, ◌∙◌, subst, append-nil, append_assoc, arith}
use Rattle.std.proofs.lemmas.List.{nil_from_length}
use Rattle.std.proofs.lemmas.Bool.{eqb-true, eqb-false, and_parts, or_parts, leb-true, leb-false}
use Rattle.kn_hpack.specs.Fields.{Field}
use Rattle.kn_hpack.specs.Strings.{IsBytes}
use Rattle.kn_hpack.specs.Encoding.{block_of}
use Rattle.kn_h2_state.specs.declared.role.Role.{Role}
use Rattle.kn_h2_state.specs.declared.moves.Move.{Move}
use Rattle.kn_h2_state.specs.declared.moves.Move.TheVariants.{GrantAll, Grant, Send, End, Stop}
use Rattle.kn_h2_state.specs.declared.stream.Stream.{Stream}
use Rattle.kn_h2_state.specs.declared.state.State.{State}
use Rattle.kn_h2_state.specs.Streams.{stream_at, change, is_open, is_kept, shut, on_open}
use Rattle.kn_h2_state.specs.Payloads.{reset_frame}
use Rattle.kn_h2_state.specs.Rules.{is_client}
use Rattle.kn_h2_state.specs.Effects.{reply, on_stream, new_stream}
use Rattle.kn_h2_state.specs.Feeding.{Connection, after_piece}
use Rattle.kn_h2_state.specs.Moves.{headers_frames, may, can_end, own_ended, made, after_move}
use Rattle.kn_h2_state.specs.Calls.{fresh, fresh_state, takes_more, refusal, queue_refusal, queue_in, queue_of, next_number, with_taken, with_queued, with_finish, after_take, after_begin, after_queue, after_finish, after_answer, after_reset, after_took}
use Rattle.kn_h2_state.specs.Holding.{is_at_rest, Holds}
use Rattle.kn_h2_state.specs.Own.{OwnHalf, own_half}
use Rattle.kn_h2_state.specs.Wire.{moved_text}
use Rattle.kn_h2_state.proofs.OtherLaws.{reply_streams, calls_leave_others, begins_leave_others}
use Rattle.kn_h2_state.proofs.OwnLaws.{borne_piece, pieces_leave_own}
use Rattle.kn_h2_state.proofs.SeenLemmas.{at_changed}
use Rattle.kn_h2_state.proofs.BorneLemmas.{rises, climbing, rises_change, at_change, at_tidied, at_push, Bears}
use Rattle.kn_h2.proofs.BeginLemmas.{next_above}
use Rattle.kn_h2.proofs.CallBounds.{fits_of, fits_queue}
use Rattle.kn_h2.proofs.FoundLemmas.{IsFound, found_open}
use Rattle.kn_h2.proofs.MoveLemmas.{move_parts, end_parts}
use Rattle.kn_h2.proofs.OrderLemmas.{move_order}
use Rattle.kn_h2.proofs.StreamLemmas.{all_at}
use Rattle.kn_h2_courses.specs.Courses.{Act, Feeds, Tells, Takes, Begins, Answers, Queues, Finishes, Resets, Makes, Writes, MayDo, queued_by, ends_half, Course, begins, after_act}
use Rattle.kn_h2_courses.specs.Queues.{own_in, QueuedIsSent}
use Rattle.kn_h2_courses.proofs.LifeLemmas.{IsSound, IsCut, every_life}
use Rattle.kn_h2_courses.proofs.StreamSteps.{begun_opened, reset_opened, none_there, changed_all, reply_opened, opened_there, opened_piece, on_there, move_there, opened_move}

-- ---- of one stream, over values

-- nothing was done with it
abbrev IsNew : List ℕ → List ℕ → Bool → Type 0
IsNew queued sent ended = (queued ≡ []) × (sent ≡ []) × (ended ≡ false)

record InOrder (n opened : ℕ) (own : Bool) (queue queued sent : List ℕ) (ended : Bool) : Type 0 where
  new : IsNew queued sent ended ⊎ (n ≤ opened)
  front : (lost : List ℕ) × (queued ≡ sent ++ (queue ++ lost))
  whole : ((own ≡ true) ⊎ (ended ≡ true)) → queued ≡ sent ++ queue
  over : ended ≡ true → own ≡ false

raise : (n low high : ℕ) (P : Type 0) → low ≤ high → P ⊎ (n ≤ low) → P ⊎ (n ≤ high)
raise n low high P le (inl p) = inl p
raise n low high P le (inr r) = inr (omega (arith, r, le))

-- the half is as it was
same_half : (n opened opened' : ℕ) (own own' : Bool) (queue queue' queued sent : List ℕ) (ended : Bool) → opened ≤ opened' → own' ≡ own → queue' ≡ queue
    → InOrder n opened own queue queued sent ended → InOrder n opened' own' queue' queued sent ended
same_half n opened opened' own own' queue queue' queued sent ended le a b k = record {
  new = raise n opened opened' (IsNew queued sent ended) le k.new;
  front = (k.front.0, k.front.1 ∙ ap (λ (q : List ℕ). sent ++ (q ++ k.front.0)) (sym b));
  whole = λ e. k.whole (subst (λ (o : Bool). (o ≡ true) ⊎ (ended ≡ true)) a e) ∙ ap (λ (q : List ℕ). sent ++ q) (sym b);
  over = λ e. a ∙ k.over e;
}

-- the half is given up, or it was over before
cut_half : (n opened opened' : ℕ) (own : Bool) (queue queued sent : List ℕ) (ended : Bool) → opened ≤ opened' → (ended ≡ true → queue ≡ [])
    → InOrder n opened own queue queued sent ended → InOrder n opened' false [] queued sent ended
cut_half n opened opened' own queue queued sent ended le nothing k = record {
  new = raise n opened opened' (IsNew queued sent ended) le k.new;
  front = (queue ++ k.front.0, k.front.1);
  whole = λ e. by_end e;
  over = λ e. refl;
}
  where
    by_end : ((false ≡ true) ⊎ (ended ≡ true)) → queued ≡ sent ++ []
    by_end (inl x) = absurd cc
    by_end (inr x) = k.whole (inr x) ∙ ap (λ (q : List ℕ). sent ++ q) (nothing x)

-- of the state
abbrev Orders : ℕ → State → List ℕ → List ℕ → Bool → Type 0
Orders n s queued sent ended = InOrder n s.opened (own_in (stream_at s.streams n)) (queue_of s n) queued sent ended

-- ---- what each change keeps

-- the half of a stream, which is at rest where it has ended
abbrev Half : Bool → List ℕ → Option Stream → Type 0
Half own queue None = (false ≡ own) × ([] ≡ queue)
Half own queue (Some st) = (st.own_open ≡ own) × (st.queue ≡ queue) × (is_at_rest st ≡ true)

half_own : (own : Bool) (queue : List ℕ) (o : Option Stream) → Half own queue o → own_in o ≡ own
half_own own queue None h = h.0
half_own own queue (Some st) h = h.0

half_queue : (own : Bool) (queue : List ℕ) (o : Option Stream) → Half own queue o → queue_in o ≡ queue
half_queue own queue None h = h.1
half_queue own queue (Some st) h = h.1

rest_empty : (st : Stream) → st.own_open ≡ false → is_at_rest st ≡ true → st.queue ≡ []
rest_empty st own rest =
    let waits : (eqb (length st.queue) 0 && is_none st.finish) ≡ true = subst (λ (b : Bool). (b || (eqb (length st.queue) 0 && is_none st.finish)) ≡ true) own rest in
    nil_from_length st.queue (eqb-true (length st.queue) 0 (and_parts (eqb (length st.queue) 0) (is_none st.finish) waits).0)

half_gone : (own : Bool) (queue : List ℕ) (st : Stream) → is_kept st ≡ false → Half own queue (Some st) → Half own queue None
half_gone own queue st gone h =
    let halves : is_open st ≡ false = (or_parts (is_open st) _ gone).0 in
    let shut' : st.own_open ≡ false = (or_parts st.peer_open st.own_open halves).1 in
    (sym shut' ∙ h.0, sym (rest_empty st shut' h.2) ∙ h.1)

half_start : (s : State) (n : ℕ) → Holds s → Half (own_in (stream_at s.streams n)) (queue_of s n) (stream_at s.streams n)
half_start s n h = by_stream (stream_at s.streams n) refl
  where
    by_stream : (o : Option Stream) → stream_at s.streams n ≡ o → Half (own_in o) (queue_in o) o
    by_stream None e = (refl, refl)
    by_stream (Some st) e = (refl, refl, all_at (λ (x : Stream). is_at_rest x ≡ true) s.streams n st h.rest e)

-- a state whose stream n has the same half
half_same : (n : ℕ) (s t : State) (queued sent : List ℕ) (ended : Bool) → s.opened ≤ t.opened → Half (own_in (stream_at s.streams n)) (queue_of s n) (stream_at t.streams n)
    → Orders n s queued sent ended → Orders n t queued sent ended
half_same n s t queued sent ended le h k =
    same_half n s.opened t.opened (own_in (stream_at s.streams n)) (own_in (stream_at t.streams n)) (queue_of s n) (queue_of t n) queued sent ended le
    (half_own (own_in (stream_at s.streams n)) (queue_of s n) (stream_at t.streams n) h) (half_queue (own_in (stream_at s.streams n)) (queue_of s n) (stream_at t.streams n) h) k

-- or that very stream
stream_same : (n : ℕ) (s t : State) (queued sent : List ℕ) (ended : Bool) → s.opened ≡ t.opened → stream_at t.streams n ≡ stream_at s.streams n
    → Orders n s queued sent ended → Orders n t queued sent ended
stream_same n s t queued sent ended same e k =
    same_half n s.opened t.opened (own_in (stream_at s.streams n)) (own_in (stream_at t.streams n)) (queue_of s n) (queue_of t n) queued sent ended (omega (arith, same))
    (ap own_in e) (ap queue_in e) k

-- ---- a piece

own_of : (o : Option Stream) → own_in o ≡ (own_half o).own_open
own_of None = refl
own_of (Some st) = refl

queue_of_half : (o : Option Stream) → queue_in o ≡ (own_half o).queue
queue_of_half None = refl
queue_of_half (Some st) = refl

-- nothing waits on a stream that comes
born : (n opened : ℕ) (own : Bool) (queue queued sent : List ℕ) (ended : Bool) → IsNew queued sent ended → queue ≡ [] → InOrder n opened own queue queued sent ended
born n opened own queue queued sent ended i e = record {
  new = inl i;
  front = ([], none ∙ ap (λ (q : List ℕ). sent ++ (q ++ [])) (sym e));
  whole = λ h. none ∙ ap (λ (q : List ℕ). sent ++ q) (sym e);
  over = λ h. absurd (let both : true ≡ false = sym h ∙ i.2 in cc);
}
  where
    none : queued ≡ sent ++ []
    none = i.0 ∙ ap (λ (q : List ℕ). q ++ []) (sym i.1)

bears_empty : (c : Bool) (n low : ℕ) → Bears c (Unit {0}) (λ o. queue_in o ≡ []) n low
bears_empty c n low = record {
  gone = λ st e q. refl;
  texts = λ k text st q. q;
  ends = λ st q. q;
  heads = λ e st q. q;
  shuts = λ p st q. refl;
  cuts = λ p st q. refl;
  grants = λ by st q. grant by (is_open st) st q;
  shifts = λ old new st q. shift old new (is_open st) st q;
  fresh = λ m t above same. refl;
}
  where
    grant : (by : ℕ) (b : Bool) (st : Stream) → st.queue ≡ [] → (cond b (record st { send = st.send +ℤ pos by }) st).queue ≡ []
    grant by true st q = q
    grant by false st q = q

    shift : (old new : ℕ) (b : Bool) (st : Stream) → st.queue ≡ [] → (cond b (record st { send = st.send +ℤ (pos new -ℤ pos old) }) st).queue ≡ []
    shift old new true st q = q
    shift old new false st q = q

-- where this end's half has ended, nothing waits
over_empty : (s : State) (n : ℕ) → Holds s → own_in (stream_at s.streams n) ≡ false → queue_of s n ≡ []
over_empty s n h own = by_stream (stream_at s.streams n) refl own
  where
    by_stream : (o : Option Stream) → stream_at s.streams n ≡ o → own_in o ≡ false → queue_in o ≡ []
    by_stream None e k = refl
    by_stream (Some st) e k = rest_empty st k (all_at (λ (x : Stream). is_at_rest x ≡ true) s.streams n st h.rest e)

cut_to : (n : ℕ) (s t : State) (queued sent : List ℕ) (ended : Bool) → s.opened ≤ t.opened → own_in (stream_at t.streams n) ≡ false → queue_of t n ≡ []
    → (ended ≡ true → queue_of s n ≡ []) → Orders n s queued sent ended → Orders n t queued sent ended
cut_to n s t queued sent ended le own queue nothing k =
    subst (λ (b : Bool). InOrder n t.opened b (queue_of t n) queued sent ended) (sym own)
    (subst (λ (q : List ℕ). InOrder n t.opened false q queued sent ended) (sym queue) (cut_half n s.opened t.opened (own_in (stream_at s.streams n)) (queue_of s n) queued sent ended le nothing k))

piece_orders : (n : ℕ) (c : Connection) (piece queued sent : List ℕ) (ended : Bool) → IsSound c → IsBytes piece → Orders n c.state queued sent ended → Orders n (after_piece c piece).state queued sent ended
piece_orders n c piece queued sent ended h bytes k = by_test (leb n c.state.opened) refl
  where
    t : State
    t = (after_piece c piece).state

    le : c.state.opened ≤ t.opened
    le = opened_piece c piece h bytes

    of_open : n ≤ c.state.opened → Orders n t queued sent ended
    of_open there = elim (pieces_leave_own c piece n h.holds there) [
      | inl e ↦ same_half n c.state.opened t.opened (own_in (stream_at c.state.streams n)) (own_in (stream_at t.streams n)) (queue_of c.state n) (queue_of t n) queued sent ended le
          (own_of (stream_at t.streams n) ∙ ap (λ (x : OwnHalf). x.own_open) e ∙ sym (own_of (stream_at c.state.streams n)))
          (queue_of_half (stream_at t.streams n) ∙ ap (λ (x : OwnHalf). x.queue) e ∙ sym (queue_of_half (stream_at c.state.streams n))) k
      | inr e ↦ cut_to n c.state t queued sent ended le (own_of (stream_at t.streams n) ∙ ap (λ (x : OwnHalf). x.own_open) e)
          (queue_of_half (stream_at t.streams n) ∙ ap (λ (x : OwnHalf). x.queue) e) (λ x. over_empty c.state n h.holds (k.over x)) k
    ]

    of_new : c.state.opened < n → Orders n t queued sent ended
    of_new above = elim k.new [
      | inl i ↦ born n t.opened (own_in (stream_at t.streams n)) (queue_of t n) queued sent ended i
          (borne_piece {Q = λ o. queue_in o ≡ []} {n = n} c piece (bears_empty (is_client c.state.role) n c.state.opened) (rises 0 c.state.opened c.state.streams h.holds.rising)
          (ap queue_in (none_there c.state n h.holds above)))
      | inr there ↦ absurd (omega (arith, there, above))
    ]

    by_test : (b : Bool) → leb n c.state.opened ≡ b → Orders n t queued sent ended
    by_test true e = of_open (leb-true n c.state.opened e)
    by_test false e = of_new (leb-false n c.state.opened e)

-- ---- calls

own_of_call : (needs : Stream → Bool) (s : State) (n : ℕ) → ((st : Stream) → needs st ≡ true → st.own_open ≡ true) → on_open s.streams n needs ≡ true → own_in (stream_at s.streams n) ≡ true
own_of_call needs s n own e = let found = found_open s.streams n needs e in ap own_in found.1.found ∙ own found.0 found.1.passed

begun_empty : (n : ℕ) (fields : List Field) (s : State) → Holds s → next_number s ≡ n → queue_of (after_begin fields s) n ≡ []
unfolding after_begin
begun_empty n fields s h same =
    let above : s.opened < next_number s = (next_above s.opened h.parity).0 in
    at_push (λ o. queue_in o ≡ []) s.streams n (new_stream (next_number s) s) (λ e. refl) (ap queue_in (none_there s n h (subst (λ (j : ℕ). s.opened < j) same above)))

begin_orders : (n : ℕ) (fields : List Field) (s : State) (queued sent : List ℕ) (ended : Bool) → Holds s → Orders n s queued sent ended → Orders n (after_begin fields s) queued sent ended
begin_orders n fields s queued sent ended h k = by_test (eqb (next_number s) n) refl
  where
    t : State
    t = after_begin fields s

    above : s.opened < next_number s
    above = (next_above s.opened h.parity).0

    by_test : (b : Bool) → eqb (next_number s) n ≡ b → Orders n t queued sent ended
    by_test true e =
        let same : next_number s ≡ n = eqb-true (next_number s) n e in
        elim k.new [
          | inl i ↦ born n t.opened (own_in (stream_at t.streams n)) (queue_of t n) queued sent ended i (begun_empty n fields s h same)
          | inr there ↦ absurd (omega (arith, there, above, same))
        ]
    by_test false e =
        let apart : next_number s ≢ n = eqb-false (next_number s) n e in
        let same : stream_at t.streams n ≡ stream_at s.streams n = begins_leave_others s fields n apart in
        same_half n s.opened t.opened (own_in (stream_at s.streams n)) (own_in (stream_at t.streams n)) (queue_of s n) (queue_of t n) queued sent ended (omega (arith, begun_opened fields s, above))
        (ap own_in same) (ap queue_in same) k

answer_orders : (n m : ℕ) (fields : List Field) (s : State) (queued sent : List ℕ) (ended : Bool) → Holds s → Orders n s queued sent ended → Orders n (after_answer m fields s) queued sent ended
unfolding after_answer
answer_orders n m fields s queued sent ended h k =
    let answered : Stream → Stream = λ (st : Stream). record st { answered = true } in
    let t : State = record s { streams = change s.streams m answered; encoder = true } in
    let frame = headers_frames m 0 (block_of s.encoder fields) in
    half_same n s (reply frame t) queued sent ended (let e = reply_opened frame t in omega (arith, e))
    (subst (λ (ss : List Stream). Half (own_in (stream_at s.streams n)) (queue_of s n) (stream_at ss n)) (sym (reply_streams frame t))
    (at_change (Half (own_in (stream_at s.streams n)) (queue_of s n)) s.streams m n answered (λ y. refl) (λ y q. q) (half_start s n h))) k

take_orders : (n m count : ℕ) (s : State) (queued sent : List ℕ) (ended : Bool) → Holds s → Orders n s queued sent ended → Orders n (after_take m count s) queued sent ended
unfolding after_take
take_orders n m count s queued sent ended h k =
    half_same n s (after_take m count s) queued sent ended (omega arith)
    (on_there (Half (own_in (stream_at s.streams n)) (queue_of s n)) s m n (with_taken count) h (λ y. refl) (half_gone (own_in (stream_at s.streams n)) (queue_of s n)) (λ y q. q) (half_start s n h)) k

finish_orders : (n m : ℕ) (trailers : List Field) (s : State) (queued sent : List ℕ) (ended : Bool) → Orders n s queued sent ended → Orders n (after_finish m trailers s) queued sent ended
unfolding after_finish
finish_orders n m trailers s queued sent ended k =
    same_half n s.opened s.opened (own_in (stream_at s.streams n)) _ (queue_of s n) _ queued sent ended (omega arith)
    (at_change (λ o. own_in o ≡ own_in (stream_at s.streams n)) s.streams m n (with_finish trailers) (λ y. refl) (λ y q. q) refl)
    (at_change (λ o. queue_in o ≡ queue_of s n) s.streams m n (with_finish trailers) (λ y. refl) (λ y q. q) refl) k

-- more waits
queue_more : (n opened : ℕ) (queue bytes queued sent : List ℕ) (ended : Bool) → n ≤ opened → InOrder n opened true queue queued sent ended → InOrder n opened true (queue ++ bytes) (queued ++ bytes) sent ended
queue_more n opened queue bytes queued sent ended there k = record {
  new = inr there;
  front = ([], all ∙ ap (λ (q : List ℕ). sent ++ q) (sym (append-nil (queue ++ bytes))));
  whole = λ h. all;
  over = k.over;
}
  where
    all : queued ++ bytes ≡ sent ++ (queue ++ bytes)
    all = ap (λ (q : List ℕ). q ++ bytes) (k.whole (inl refl)) ∙ append_assoc sent queue bytes

queued_at : (n m : ℕ) (bytes : List ℕ) (s : State) (st : Stream) → m ≡ n → stream_at s.streams n ≡ Some st → stream_at (after_queue m bytes s).streams n ≡ Some (with_queued bytes st)
unfolding after_queue
queued_at n m bytes s st same e = subst (λ (j : ℕ). stream_at (change s.streams j (with_queued bytes)) n ≡ Some (with_queued bytes st)) (sym same) (at_changed s.streams n (with_queued bytes) st (λ y. refl) e)

queued_opened : (m : ℕ) (bytes : List ℕ) (s : State) → (after_queue m bytes s).opened ≡ s.opened
unfolding after_queue
queued_opened m bytes s = refl

queue_orders : (n m : ℕ) (bytes : List ℕ) (s : State) (queued sent : List ℕ) (ended : Bool) → Holds s → queue_refusal s m ≡ None → Orders n s queued sent ended
    → Orders n (after_queue m bytes s) (queued ++ cond (eqb m n) bytes []) sent ended
queue_orders n m bytes s queued sent ended h ok k = by_test (eqb m n) refl
  where
    t : State
    t = after_queue m bytes s

    found : (st : Stream) × IsFound s.streams m takes_more st
    found = found_open s.streams m takes_more (fits_of takes_more s m (fits_queue s m ok))

    st : Stream
    st = found.0

    own : st.own_open ≡ true
    own = (and_parts st.own_open _ found.1.passed).0

    here : m ≡ n → stream_at s.streams n ≡ Some st
    here same = subst (λ (j : ℕ). stream_at s.streams j ≡ Some st) same found.1.found

    of_same : m ≡ n → Orders n t (queued ++ bytes) sent ended
    of_same same =
        let now : stream_at t.streams n ≡ Some (with_queued bytes st) = queued_at n m bytes s st same (here same) in
        let before : InOrder n s.opened true st.queue queued sent ended = subst (λ (b : Bool). InOrder n s.opened b st.queue queued sent ended) own
        (subst (λ (o : Option Stream). InOrder n s.opened (own_in o) (queue_in o) queued sent ended) (here same) k) in
        subst (λ (o : Option Stream). InOrder n t.opened (own_in o) (queue_in o) (queued ++ bytes) sent ended) (sym now)
        (subst (λ (b : Bool). InOrder n t.opened b (st.queue ++ bytes) (queued ++ bytes) sent ended) (sym own)
        (subst (λ (j : ℕ). InOrder n j true (st.queue ++ bytes) (queued ++ bytes) sent ended) (sym (queued_opened m bytes s))
        (queue_more n s.opened st.queue bytes queued sent ended (opened_there s n st h (here same)) before)))

    by_test : (b : Bool) → eqb m n ≡ b → Orders n t (queued ++ cond b bytes []) sent ended
    by_test true e = of_same (eqb-true m n e)
    by_test false e =
        subst (λ (q : List ℕ). Orders n t q sent ended) (sym (append-nil queued))
        (stream_same n s t queued sent ended (sym (queued_opened m bytes s)) ((calls_leave_others s m n h (eqb-false m n e)).queue bytes) k)

-- of a stream that was shut nothing waits
abbrev Shut : Option Stream → Type 0
Shut o = (own_in o ≡ false) × (queue_in o ≡ [])

reset_at : (n m code : ℕ) (s : State) → Holds s → m ≡ n → Shut (stream_at (after_reset m code s).streams n)
unfolding after_reset
reset_at n m code s h same =
    subst (λ (ss : List Stream). Shut (stream_at ss n)) (sym (reply_streams (reset_frame m code) (on_stream m shut s)))
    (subst (λ (j : ℕ). Shut (stream_at (on_stream j shut s).streams n)) (sym same)
    (at_tidied Shut 0 n (change s.streams n shut) (λ st e q. (refl, refl)) (climbing 0 s.opened (change s.streams n shut) (rises_change 0 s.opened s.streams n shut (λ y. refl) (rises 0 s.opened s.streams h.rising)))
    (by_stream (stream_at (change s.streams n shut) n) refl)))
  where
    by_stream : (o : Option Stream) → stream_at (change s.streams n shut) n ≡ o → Shut o
    by_stream None e = (refl, refl)
    by_stream (Some st) e = changed_all (λ (x : Stream). (x.own_open ≡ false) × (x.queue ≡ [])) s.streams n shut (λ y. refl) (λ y. (refl, refl)) st e

reset_orders : (n m code : ℕ) (s : State) (queued sent : List ℕ) (ended : Bool) → Holds s → refusal (λ st. st.own_open) s m ≡ None → Orders n s queued sent ended → Orders n (after_reset m code s) queued sent ended
reset_orders n m code s queued sent ended h ok k = by_test (eqb m n) refl
  where
    t : State
    t = after_reset m code s

    own : m ≡ n → own_in (stream_at s.streams n) ≡ true
    own same = subst (λ (j : ℕ). own_in (stream_at s.streams j) ≡ true) same (own_of_call (λ st. st.own_open) s m (λ st e. e) (fits_of (λ st. st.own_open) s m ok))

    by_test : (b : Bool) → eqb m n ≡ b → Orders n t queued sent ended
    by_test true e =
        let gone = reset_at n m code s h (eqb-true m n e) in
        cut_to n s t queued sent ended (let same = reset_opened m code s in omega (arith, same)) gone.0 gone.1
        (λ x. absurd (let both : true ≡ false = sym (own (eqb-true m n e)) ∙ k.over x in cc)) k
    by_test false e = stream_same n s t queued sent ended (sym (reset_opened m code s)) ((calls_leave_others s m n h (eqb-false m n e)).reset code) k

-- ---- moves

-- a half that is open after a move was open before
move_own : (s : State) (move : Move) (n : ℕ) → Holds s → own_in (stream_at (after_move s move).streams n) ≡ true → own_in (stream_at s.streams n) ≡ true
move_own s move n h =
    move_there (λ o. own_in o ≡ true → own_in (stream_at s.streams n) ≡ true) s move n h (λ st e q x. absurd cc) (λ st q. q) (λ count st q. q) (λ server st q x. absurd cc) (λ st q. q) (λ x. x)

-- the end of a half is written where it was open, which it is no longer
record Ends (s : State) (move : Move) (n : ℕ) : Type 0 where
  before : own_in (stream_at s.streams n) ≡ true
  after : own_in (stream_at (after_move s move).streams n) ≡ false

end_closes : (s : State) (k : ℕ) (st : Stream) → Holds s → stream_at s.streams k ≡ Some st → own_in (stream_at (after_move s (End k)).streams k) ≡ false
unfolding after_move
end_closes s k st h e =
    subst (λ (o : Option Stream). own_in (stream_at (made s (End k) o).streams k) ≡ false) (sym e)
    (at_tidied (λ o. own_in o ≡ false) 0 k (change s.streams k ended) (λ x gone q. refl) (climbing 0 s.opened (change s.streams k ended) (rises_change 0 s.opened s.streams k ended (λ y. refl) (rises 0 s.opened s.streams h.rising)))
    (by_stream (stream_at (change s.streams k ended) k) refl))
  where
    ended : Stream → Stream
    ended = own_ended (not (is_client s.role))

    by_stream : (o : Option Stream) → stream_at (change s.streams k ended) k ≡ o → own_in o ≡ false
    by_stream None t = refl
    by_stream (Some x) t = changed_all (λ (y : Stream). y.own_open ≡ false) s.streams k ended (λ y. refl) (λ y. refl) x t

move_ends : (s : State) (move : Move) (n : ℕ) → Holds s → may s move ≡ true → ends_half n move ≡ true → Ends s move n
move_ends s GrantAll n h ok e = absurd cc
move_ends s (Grant k) n h ok e = absurd cc
move_ends s (Send k count) n h ok e = absurd cc
move_ends s (Stop k) n h ok e = absurd cc
move_ends s (End k) n h ok e =
    let same : k ≡ n = eqb-true k n e in
    let found = found_open s.streams k can_end (move_parts s (End k) ok).due in
    let own : found.0.own_open ≡ true = (end_parts found.0 found.1.passed).own in
    subst (λ (j : ℕ). Ends s (End k) j) same (record { before = ap own_in found.1.found ∙ own; after = end_closes s k found.0 h found.1.found })

moved_on : (n opened : ℕ) (own own' e ended : Bool) (queue queue' queued sent text : List ℕ) → text ++ queue' ≡ queue → (own' ≡ true → own ≡ true) → (e ≡ true → own ≡ true) → (e ≡ true → own' ≡ false)
    → IsNew queued (sent ++ text) (ended || e) ⊎ (n ≤ opened) → InOrder n opened own queue queued sent ended → InOrder n opened own' queue' queued (sent ++ text) (ended || e)
moved_on n opened own own' e ended queue queue' queued sent text cut back was closes new k = record {
  new = new;
  front = (k.front.0, k.front.1 ∙ ap (λ (q : List ℕ). sent ++ (q ++ k.front.0)) (sym cut) ∙ ap (λ (q : List ℕ). sent ++ q) (append_assoc text queue' k.front.0) ∙ sym (append_assoc sent text (queue' ++ k.front.0)));
  whole = λ h. k.whole (before h) ∙ ap (λ (q : List ℕ). sent ++ q) (sym cut) ∙ sym (append_assoc sent text queue');
  over = over ended k.over;
}
  where
    of_end : (b : Bool) → (b || e) ≡ true → (own ≡ true) ⊎ (b ≡ true)
    of_end true h = inr refl
    of_end false h = inl (was h)

    before : ((own' ≡ true) ⊎ ((ended || e) ≡ true)) → (own ≡ true) ⊎ (ended ≡ true)
    before (inl h) = inl (back h)
    before (inr h) = of_end ended h

    not_open : (b : Bool) → own' ≡ b → own ≡ false → own' ≡ false
    not_open true t o = absurd (let both : true ≡ false = sym (back t) ∙ o in cc)
    not_open false t o = t

    over : (b : Bool) → (b ≡ true → own ≡ false) → (b || e) ≡ true → own' ≡ false
    over true o h = not_open own' refl (o refl)
    over false o h = closes h

move_orders : (n : ℕ) (move : Move) (s : State) (queued sent : List ℕ) (ended : Bool) → Holds s → may s move ≡ true → Orders n s queued sent ended
    → Orders n (after_move s move) queued (sent ++ moved_text n s move) (ended || ends_half n move)
move_orders n move s queued sent ended h ok k =
    subst (λ (j : ℕ). InOrder n j (own_in (stream_at t.streams n)) (queue_of t n) queued (sent ++ moved_text n s move) (ended || ends_half n move)) (sym (opened_move s move))
    (moved_on n s.opened (own_in (stream_at s.streams n)) (own_in (stream_at t.streams n)) (ends_half n move) ended (queue_of s n) (queue_of t n) queued sent (moved_text n s move)
    (move_order s move n h ok) (move_own s move n h) (λ e. (move_ends s move n h ok e).before) (λ e. (move_ends s move n h ok e).after) (by_test (leb n s.opened) refl) k)
  where
    t : State
    t = after_move s move

    no_front : (xs ys : List ℕ) → xs ++ ys ≡ [] → xs ≡ []
    no_front [] ys e = refl
    no_front (x ∷ xs) ys e = absurd cc

    no_end : (b : Bool) → ends_half n move ≡ b → own_in (stream_at s.streams n) ≡ false → ends_half n move ≡ false
    no_end true e none = absurd (let both : true ≡ false = sym (move_ends s move n h ok e).before ∙ none in cc)
    no_end false e none = e

    of_new : s.opened < n → IsNew queued (sent ++ moved_text n s move) (ended || ends_half n move) ⊎ (n ≤ s.opened)
    of_new above = elim k.new [
      | inr there ↦ inr there
      | inl i ↦
          let none = none_there s n h above in
          let text : moved_text n s move ≡ [] = no_front (moved_text n s move) (queue_of t n) (move_order s move n h ok ∙ ap queue_in none) in
          let e : ends_half n move ≡ false = no_end (ends_half n move) refl (ap own_in none) in
          inl (i.0, ap (λ (q : List ℕ). q ++ moved_text n s move) i.1 ∙ text, ap (λ (b : Bool). b || ends_half n move) i.2 ∙ e)
    ]

    by_test : (b : Bool) → leb n s.opened ≡ b → IsNew queued (sent ++ moved_text n s move) (ended || ends_half n move) ⊎ (n ≤ s.opened)
    by_test true e = inr (leb-true n s.opened e)
    by_test false e = of_new (leb-false n s.opened e)

-- ---- an act

-- of a course
abbrev Ordered : ℕ → Course → Type 0
Ordered n c = Orders n c.connection.state c.queued c.sent c.ended

-- an act that adds nothing to what was queued or sent, and writes no end
none_sent : (n : ℕ) (t : State) (queued sent : List ℕ) (ended : Bool) → Orders n t queued sent ended → Orders n t queued (sent ++ []) (ended || false)
none_sent n t queued sent ended k =
    subst (λ (q : List ℕ). Orders n t queued q (ended || false)) (sym (append-nil sent)) (subst (λ (b : Bool). Orders n t queued sent b) (or_false ended) k)
  where
    or_false : (b : Bool) → b ≡ (b || false)
    or_false true = refl
    or_false false = refl

none_queued : (n : ℕ) (t : State) (queued sent : List ℕ) (ended : Bool) → Orders n t queued sent ended → Orders n t (queued ++ []) sent ended
none_queued n t queued sent ended k = subst (λ (q : List ℕ). Orders n t q sent ended) (sym (append-nil queued)) k

nothing_more : (n : ℕ) (t : State) (queued sent : List ℕ) (ended : Bool) → Orders n t queued sent ended → Orders n t (queued ++ []) (sent ++ []) (ended || false)
nothing_more n t queued sent ended k = none_queued n t queued (sent ++ []) (ended || false) (none_sent n t queued sent ended k)

act_orders : (n : ℕ) (role : Role) (c : Course) (a : Act) → MayDo c.connection.state a → IsCut role c → Ordered n c → Ordered n (after_act n c a)
unfolding after_took
act_orders n role c (Feeds piece) ok h k = nothing_more n (after_piece c.connection piece).state c.queued c.sent c.ended (piece_orders n c.connection piece c.queued c.sent c.ended h.sound ok k)
act_orders n role c (Tells count) ok h k = nothing_more n c.connection.state c.queued c.sent c.ended k
act_orders n role c (Takes m count) ok h k = nothing_more n (after_take m count c.connection.state) c.queued c.sent c.ended (take_orders n m count c.connection.state c.queued c.sent c.ended h.sound.holds k)
act_orders n role c (Begins fields) ok h k = nothing_more n (after_begin fields c.connection.state) c.queued c.sent c.ended (begin_orders n fields c.connection.state c.queued c.sent c.ended h.sound.holds k)
act_orders n role c (Answers m fields) ok h k = nothing_more n (after_answer m fields c.connection.state) c.queued c.sent c.ended (answer_orders n m fields c.connection.state c.queued c.sent c.ended h.sound.holds k)
act_orders n role c (Queues m bytes) ok h k =
    none_sent n (after_queue m bytes c.connection.state) (c.queued ++ queued_by n (Queues m bytes)) c.sent c.ended (queue_orders n m bytes c.connection.state c.queued c.sent c.ended h.sound.holds ok.0 k)
act_orders n role c (Finishes m trailers) ok h k = nothing_more n (after_finish m trailers c.connection.state) c.queued c.sent c.ended (finish_orders n m trailers c.connection.state c.queued c.sent c.ended k)
act_orders n role c (Resets m code) ok h k = nothing_more n (after_reset m code c.connection.state) c.queued c.sent c.ended (reset_orders n m code c.connection.state c.queued c.sent c.ended h.sound.holds ok k)
act_orders n role c (Makes move) ok h k =
    none_queued n (after_move c.connection.state move) c.queued (c.sent ++ moved_text n c.connection.state move) (c.ended || ends_half n move) (move_orders n move c.connection.state c.queued c.sent c.ended h.sound.holds ok k)
act_orders n role c (Writes count) ok h k = nothing_more n (after_took count c.connection.state) c.queued c.sent c.ended k

at_first : (n : ℕ) (role : Role) → Ordered n (begins role)
unfolding fresh fresh_state stream_at
at_first n role = born n 0 false [] [] [] false (refl, refl, refl) refl

pub queued_is_sent : QueuedIsSent
queued_is_sent n role acts ok =
    let k = every_life (λ j r c. Ordered j c) (λ j r. record { first = at_first j r; step = λ c a may h p. act_orders j r c a may h p }) n role acts ok in
    record { front = k.front; whole = k.whole }
