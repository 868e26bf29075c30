-- The text of a stream that is taken is what the peer sent on it.
use Rattle.std.proofs.Common.{◌≡◌, ◌⊎◌, inl, inr, ℕ, ◌+◌, ◌<◌, ◌≤◌, ◌%◌, Bool, true, false, not, ◌&&◌, ◌||◌, cond, eqb, leb, ltb, List, [], ◌∷◌, ◌++◌, length, take, drop, Option, Some, None, refl, sym, ap, ◌∙◌, subst, append-nil, append_assoc, arith}
use Rattle.std.specs.List.{AllByRecursion}
use Rattle.std.proofs.lemmas.List.{take-append-drop, drop_all}
use Rattle.std.proofs.lemmas.Bool.{eqb-true, eqb-false, and_parts, or_parts, or_right, leb-true, leb-false, ltb-false}
use Rattle.kn_frames.specs.declared.frame.Frame.{Frame}
use Rattle.kn_frames.specs.Frames.{IsWithinLimits}
use Rattle.kn_frames.specs.Readers.{Reading, after_bytes, frames_in}
use Rattle.kn_hpack.specs.Fields.{Field}
use Rattle.kn_hpack.specs.Strings.{IsBytes}
use Rattle.kn_hpack.specs.Encoding.{block_of}
use Rattle.kn_h2_state.specs.declared.role.Role.{Role}
use Rattle.kn_h2_state.specs.declared.event.H2Event.TheVariants.{Reset}
use Rattle.kn_h2_state.specs.declared.moves.Move.{Move}
use Rattle.kn_h2_state.specs.declared.stream.Stream.{Stream}
use Rattle.kn_h2_state.specs.declared.state.State.{State}
use Rattle.kn_h2_state.specs.Streams.{stream_at, change, is_open, is_kept, passes, shut}
use Rattle.kn_h2_state.specs.Payloads.{content, number_at, reset_frame}
use Rattle.kn_h2_state.specs.Rules.{is_client, verdict, is_idle}
use Rattle.kn_h2_state.specs.Effects.{event, reply, on_stream, if_open, new_stream, cut_off, reset_of, effect}
use Rattle.kn_h2_state.specs.Feeding.{after_frame, after_frames, after_piece}
use Rattle.kn_h2_state.specs.Moves.{headers_frames, after_move}
use Rattle.kn_h2_state.specs.Calls.{fresh, fresh_state, text_in, text_of, next_number, with_taken, with_queued, with_finish, after_take, after_begin, after_queue, after_finish, after_answer, after_reset, after_took}
use Rattle.kn_h2_state.specs.Hearing.{is_peer_open, is_reset_of, StaysOpen}
use Rattle.kn_h2_state.specs.Wire.{frame_text, texts_in, wire_text, Hears}
use Rattle.kn_h2_state.specs.Holding.{Holds}
use Rattle.kn_h2_state.proofs.PieceLaws.{frames-append}
use Rattle.kn_h2_state.proofs.WireLaws.{wire_splits}
use Rattle.kn_h2_state.proofs.HearLaws.{frames_are_heard, closed_text_stays, closed_stays_closed}
use Rattle.kn_h2_state.proofs.OtherLaws.{reply_streams, calls_leave_others, begins_leave_others}
use Rattle.kn_h2_state.proofs.OpenLaws.{frames_open_above}
use Rattle.kn_h2_state.proofs.SeenLemmas.{KeepsNumber, at_changed, no_text_left, text_change, text_tidied}
use Rattle.kn_h2_state.proofs.BorneLemmas.{rises, climbing, rises_change, at_change, at_tidied, at_push}
use Rattle.kn_h2.proofs.RuleLemmas.{passes_rules}
use Rattle.kn_h2.proofs.FrameBounds.{holds_after_frame}
use Rattle.kn_h2.proofs.HoldsLemmas.{holds_began}
use Rattle.kn_h2.proofs.OwnWindows.{none_changed}
use Rattle.kn_h2.proofs.BeginLemmas.{next_above}
use Rattle.kn_h2_courses.specs.Courses.{Act, Feeds, Tells, Takes, Begins, Answers, Queues, Finishes, Resets, Makes, Writes, MayDo, after, fed_by, heard_in, heard_by, given_by, Course, begins, first_reading}
use Rattle.kn_h2_courses.specs.Texts.{is_reset_in, peer_in, TextIsHeard}
use Rattle.kn_h2_courses.proofs.ByteLemmas.{frames_fit}
use Rattle.kn_h2_courses.proofs.LifeLemmas.{goes_on, going_before, piece_goes_on, going_act, IsCut, every_life}
use Rattle.kn_h2_courses.proofs.StreamSteps.{begun_opened, reset_opened, none_there, changed_all, reply_opened, on_there, move_there, opened_move}

-- ---- of one stream, over values

record Texts (n opened : ℕ) (half : Bool) (text given heard wire : List ℕ) (reset : Bool) : Type 0 where
  front : (lost : List ℕ) × (heard ≡ given ++ (text ++ lost))
  whole : reset ≡ false → heard ≡ given ++ text
  over : reset ≡ true → (half ≡ false) × (n ≤ opened)
  fresh : opened < n → (wire ≡ []) × (heard ≡ [])
  came : (later : List ℕ) × (wire ≡ heard ++ later)
  open_half : half ≡ true → heard ≡ wire

no_true : {A : Type 0} (b : Bool) → b ≡ true → b ≡ false → A
no_true b e f = absurd (let both : true ≡ false = sym e ∙ f in cc)

is_false : (b : Bool) → (b ≡ true → false ≡ true) → b ≡ false
is_false true h = sym (h refl)
is_false false h = refl

-- the text is as it was, and the half is not opened
same_text : (n opened opened' : ℕ) (half half' : Bool) (text text' given heard wire : List ℕ) (reset : Bool) → opened ≤ opened' → text' ≡ text → (half' ≡ true → half ≡ true)
    → Texts n opened half text given heard wire reset → Texts n opened' half' text' given heard wire reset
same_text n opened opened' half half' text text' given heard wire reset le same back k = record {
  front = (k.front.0, k.front.1 ∙ ap (λ (q : List ℕ). given ++ (q ++ k.front.0)) (sym same));
  whole = λ e. k.whole e ∙ ap (λ (q : List ℕ). given ++ q) (sym same);
  over = λ e. (is_false half' (λ t. no_true half (back t) (k.over e).0), raised (k.over e).1);
  fresh = λ above. k.fresh (omega (arith, le, above));
  came = k.came;
  open_half = λ e. k.open_half (back e);
}
  where
    raised : n ≤ opened → n ≤ opened'
    raised there = omega (arith, there, le)

-- some of it is taken
take_text : (n opened : ℕ) (half half' : Bool) (count : ℕ) (text text' given heard wire : List ℕ) (reset : Bool) → text' ≡ drop count text → (half' ≡ true → half ≡ true)
    → Texts n opened half text given heard wire reset → Texts n opened half' text' (given ++ take count text) heard wire reset
take_text n opened half half' count text text' given heard wire reset same back k = record {
  front = (
    k.front.0,
    k.front.1 ∙ ap (λ (q : List ℕ). given ++ (q ++ k.front.0)) (sym whole_text) ∙ ap (λ (q : List ℕ). given ++ q) (append_assoc (take count text) text' k.front.0)
        ∙ sym (append_assoc given (take count text) (text' ++ k.front.0)),
  );
  whole = λ e. k.whole e ∙ ap (λ (q : List ℕ). given ++ q) (sym whole_text) ∙ sym (append_assoc given (take count text) text');
  over = λ e. (is_false half' (λ t. no_true half (back t) (k.over e).0), (k.over e).1);
  fresh = k.fresh;
  came = k.came;
  open_half = λ e. k.open_half (back e);
}
  where
    whole_text : take count text ++ text' ≡ text
    whole_text = ap (λ (q : List ℕ). take count text ++ q) same ∙ take-append-drop count text

-- of the state
abbrev Has : ℕ → State → List ℕ → List ℕ → List ℕ → Bool → Type 0
Has n s given heard wire reset = Texts n s.opened (peer_in (stream_at s.streams n)) (text_of s n) given heard wire reset

-- ---- frames

peer_passes : (o : Option Stream) → passes (λ st. st.peer_open) o ≡ peer_in o
peer_passes None = refl
peer_passes (Some st) = by_half st.peer_open
  where
    and_no : (c : Bool) → (c && false) ≡ false
    and_no true = refl
    and_no false = refl

    by_half : (b : Bool) → ((b || st.own_open) && b) ≡ b
    by_half true = refl
    by_half false = and_no st.own_open

-- a frame of the stream that breaks no rule, and is no header block, has a stream that was opened
not_idle : (s : State) (f : Frame) → verdict s f ≡ None → (eqb f.kind 0 || eqb f.kind 3) ≡ true → f.stream ≤ s.opened
not_idle s f v kind = ltb-false s.opened f.stream (or_parts (eqb (f.stream % 2) 0) (ltb s.opened f.stream) (of_kinds (eqb f.kind 0 || eqb f.kind 3) _ (is_idle s f.stream) kind (passes_rules s f v).idle)).1
  where
    of_kinds : (a b i : Bool) → a ≡ true → ((a || b) && i) ≡ false → i ≡ false
    of_kinds true b i t e = e
    of_kinds false b i t e = absurd cc

no_text_yet : (n : ℕ) (s : State) (f : Frame) → verdict s f ≡ None → s.opened < n → frame_text n f ≡ []
unfolding frame_text
no_text_yet n s f v above = by_test (eqb f.kind 0) refl (eqb f.stream n) refl
  where
    by_test : (a : Bool) → eqb f.kind 0 ≡ a → (b : Bool) → eqb f.stream n ≡ b → cond (a && b) (content f) [] ≡ []
    by_test false k b t = refl
    by_test true k false t = refl
    by_test true k true t =
        let same : f.stream ≡ n = eqb-true f.stream n t in
        let low = not_idle s f v (ap (λ (c : Bool). c || eqb f.kind 3) k) in
        absurd (omega (arith, same, low, above))

-- RST_STREAM
reset_effect : (s : State) (f : Frame) → f.kind ≡ 3 → effect s f ≡ if_open (stream_at s.streams f.stream) s (λ st. reset_of f st s)
unfolding effect
reset_effect s f e = rw e refl

-- the text stays, or is gone, and the half is closed
abbrev Closed : ℕ → State → State → Type 0
Closed n s t = ((text_of t n ≡ text_of s n) ⊎ (text_of t n ≡ [])) × (peer_in (stream_at t.streams n) ≡ false)

closed_on : (n : ℕ) (f : Stream → Stream) (s : State) → Holds s → KeepsNumber f → ((st : Stream) → (f st).peer_open ≡ false) → peer_in (stream_at (on_stream n f s).streams n) ≡ false
closed_on n f s h keeps shuts =
    at_tidied (λ o. peer_in o ≡ false) 0 n (change s.streams n f) (λ st e q. refl) (climbing 0 s.opened (change s.streams n f) (rises_change 0 s.opened s.streams n f keeps (rises 0 s.opened s.streams h.rising)))
    (by_stream (stream_at (change s.streams n f) n) refl)
  where
    by_stream : (o : Option Stream) → stream_at (change s.streams n f) n ≡ o → peer_in o ≡ false
    by_stream None e = refl
    by_stream (Some st) e = changed_all (λ (x : Stream). x.peer_open ≡ false) s.streams n f keeps shuts st e

text_on : (n m : ℕ) (f : Stream → Stream) (s : State) → Holds s → KeepsNumber f → ((st : Stream) → (f st).text ≡ st.text) → text_of (on_stream m f s) n ≡ text_of s n
text_on n m f s h keeps same =
    text_tidied 0 n (change s.streams m f) (climbing 0 s.opened (change s.streams m f) (rises_change 0 s.opened s.streams m f keeps (rises 0 s.opened s.streams h.rising)))
    ∙ text_change s.streams m n f keeps same

emptied_on : (n : ℕ) (f : Stream → Stream) (s : State) → Holds s → KeepsNumber f → ((st : Stream) → (f st).text ≡ []) → text_of (on_stream n f s) n ≡ []
emptied_on n f s h keeps none =
    at_tidied (λ o. text_in o ≡ []) 0 n (change s.streams n f) (λ st e q. refl) (climbing 0 s.opened (change s.streams n f) (rises_change 0 s.opened s.streams n f keeps (rises 0 s.opened s.streams h.rising)))
    (by_stream (stream_at (change s.streams n f) n) refl)
  where
    by_stream : (o : Option Stream) → stream_at (change s.streams n f) n ≡ o → text_in o ≡ []
    by_stream None e = refl
    by_stream (Some st) e = changed_all (λ (x : Stream). x.text ≡ []) s.streams n f keeps none st e

reset_closes : (n : ℕ) (s : State) (f : Frame) → Holds s → f.stream ≡ n → Closed n s (if_open (stream_at s.streams n) s (λ st. reset_of f st s))
unfolding reset_of cut_off
reset_closes n s f h same = by_stream (stream_at s.streams n) refl
  where
    emptied : Stream → Stream
    emptied st = record (shut st) { text = [] }

    of_test : (b : Bool) (st : Stream) → Closed n s (cond b (on_stream f.stream shut s) (event (record (on_stream f.stream emptied s) { owed = s.owed + length st.text }) (Reset f.stream (number_at f.payload 0))))
    of_test true st = subst (λ (j : ℕ). Closed n s (on_stream j shut s)) (sym same) (inl (text_on n n shut s h (λ y. refl) (λ y. refl)), closed_on n shut s h (λ y. refl) (λ y. refl))
    of_test false st =
        subst (λ (j : ℕ). ((text_of (on_stream j emptied s) n ≡ text_of s n) ⊎ (text_of (on_stream j emptied s) n ≡ [])) × (peer_in (stream_at (on_stream j emptied s).streams n) ≡ false)) (sym same)
        (inr (emptied_on n emptied s h (λ y. refl) (λ y. refl)), closed_on n emptied s h (λ y. refl) (λ y. refl))

    by_open : (b : Bool) (st : Stream) → is_open st ≡ b → stream_at s.streams n ≡ Some st → Closed n s (cond b (reset_of f st s) s)
    by_open true st e there = of_test (is_client s.role && eqb (number_at f.payload 0) 0 && not st.peer_open) st
    by_open false st e there = (inl refl, ap peer_in there ∙ (or_parts st.peer_open st.own_open e).0)

    by_stream : (o : Option Stream) → stream_at s.streams n ≡ o → Closed n s (if_open o s (λ st. reset_of f st s))
    by_stream None e = (inl refl, ap peer_in e)
    by_stream (Some st) e = by_open (is_open st) st refl e

or_false : (b : Bool) → (b || false) ≡ b
or_false true = refl
or_false false = refl

or_true : (b : Bool) → (b || true) ≡ true
or_true true = refl
or_true false = refl

-- text comes on an open half
grow_text : (n opened opened' : ℕ) (half' : Bool) (text text' given heard wire x : List ℕ) (reset : Bool) → opened ≤ opened' → text' ≡ text ++ x → (opened < n → x ≡ [])
    → Texts n opened true text given heard wire reset → Texts n opened' half' text' given (heard ++ x) (wire ++ x) (reset || false)
grow_text n opened opened' half' text text' given heard wire x reset le grows nothing k = record {
  front = ([], all ∙ ap (λ (q : List ℕ). given ++ q) (sym (append-nil text')));
  whole = λ e. all;
  over = λ e. no_true true refl (k.over (sym (or_false reset) ∙ e)).0;
  fresh = λ above. let low : opened < n = omega (arith, le, above) in let f = k.fresh low in (ap (λ (q : List ℕ). q ++ x) f.0 ∙ nothing low, ap (λ (q : List ℕ). q ++ x) f.1 ∙ nothing low);
  came = ([], sym same ∙ sym (append-nil (heard ++ x)));
  open_half = λ e. same;
}
  where
    none_lost : (b : Bool) → reset ≡ b → reset ≡ false
    none_lost true e = no_true true refl (k.over e).0
    none_lost false e = e

    all : heard ++ x ≡ given ++ text'
    all = ap (λ (q : List ℕ). q ++ x) (k.whole (none_lost reset refl)) ∙ append_assoc given text x ∙ ap (λ (q : List ℕ). given ++ q) (sym grows)

    same : heard ++ x ≡ wire ++ x
    same = ap (λ (q : List ℕ). q ++ x) (k.open_half refl)

-- none comes on one that is closed
idle_text : (n opened opened' : ℕ) (half' : Bool) (text text' given heard wire x : List ℕ) (reset : Bool) → opened ≤ opened' → text' ≡ text → (opened < n → x ≡ []) → (opened < n) ⊎ ((n ≤ opened) × (half' ≡ false))
    → Texts n opened false text given heard wire reset → Texts n opened' half' text' given (heard ++ []) (wire ++ x) (reset || false)
idle_text n opened opened' half' text text' given heard wire x reset le stays nothing stage k = record {
  front = (k.front.0, append-nil heard ∙ k.front.1 ∙ ap (λ (q : List ℕ). given ++ (q ++ k.front.0)) (sym stays));
  whole = λ e. append-nil heard ∙ k.whole (sym (or_false reset) ∙ e) ∙ ap (λ (q : List ℕ). given ++ q) (sym stays);
  over = λ e. closed stage (k.over (sym (or_false reset) ∙ e)).1;
  fresh = λ above. let low : opened < n = omega (arith, le, above) in (none low, append-nil heard ∙ (k.fresh low).1);
  came = (k.came.0 ++ x, ap (λ (q : List ℕ). q ++ x) k.came.1 ∙ append_assoc heard k.came.0 x ∙ ap (λ (q : List ℕ). q ++ (k.came.0 ++ x)) (sym (append-nil heard)));
  open_half = λ e. opens stage e;
}
  where
    none : opened < n → wire ++ x ≡ []
    none low = ap (λ (q : List ℕ). q ++ x) (k.fresh low).0 ∙ nothing low

    closed : (opened < n) ⊎ ((n ≤ opened) × (half' ≡ false)) → n ≤ opened → (half' ≡ false) × (n ≤ opened')
    closed (inl above) there = absurd (omega (arith, above, there))
    closed (inr q) there = (q.1, omega (arith, there, le))

    opens : (opened < n) ⊎ ((n ≤ opened) × (half' ≡ false)) → half' ≡ true → heard ++ [] ≡ wire ++ x
    opens (inl low) e = append-nil heard ∙ (k.fresh low).1 ∙ sym (none low)
    opens (inr q) e = no_true half' e q.1

-- the stream is reset
reset_text : (n opened opened' : ℕ) (half : Bool) (text text' given heard wire : List ℕ) (reset : Bool) → n ≤ opened' → ((text' ≡ text) ⊎ (text' ≡ [])) → Texts n opened half text given heard wire reset
    → Texts n opened' false text' given heard wire (reset || true)
reset_text n opened opened' half text text' given heard wire reset there gone k = record {
  front = lost gone;
  whole = λ e. no_true (reset || true) (or_true reset) e;
  over = λ e. (refl, there);
  fresh = λ above. absurd (omega (arith, there, above));
  came = k.came;
  open_half = λ e. no_true false e refl;
}
  where
    lost : ((text' ≡ text) ⊎ (text' ≡ [])) → (lost : List ℕ) × (heard ≡ given ++ (text' ++ lost))
    lost (inl e) = (k.front.0, k.front.1 ∙ ap (λ (q : List ℕ). given ++ (q ++ k.front.0)) (sym e))
    lost (inr e) = (text ++ k.front.0, k.front.1 ∙ ap (λ (q : List ℕ). given ++ (q ++ (text ++ k.front.0))) (sym e))

-- an open half hears what comes
hears : (n : ℕ) (s : State) (f : Frame) → Holds s → (after_frame s f).failed ≡ None → is_peer_open n s ≡ true → is_reset_of n f ≡ false → text_of (after_frame s f) n ≡ text_of s n ++ frame_text n f
unfolding after_frames Hears StaysOpen
hears n s f h e half other = (frames_are_heard n s (f ∷ []) h e (half, other, tt)).each.0

-- a half that is closed stays so
closed_after : (n : ℕ) (s : State) (f : Frame) → Holds s → n ≤ s.opened → is_peer_open n s ≡ false → is_peer_open n (after_frame s f) ≡ false
unfolding after_frames
closed_after n s f h there half = (closed_stays_closed n s (f ∷ []) h there half).closed

no_text_reset : (n : ℕ) (f : Frame) → f.kind ≡ 3 → frame_text n f ≡ []
unfolding frame_text
no_text_reset n f e = rw e refl

nothing : (b : Bool) (x : List ℕ) → x ≡ [] → cond b x [] ≡ []
nothing true x e = e
nothing false x e = refl

reset_closed : (n : ℕ) (s : State) (f : Frame) → Holds s → (after_frame s f).failed ≡ None → f.kind ≡ 3 → f.stream ≡ n → Closed n s (after_frame s f)
reset_closed n s f h e three same =
    let t : State = record s { began = true } in
    let is : after_frame s f ≡ if_open (stream_at s.streams n) t (λ st. reset_of f st t) =
    (goes_on s f e).after ∙ reset_effect t f three ∙ ap (λ (j : ℕ). if_open (stream_at s.streams j) t (λ st. reset_of f st t)) same in
    subst (λ (u : State). Closed n s u) (sym is) (reset_closes n t f (holds_began s h) same)

frame_has : (n : ℕ) (s : State) (f : Frame) (given heard wire : List ℕ) (reset : Bool) → Holds s → (after_frame s f).failed ≡ None → Has n s given heard wire reset
    → Has n (after_frame s f) given (heard ++ cond (is_peer_open n s) (frame_text n f) []) (wire ++ frame_text n f) (reset || is_reset_of n f)
frame_has n s f given heard wire reset h e k = by_reset (is_reset_of n f) refl
  where
    t : State
    t = after_frame s f

    x : List ℕ
    x = frame_text n f

    v : verdict s f ≡ None
    v = (goes_on s f e).verdict

    le : s.opened ≤ t.opened
    le = (frames_open_above s f h).opened

    half : is_peer_open n s ≡ peer_in (stream_at s.streams n)
    half = peer_passes (stream_at s.streams n)

    half' : is_peer_open n t ≡ peer_in (stream_at t.streams n)
    half' = peer_passes (stream_at t.streams n)

    stage : is_peer_open n s ≡ false → (s.opened < n) ⊎ ((n ≤ s.opened) × (peer_in (stream_at t.streams n) ≡ false))
    stage closed = by_test (leb n s.opened) refl
      where
        by_test : (b : Bool) → leb n s.opened ≡ b → (s.opened < n) ⊎ ((n ≤ s.opened) × (peer_in (stream_at t.streams n) ≡ false))
        by_test true q = let there = leb-true n s.opened q in inr (there, sym half' ∙ closed_after n s f h there closed)
        by_test false q = inl (leb-false n s.opened q)

    before : (b : Bool) → is_peer_open n s ≡ b → Texts n s.opened b (text_of s n) given heard wire reset
    before b q = subst (λ (c : Bool). Texts n s.opened c (text_of s n) given heard wire reset) (sym half ∙ q) k

    by_half : (b : Bool) → is_peer_open n s ≡ b → is_reset_of n f ≡ false → Has n t given (heard ++ cond b x []) (wire ++ x) (reset || false)
    by_half true q other =
        grow_text n s.opened t.opened (peer_in (stream_at t.streams n)) (text_of s n) (text_of t n) given heard wire x reset le (hears n s f h e q other) (no_text_yet n s f v) (before true q)
    by_half false q other =
        idle_text n s.opened t.opened (peer_in (stream_at t.streams n)) (text_of s n) (text_of t n) given heard wire x reset le ((closed_text_stays n s f h).half q other) (no_text_yet n s f v) (stage q) (before false q)

    by_reset : (b : Bool) → is_reset_of n f ≡ b → Has n t given (heard ++ cond (is_peer_open n s) x []) (wire ++ x) (reset || b)
    by_reset true q =
        let parts = and_parts (eqb f.kind 3) (eqb f.stream n) q in
        let three : f.kind ≡ 3 = eqb-true f.kind 3 parts.0 in
        let same : f.stream ≡ n = eqb-true f.stream n parts.1 in
        let low = not_idle s f v (or_right (eqb f.kind 0) (eqb f.kind 3) parts.0) in
        let closed = reset_closed n s f h e three same in
        let none : x ≡ [] = no_text_reset n f three in
        let is_heard : heard ≡ heard ++ cond (is_peer_open n s) x [] = sym (ap (λ (q : List ℕ). heard ++ q) (nothing (is_peer_open n s) x none) ∙ append-nil heard) in
        let is_wire : wire ≡ wire ++ x = sym (ap (λ (q : List ℕ). wire ++ q) none ∙ append-nil wire) in
        subst (λ (y : List ℕ). Has n t given y (wire ++ x) (reset || true)) is_heard
        (subst (λ (y : List ℕ). Has n t given heard y (reset || true)) is_wire
        (subst (λ (b : Bool). Texts n t.opened b (text_of t n) given heard wire (reset || true)) (sym closed.1)
        (reset_text n s.opened t.opened (peer_in (stream_at s.streams n)) (text_of s n) (text_of t n) given heard wire reset (omega (arith, same, low, le)) closed.0 k)))
    by_reset false q = by_half (is_peer_open n s) refl q

or_assoc : (a b c : Bool) → ((a || b) || c) ≡ (a || (b || c))
or_assoc true b c = refl
or_assoc false b c = refl

frames_have : (n : ℕ) (s : State) (fs : List Frame) (given heard wire : List ℕ) (reset : Bool) → Holds s → AllByRecursion IsWithinLimits fs → (after_frames s fs).failed ≡ None
    → Has n s given heard wire reset → Has n (after_frames s fs) given (heard ++ heard_in n s fs) (wire ++ texts_in n fs) (reset || is_reset_in n fs)
unfolding after_frames heard_in texts_in is_reset_in
frames_have n s [] given heard wire reset h fits e k =
    subst (λ (y : List ℕ). Has n s given y (wire ++ []) (reset || false)) (sym (append-nil heard))
    (subst (λ (y : List ℕ). Has n s given heard y (reset || false)) (sym (append-nil wire)) (subst (λ (b : Bool). Has n s given heard wire b) (sym (or_false reset)) k))
frames_have n s (f ∷ fs) given heard wire reset h fits e k =
    let t : State = after_frame s f in
    let x = cond (is_peer_open n s) (frame_text n f) [] in
    let y = frame_text n f in
    let here = frame_has n s f given heard wire reset h (going_before t fs e) k in
    let later = frames_have n t fs given (heard ++ x) (wire ++ y) (reset || is_reset_of n f) (holds_after_frame s f h fits.0) fits.1 e here in
    subst (λ (z : List ℕ). Has n (after_frames t fs) given z (wire ++ (y ++ texts_in n fs)) (reset || (is_reset_of n f || is_reset_in n fs))) (append_assoc heard x (heard_in n t fs))
    (subst (λ (z : List ℕ). Has n (after_frames t fs) given ((heard ++ x) ++ heard_in n t fs) z (reset || (is_reset_of n f || is_reset_in n fs))) (append_assoc wire y (texts_in n fs))
    (subst (λ (b : Bool). Has n (after_frames t fs) given ((heard ++ x) ++ heard_in n t fs) ((wire ++ y) ++ texts_in n fs) b) (or_assoc reset (is_reset_of n f) (is_reset_in n fs)) later))

resets-append : (n : ℕ) (fs gs : List Frame) → is_reset_in n (fs ++ gs) ≡ (is_reset_in n fs || is_reset_in n gs)
unfolding is_reset_in
resets-append n [] gs = refl
resets-append n (f ∷ fs) gs = ap (λ (b : Bool). is_reset_of n f || b) (resets-append n fs gs) ∙ sym (or_assoc (is_reset_of n f) (is_reset_in n fs) (is_reset_in n gs))

-- ---- an act

-- of a course
abbrev HearsSo : ℕ → Role → State → List ℕ → List ℕ → List ℕ → Type 0
HearsSo n role s fed given heard = Has n s given heard (wire_text n (first_reading role) fed) (is_reset_in n (frames_in (first_reading role) fed))

piece_has : (n : ℕ) (role : Role) (c : Course) (piece : List ℕ) → IsBytes piece → IsCut role c → (after_piece c.connection piece).state.failed ≡ None → HearsSo n role c.connection.state c.fed c.given c.heard
    → HearsSo n role (after_piece c.connection piece).state (c.fed ++ piece) c.given (c.heard ++ heard_by n c.connection (Feeds piece))
piece_has n role c piece bytes h e k =
    let on = piece_goes_on c.connection piece e in
    let r = first_reading role in
    let fs = frames_in c.connection.cutter piece in
    let s = c.connection.state in
    let cut = h.cut on.before in
    let going : (after_frames s fs).failed ≡ None = ap (λ (t : State). t.failed) (sym on.state) ∙ e in
    let has = frames_have n s fs c.given c.heard (wire_text n r c.fed) (is_reset_in n (frames_in r c.fed)) h.sound.holds (frames_fit c.connection.cutter piece h.sound.bytes bytes) going k in
    let wire : wire_text n r c.fed ++ texts_in n fs ≡ wire_text n r (c.fed ++ piece) =
    ap (λ (q : Reading). wire_text n r c.fed ++ wire_text n q piece) cut ∙ sym (wire_splits n r c.fed piece).text in
    let resets : (is_reset_in n (frames_in r c.fed) || is_reset_in n fs) ≡ is_reset_in n (frames_in r (c.fed ++ piece)) =
    ap (λ (q : Reading). is_reset_in n (frames_in r c.fed) || is_reset_in n (frames_in q piece)) cut
    ∙ sym (resets-append n (frames_in r c.fed) (frames_in (after_bytes r c.fed) piece)) ∙ sym (ap (is_reset_in n) (frames-append r c.fed piece)) in
    subst (λ (t : State). Has n t c.given (c.heard ++ heard_in n s fs) (wire_text n r (c.fed ++ piece)) (is_reset_in n (frames_in r (c.fed ++ piece)))) (sym on.state)
    (subst (λ (w : List ℕ). Has n (after_frames s fs) c.given (c.heard ++ heard_in n s fs) w (is_reset_in n (frames_in r (c.fed ++ piece)))) wire
    (subst (λ (b : Bool). Has n (after_frames s fs) c.given (c.heard ++ heard_in n s fs) (wire_text n r c.fed ++ texts_in n fs) b) resets has))

-- the text of a stream, and that its half is not opened
abbrev Quiet : List ℕ → Bool → Option Stream → Type 0
Quiet text half o = (text_in o ≡ text) × (peer_in o ≡ true → half ≡ true)

quiet_gone : (text : List ℕ) (half : Bool) (st : Stream) → is_kept st ≡ false → Quiet text half (Some st) → Quiet text half None
quiet_gone text half st gone q = (sym (no_text_left st gone) ∙ q.0, λ e. absurd cc)

quiet_start : (s : State) (n : ℕ) → Quiet (text_of s n) (peer_in (stream_at s.streams n)) (stream_at s.streams n)
quiet_start s n = (refl, λ e. e)

quiet_has : (n : ℕ) (s t : State) (given heard wire : List ℕ) (reset : Bool) → t.opened ≡ s.opened → Quiet (text_of s n) (peer_in (stream_at s.streams n)) (stream_at t.streams n)
    → Has n s given heard wire reset → Has n t given heard wire reset
quiet_has n s t given heard wire reset same q k =
    same_text n s.opened t.opened (peer_in (stream_at s.streams n)) (peer_in (stream_at t.streams n)) (text_of s n) (text_of t n) given heard wire reset (omega (arith, same)) q.0 q.1 k

-- a change of a stream, also where a reply is written
changed_has : (n m : ℕ) (f : Stream → Stream) (s : State) → KeepsNumber f → ((st : Stream) → (f st).text ≡ st.text) → ((st : Stream) → (f st).peer_open ≡ st.peer_open)
    → Quiet (text_of s n) (peer_in (stream_at s.streams n)) (stream_at (change s.streams m f) n)
changed_has n m f s keeps text half =
    at_change (Quiet (text_of s n) (peer_in (stream_at s.streams n))) s.streams m n f keeps (λ st q. (text st ∙ q.0, λ e. q.1 (sym (half st) ∙ e))) (quiet_start s n)

answer_has : (n m : ℕ) (fields : List Field) (s : State) (given heard wire : List ℕ) (reset : Bool) → Has n s given heard wire reset → Has n (after_answer m fields s) given heard wire reset
unfolding after_answer
answer_has n m fields s given heard wire reset k =
    let answered : Stream → Stream = λ (st : Stream). record st { answered = true } in
    let t : State = record s { streams = change s.streams m answered; encoder = true } in
    let frame = headers_frames m 0 (block_of s.encoder fields) in
    quiet_has n s (reply frame t) given heard wire reset (reply_opened frame t)
    (subst (λ (ss : List Stream). Quiet (text_of s n) (peer_in (stream_at s.streams n)) (stream_at ss n)) (sym (reply_streams frame t)) (changed_has n m answered s (λ y. refl) (λ y. refl) (λ y. refl))) k

queue_has : (n m : ℕ) (bytes : List ℕ) (s : State) (given heard wire : List ℕ) (reset : Bool) → Has n s given heard wire reset → Has n (after_queue m bytes s) given heard wire reset
unfolding after_queue
queue_has n m bytes s given heard wire reset k =
    quiet_has n s (record s { streams = change s.streams m (with_queued bytes) }) given heard wire reset refl (changed_has n m (with_queued bytes) s (λ y. refl) (λ y. refl) (λ y. refl)) k

finish_has : (n m : ℕ) (trailers : List Field) (s : State) (given heard wire : List ℕ) (reset : Bool) → Has n s given heard wire reset → Has n (after_finish m trailers s) given heard wire reset
unfolding after_finish
finish_has n m trailers s given heard wire reset k =
    quiet_has n s (record s { streams = change s.streams m (with_finish trailers) }) given heard wire reset refl (changed_has n m (with_finish trailers) s (λ y. refl) (λ y. refl) (λ y. refl)) k

shut_quiet : (n m code : ℕ) (s : State) → Holds s → Quiet (text_of s n) (peer_in (stream_at s.streams n)) (stream_at (after_reset m code s).streams n)
unfolding after_reset
shut_quiet n m code s h =
    subst (λ (ss : List Stream). Quiet (text_of s n) (peer_in (stream_at s.streams n)) (stream_at ss n)) (sym (reply_streams (reset_frame m code) (on_stream m shut s)))
    (on_there (Quiet (text_of s n) (peer_in (stream_at s.streams n))) s m n shut h (λ y. refl) (quiet_gone (text_of s n) (peer_in (stream_at s.streams n))) (λ st q. (q.0, λ e. absurd cc)) (quiet_start s n))

move_quiet : (n : ℕ) (move : Move) (s : State) → Holds s → Quiet (text_of s n) (peer_in (stream_at s.streams n)) (stream_at (after_move s move).streams n)
move_quiet n move s h =
    move_there (Quiet (text_of s n) (peer_in (stream_at s.streams n))) s move n h (quiet_gone (text_of s n) (peer_in (stream_at s.streams n))) (λ st q. q) (λ count st q. q) (λ server st q. q) (λ st q. (q.0, λ e. absurd cc)) (quiet_start s n)

-- ---- a stream that is begun, and text that is taken

begun_text : (n opened opened' : ℕ) (half half' : Bool) (text text' given heard wire : List ℕ) (reset : Bool) → opened < n → opened' ≡ n → text' ≡ text
    → Texts n opened half text given heard wire reset → Texts n opened' half' text' given heard wire reset
begun_text n opened opened' half half' text text' given heard wire reset low up same k = record {
  front = (k.front.0, k.front.1 ∙ ap (λ (q : List ℕ). given ++ (q ++ k.front.0)) (sym same));
  whole = λ e. k.whole e ∙ ap (λ (q : List ℕ). given ++ q) (sym same);
  over = λ e. absurd (not_yet (k.over e).1);
  fresh = λ above. absurd (omega (arith, up, above));
  came = k.came;
  open_half = λ e. (k.fresh low).1 ∙ sym (k.fresh low).0;
}
  where
    not_yet : n ≤ opened → ⊥
    not_yet there = omega (arith, low, there)

begun_none : (n : ℕ) (fields : List Field) (s : State) → next_number s ≡ n → stream_at s.streams n ≡ None → text_of (after_begin fields s) n ≡ []
unfolding after_begin
begun_none n fields s same none = at_push (λ o. text_in o ≡ []) s.streams n (new_stream (next_number s) s) (λ e. refl) (ap text_in none)

begin_has : (n : ℕ) (fields : List Field) (s : State) (given heard wire : List ℕ) (reset : Bool) → Holds s → Has n s given heard wire reset → Has n (after_begin fields s) given heard wire reset
begin_has n fields s given heard wire reset h k = by_test (eqb (next_number s) n) refl
  where
    t : State
    t = after_begin fields s

    above : s.opened < next_number s
    above = (next_above s.opened h.parity).0

    of_same : next_number s ≡ n → Has n t given heard wire reset
    of_same same =
        let low : s.opened < n = subst (λ (j : ℕ). s.opened < j) same above in
        let none = none_there s n h low in
        begun_text n s.opened t.opened (peer_in (stream_at s.streams n)) (peer_in (stream_at t.streams n)) (text_of s n) (text_of t n) given heard wire reset low (begun_opened fields s ∙ same)
        (begun_none n fields s same none ∙ sym (ap text_in none)) k

    by_test : (b : Bool) → eqb (next_number s) n ≡ b → Has n t given heard wire reset
    by_test true e = of_same (eqb-true (next_number s) n e)
    by_test false e =
        let same : stream_at t.streams n ≡ stream_at s.streams n = begins_leave_others s fields n (eqb-false (next_number s) n e) in
        same_text n s.opened t.opened (peer_in (stream_at s.streams n)) (peer_in (stream_at t.streams n)) (text_of s n) (text_of t n) given heard wire reset
        (let up = begun_opened fields s in omega (arith, up, above)) (ap text_in same) (λ q. sym (ap peer_in same) ∙ q) k

taken_text : (n count : ℕ) (s : State) → Holds s → text_of (after_take n count s) n ≡ drop count (text_of s n)
unfolding after_take
taken_text n count s h =
    text_tidied 0 n (change s.streams n (with_taken count)) (climbing 0 s.opened (change s.streams n (with_taken count)) (rises_change 0 s.opened s.streams n (with_taken count) (λ y. refl) (rises 0 s.opened s.streams h.rising)))
    ∙ by_stream (stream_at s.streams n) refl
  where
    by_stream : (o : Option Stream) → stream_at s.streams n ≡ o → text_in (stream_at (change s.streams n (with_taken count)) n) ≡ drop count (text_in o)
    by_stream None e = ap text_in (none_changed s.streams n n (with_taken count) (λ y. refl) e) ∙ sym (drop_all count [] (omega arith))
    by_stream (Some st) e = ap text_in (at_changed s.streams n (with_taken count) st (λ y. refl) e)

taken_half : (n m count : ℕ) (s : State) → Holds s → peer_in (stream_at (after_take m count s).streams n) ≡ true → peer_in (stream_at s.streams n) ≡ true
unfolding after_take
taken_half n m count s h =
    on_there (λ o. peer_in o ≡ true → peer_in (stream_at s.streams n) ≡ true) s m n (with_taken count) h (λ y. refl) (λ st gone q e. absurd cc) (λ st q. q) (λ e. e)

take_opened : (m count : ℕ) (s : State) → (after_take m count s).opened ≡ s.opened
unfolding after_take
take_opened m count s = refl

take_has : (n m count : ℕ) (s : State) (given heard wire : List ℕ) (reset : Bool) → Holds s → Has n s given heard wire reset
    → Has n (after_take m count s) (given ++ cond (eqb m n) (take count (text_of s n)) []) heard wire reset
take_has n m count s given heard wire reset h k = by_test (eqb m n) refl
  where
    t : State
    t = after_take m count s

    by_test : (b : Bool) → eqb m n ≡ b → Has n t (given ++ cond b (take count (text_of s n)) []) heard wire reset
    by_test true e =
        let same : m ≡ n = eqb-true m n e in
        subst (λ (j : ℕ). Texts n j (peer_in (stream_at t.streams n)) (text_of t n) (given ++ take count (text_of s n)) heard wire reset) (sym (take_opened m count s))
        (take_text n s.opened (peer_in (stream_at s.streams n)) (peer_in (stream_at t.streams n)) count (text_of s n) (text_of t n) given heard wire reset
        (subst (λ (j : ℕ). text_of (after_take j count s) n ≡ drop count (text_of s n)) (sym same) (taken_text n count s h)) (taken_half n m count s h) k)
    by_test false e =
        let same = (calls_leave_others s m n h (eqb-false m n e)).take count in
        subst (λ (q : List ℕ). Has n t q heard wire reset) (sym (append-nil given))
        (quiet_has n s t given heard wire reset (take_opened m count s) (ap text_in same, λ q. sym (ap peer_in same) ∙ q) k)

-- ---- an act that feeds nothing

none_fed : (n : ℕ) (role : Role) (t : State) (fed given heard : List ℕ) → HearsSo n role t fed given heard → HearsSo n role t (fed ++ []) given (heard ++ [])
none_fed n role t fed given heard k =
    subst (λ (q : List ℕ). HearsSo n role t q given (heard ++ [])) (sym (append-nil fed)) (subst (λ (q : List ℕ). HearsSo n role t fed given q) (sym (append-nil heard)) k)

nothing_more : (n : ℕ) (role : Role) (t : State) (fed given heard : List ℕ) → HearsSo n role t fed given heard → HearsSo n role t (fed ++ []) (given ++ []) (heard ++ [])
nothing_more n role t fed given heard k = subst (λ (q : List ℕ). HearsSo n role t (fed ++ []) q (heard ++ [])) (sym (append-nil given)) (none_fed n role t fed given heard k)

act_has : (n : ℕ) (role : Role) (c : Course) (a : Act) → MayDo c.connection.state a → IsCut role c → (after c.connection a).state.failed ≡ None → HearsSo n role c.connection.state c.fed c.given c.heard
    → HearsSo n role (after c.connection a).state (c.fed ++ fed_by a) (c.given ++ given_by n c.connection.state a) (c.heard ++ heard_by n c.connection a)
unfolding after_took
act_has n role c (Feeds piece) ok h e k = subst (λ (q : List ℕ). HearsSo n role (after_piece c.connection piece).state (c.fed ++ piece) q (c.heard ++ heard_by n c.connection (Feeds piece))) (sym (append-nil c.given)) (piece_has n role c piece ok h e k)
act_has n role c (Tells count) ok h e k = nothing_more n role c.connection.state c.fed c.given c.heard k
act_has n role c (Takes m count) ok h e k = none_fed n role (after_take m count c.connection.state) c.fed (c.given ++ given_by n c.connection.state (Takes m count)) c.heard (take_has n m count c.connection.state c.given c.heard _ _ h.sound.holds k)
act_has n role c (Begins fields) ok h e k = nothing_more n role (after_begin fields c.connection.state) c.fed c.given c.heard (begin_has n fields c.connection.state c.given c.heard _ _ h.sound.holds k)
act_has n role c (Answers m fields) ok h e k = nothing_more n role (after_answer m fields c.connection.state) c.fed c.given c.heard (answer_has n m fields c.connection.state c.given c.heard _ _ k)
act_has n role c (Queues m bytes) ok h e k = nothing_more n role (after_queue m bytes c.connection.state) c.fed c.given c.heard (queue_has n m bytes c.connection.state c.given c.heard _ _ k)
act_has n role c (Finishes m trailers) ok h e k = nothing_more n role (after_finish m trailers c.connection.state) c.fed c.given c.heard (finish_has n m trailers c.connection.state c.given c.heard _ _ k)
act_has n role c (Resets m code) ok h e k =
    nothing_more n role (after_reset m code c.connection.state) c.fed c.given c.heard
    (quiet_has n c.connection.state (after_reset m code c.connection.state) c.given c.heard _ _ (reset_opened m code c.connection.state) (shut_quiet n m code c.connection.state h.sound.holds) k)
act_has n role c (Makes move) ok h e k =
    nothing_more n role (after_move c.connection.state move) c.fed c.given c.heard
    (quiet_has n c.connection.state (after_move c.connection.state move) c.given c.heard _ _ (opened_move c.connection.state move) (move_quiet n move c.connection.state h.sound.holds) k)
act_has n role c (Writes count) ok h e k = nothing_more n role (after_took count c.connection.state) c.fed c.given c.heard k

at_first : (n : ℕ) (role : Role) → HearsSo n role (begins role).connection.state [] [] []
unfolding fresh fresh_state stream_at texts_in is_reset_in
at_first n role = record {
  front = ([], refl);
  whole = λ e. refl;
  over = λ e. absurd cc;
  fresh = λ above. (refl, refl);
  came = ([], refl);
  open_half = λ e. refl;
}

pub text_is_heard : TextIsHeard
text_is_heard n role acts ok e =
    let k = every_life (λ j r c. c.connection.state.failed ≡ None → HearsSo j r c.connection.state c.fed c.given c.heard) (λ j r. record {
      first = λ going. at_first j r;
      step = λ c a may h p going. act_has j r c a may h going (p (going_act c.connection a may going));
    }) n role acts ok e in
    record { front = k.front; whole = k.whole; came = k.came; open_half = k.open_half }
