-- What a list of frames does to the text of a stream.
use Rattle.std.proofs.Common.{◌≡◌, ℕ, ◌≤◌, Bool, true, false, not, ◌&&◌, ◌||◌, nat_le, List, [], ◌∷◌, ◌++◌, Option, Some, None, refl, sym, ap, ◌∙◌, ◌+ℤ◌, ◌-ℤ◌, pos, append-nil, append_assoc, arith, if◌then◌else◌}
use Rattle.std.specs.Bool.{◌==◌}
use Rattle.std.proofs.lemmas.Bool.{eqb-true, and_parts}
use Rattle.kn_frames.specs.declared.frame.Frame.{Frame}
use Rattle.kn_h2_state.specs.declared.stream.Stream.{Stream}
use Rattle.kn_h2_state.specs.declared.state.State.{State}
use Rattle.kn_h2_state.specs.Streams.{stream_at, is_open, on_open, passes}
use Rattle.kn_h2_state.specs.Payloads.{content}
use Rattle.kn_h2_state.specs.Rules.{is_client, frame_rules, window_rules, stream_rules, block_rules, first_broken, verdict}
use Rattle.kn_h2_state.specs.Effects.{fail, reset_of}
use Rattle.kn_h2_state.specs.Feeding.{without_blocks, judged, after_frame, after_frames}
use Rattle.kn_h2_state.specs.Calls.{text_in, text_of}
use Rattle.kn_h2_state.specs.Laws.{brought}
use Rattle.kn_h2_state.specs.Wire.{frame_text, texts_in, Hears}
use Rattle.kn_h2_state.specs.Verdicts.{or_broken}
use Rattle.kn_h2_state.specs.Hearing.{is_peer_open, is_reset_of, StaysOpen, AreHeard, FramesAreHeard, ClosedTextStays, StaysClosed, ClosedStaysClosed}
use Rattle.kn_h2_state.proofs.VerdictFacts.{first_of_two, none_holds}
use Rattle.kn_h2_state.proofs.PieceLaws.{after_frame-failed, after_frames-failed, after_frame-judged}
use Rattle.kn_h2_state.proofs.OtherLaws.{fail_streams}
use Rattle.kn_h2_state.proofs.BorneLemmas.{Rises, rises, Bears, Borne, borne_frame, borne_start}
use Rattle.kn_h2_state.proofs.TextLaws.{text_goes_on, text_other}

-- ---- the connection went on

none_some : (o : Option ℕ) (code : ℕ) → o ≡ Some code → o ≡ None → ⊥
none_some o code e f = cc

-- where it has not failed after some frames, it had not before them
went_on : (s : State) (fs : List Frame) → (after_frames s fs).failed ≡ None → s.failed ≡ None
went_on s fs e = by_failed s.failed refl
  where
    by_failed : (o : Option ℕ) → s.failed ≡ o → s.failed ≡ None
    by_failed None f = f
    by_failed (Some code) f = ap (λ (t : State). t.failed) (sym (after_frames-failed s fs code f)) ∙ e

fail_fails : (code : ℕ) (s : State) → (fail code s).failed ≡ Some code
unfolding fail
fail_fails code s = refl

-- where it goes on after a frame, the frame broke no rule
broke_none : (s : State) (f : Frame) → s.failed ≡ None → (after_frame s f).failed ≡ None → verdict s f ≡ None
broke_none s f on goes = by_verdict (verdict s f) refl
  where
    by_verdict : (o : Option ℕ) → verdict s f ≡ o → verdict s f ≡ None
    by_verdict None v = v
    by_verdict (Some code) v =
        let fails : (after_frame s f).failed ≡ Some code =
        ap (λ (t : State). t.failed) (after_frame-judged s f on ∙ ap (λ o. judged s f o) v) ∙ fail_fails code (without_blocks s) in
        absurd (none_some (after_frame s f).failed code fails goes)

-- ---- the numbers of the streams rise through frames

pub bears_nothing : (c : Bool) (n low : ℕ) → Bears c (Unit {0}) (λ o. Unit {0}) n low
bears_nothing c n low = record {
  gone = λ st e q. tt;
  texts = λ k text st q. tt;
  ends = λ st q. tt;
  heads = λ e st q. tt;
  shuts = λ _ st q. tt;
  cuts = λ _ st q. tt;
  grants = λ by st q. tt;
  shifts = λ old new st q. tt;
  fresh = λ m t e f. tt;
}

pub rises_on : (s : State) (f : Frame) → Rises 0 s.opened s.streams → Rises 0 (after_frame s f).opened (after_frame s f).streams
rises_on s f r = (borne_frame {n = 0} (bears_nothing (is_client s.role) 0 s.opened) s f refl (borne_start {Q = λ o. Unit {0}} {n = 0} s r tt)).numbers

-- ---- an open half

half_is_open : (o : Option Stream) → passes (λ st. st.peer_open) o ≡ true → passes (λ st. true) o ≡ true
half_is_open None e = e
half_is_open (Some st) e = ap (λ b. b && true) (and_parts (is_open st) st.peer_open e).0

brings_all : (n : ℕ) (s : State) (f : Frame) → is_peer_open n s ≡ true → brought n s f ≡ frame_text n f
unfolding brought frame_text
brings_all n s f e =
    ap (λ b. if (f.kind == 0) && ((f.stream == n) && b) then content f else []) (half_is_open (stream_at s.streams n) e)
    ∙ ap (λ b. if (f.kind == 0) && b then content f else []) (and_true (f.stream == n))
  where
    and_true : (b : Bool) → (b && true) ≡ b
    and_true true = refl
    and_true false = refl

all_heard : (n : ℕ) (s : State) (fs : List Frame) → Rises 0 s.opened s.streams → (after_frames s fs).failed ≡ None → StaysOpen n s fs → AreHeard n s fs
unfolding after_frames texts_in Hears StaysOpen
all_heard n s [] r on open_ = record { each = tt; all = sym (append-nil (text_of s n)) }
all_heard n s (f ∷ fs) r on (half, other, more) =
    let goes : (after_frame s f).failed ≡ None = went_on (after_frame s f) fs on in
    let before : s.failed ≡ None = went_on s (f ∷ fs) on in
    let one : text_of (after_frame s f) n ≡ text_of s n ++ frame_text n f =
    text_goes_on s f n r before (broke_none s f before goes) other ∙ ap (λ xs. text_of s n ++ xs) (brings_all n s f half) in
    let rest = all_heard n (after_frame s f) fs (rises_on s f r) on more in
    record {
      each = (one, rest.each);
      all = rest.all ∙ (ap (λ xs. xs ++ texts_in n fs) one ∙ append_assoc (text_of s n) (frame_text n f) (texts_in n fs));
    }

pub frames_are_heard : FramesAreHeard
frames_are_heard n s fs h on half = all_heard n s fs (rises 0 s.opened s.streams h.rising) on half

-- ---- a closed half

or_none : (a b : Option ℕ) → or_broken a b ≡ None → (a ≡ None) × (b ≡ None)
or_none None b e = (refl, e)
or_none (Some x) b e = absurd cc

stream_rules_hold : (s : State) (f : Frame) → verdict s f ≡ None → first_broken (stream_rules s f) ≡ None
unfolding verdict
stream_rules_hold s f v =
    let a = or_none (first_broken (frame_rules s f)) (first_broken (window_rules s f ++ (stream_rules s f ++ block_rules s f)))
    (sym (first_of_two (frame_rules s f) (window_rules s f ++ (stream_rules s f ++ block_rules s f))) ∙ v) in
    let b = or_none (first_broken (window_rules s f)) (first_broken (stream_rules s f ++ block_rules s f))
    (sym (first_of_two (window_rules s f) (stream_rules s f ++ block_rules s f)) ∙ a.1) in
    (or_none (first_broken (stream_rules s f)) (first_broken (block_rules s f)) (sym (first_of_two (stream_rules s f) (block_rules s f)) ∙ b.1)).0

-- DATA that breaks no rule comes on an open half, or on a closed stream
half_rule : (s : State) (f : Frame) → verdict s f ≡ None → (nat_le f.kind 1 && on_open s.streams f.stream (λ st. not st.peer_open)) ≡ false
unfolding stream_rules
half_rule s f v = (none_holds (stream_rules s f) (stream_rules_hold s f v)).1.1.1.0

half_or_whole : (o : Option Stream) → passes (λ st. st.peer_open) o ≡ false → passes (λ st. not st.peer_open) o ≡ false → passes (λ st. true) o ≡ false
half_or_whole None e h = refl
half_or_whole (Some st) e h = by_half (is_open st) st.peer_open e h
  where
    by_half : (a b : Bool) → (a && b) ≡ false → (a && not b) ≡ false → (a && true) ≡ false
    by_half false b e' h' = refl
    by_half true true e' h' = absurd cc
    by_half true false e' h' = absurd cc

closed_brings_none : (n : ℕ) (s : State) (f : Frame) → is_peer_open n s ≡ false → verdict s f ≡ None → brought n s f ≡ []
unfolding brought
closed_brings_none n s f half v = by_test (f.kind == 0) refl (f.stream == n) refl
  where
    by_test : (a : Bool) → (f.kind == 0) ≡ a → (b : Bool) → (f.stream == n) ≡ b → (if a && (b && on_open s.streams n (λ st. true)) then content f else []) ≡ []
    by_test false k b t = refl
    by_test true k false t = refl
    by_test true k true t =
        let same : f.stream ≡ n = eqb-true f.stream n t in
        let zero_kind : f.kind ≡ 0 = eqb-true f.kind 0 k in
        let low : nat_le f.kind 1 ≡ true = ap (λ m. nat_le m 1) zero_kind in
        let rule : on_open s.streams n (λ st. not st.peer_open) ≡ false =
        ap (λ m. on_open s.streams m (λ st. not st.peer_open)) (sym same)
        ∙ (sym (ap (λ c. c && on_open s.streams f.stream (λ st. not st.peer_open)) low) ∙ half_rule s f v) in
        ap (λ b. if b then content f else []) (half_or_whole (stream_at s.streams n) half rule)

text_failed : (n code : ℕ) (s : State) (f : Frame) → s.failed ≡ None → verdict s f ≡ Some code → text_of (after_frame s f) n ≡ text_of s n
text_failed n code s f on v =
    ap (λ t. text_of t n) (after_frame-judged s f on ∙ ap (λ o. judged s f o) v) ∙ ap (λ ss. text_in (stream_at ss n)) (fail_streams code (without_blocks s))

-- whatever the frame does, if it breaks no rule and the connection has not failed
by_course : (n : ℕ) (s : State) (f : Frame) → (s.failed ≡ None → verdict s f ≡ None → text_of (after_frame s f) n ≡ text_of s n) → text_of (after_frame s f) n ≡ text_of s n
by_course n s f goes = by_failed s.failed refl
  where
    by_verdict : s.failed ≡ None → (o : Option ℕ) → verdict s f ≡ o → text_of (after_frame s f) n ≡ text_of s n
    by_verdict on None v = goes on v
    by_verdict on (Some code) v = text_failed n code s f on v

    by_failed : (o : Option ℕ) → s.failed ≡ o → text_of (after_frame s f) n ≡ text_of s n
    by_failed (Some code) e = ap (λ t. text_of t n) (after_frame-failed s f code e)
    by_failed None e = by_verdict e (verdict s f) refl

half_stays : (n : ℕ) (s : State) (f : Frame) → Rises 0 s.opened s.streams → is_peer_open n s ≡ false → is_reset_of n f ≡ false → text_of (after_frame s f) n ≡ text_of s n
half_stays n s f r half other =
    by_course n s f (λ on v. text_goes_on s f n r on v other ∙ (ap (λ xs. text_of s n ++ xs) (closed_brings_none n s f half v) ∙ append-nil (text_of s n)))

whole_is_half : (o : Option Stream) → passes (λ st. true) o ≡ false → passes (λ st. st.peer_open) o ≡ false
whole_is_half None e = refl
whole_is_half (Some st) e = by_open (is_open st) e
  where
    by_open : (b : Bool) → (b && true) ≡ false → (b && st.peer_open) ≡ false
    by_open false h = refl
    by_open true h = absurd cc

whole_stays : (n : ℕ) (s : State) (f : Frame) → Rises 0 s.opened s.streams → on_open s.streams n (λ st. true) ≡ false → text_of (after_frame s f) n ≡ text_of s n
whole_stays n s f r shut_ = by_reset (is_reset_of n f) refl
  where
    reset : is_reset_of n f ≡ true → s.failed ≡ None → verdict s f ≡ None → text_of (after_frame s f) n ≡ text_of s n
    reset e on v =
        let t : State = record s { began = true } in
        let parts = and_parts (f.kind == 3) (f.stream == n) e in
        let three : f.kind ≡ 3 = eqb-true f.kind 3 parts.0 in
        let same : f.stream ≡ n = eqb-true f.stream n parts.1 in
        let no_data : (f.kind == 0) ≡ false = (rw three refl) in
        let nothing : (st : Stream) → stream_at t.streams f.stream ≡ Some st → is_open st ≡ true → text_of (reset_of f st t) n ≡ text_of t n =
        λ st at here. absurd (closed st (rw same at at) here) in
        ap (λ u. text_of u n) (after_frame-judged s f on ∙ ap (λ o. judged s f o) v) ∙ text_other f n t r no_data (λ z. nothing)
      where
        closed : (st : Stream) → stream_at s.streams n ≡ Some st → is_open st ≡ true → ⊥
        closed st at here = let no_pass : (is_open st && true) ≡ false = sym (ap (λ o. passes (λ x. true) o) at) ∙ shut_ in cc

    by_reset : (b : Bool) → is_reset_of n f ≡ b → text_of (after_frame s f) n ≡ text_of s n
    by_reset true e = by_course n s f (reset e)
    by_reset false e = half_stays n s f r (whole_is_half (stream_at s.streams n) shut_) e

pub closed_text_stays : ClosedTextStays
closed_text_stays n s f h = record {
  half = half_stays n s f (rises 0 s.opened s.streams h.rising);
  whole = whole_stays n s f (rises 0 s.opened s.streams h.rising);
}

-- ---- a half that has closed stays so

abbrev half_in : Option Stream → Bool
half_in None = false
half_in (Some st) = st.peer_open

half_as_passed : (o : Option Stream) → passes (λ st. st.peer_open) o ≡ half_in o
half_as_passed None = refl
half_as_passed (Some st) = by_half st.peer_open
  where
    by_half : (b : Bool) → ((b || st.own_open) && b) ≡ b
    by_half true = refl
    by_half false = and_no st.own_open
      where
        and_no : (c : Bool) → (c && false) ≡ false
        and_no true = refl
        and_no false = refl

bears_closed : (c : Bool) (n low : ℕ) → n ≤ low → Bears c (Unit {0}) (λ o. half_in o ≡ false) n low
bears_closed c n low le = record {
  gone = λ st e q. refl;
  texts = λ k text st q. q;
  ends = λ st q. refl;
  heads = λ e st q. q;
  shuts = λ _ st q. refl;
  cuts = λ _ st q. refl;
  grants = λ by st q. granted by (is_open st) st q;
  shifts = λ old new st q. shift old new (is_open st) st q;
  fresh = λ m t above same. absurd (omega (arith, le, above, same));
}
  where
    granted : (by : ℕ) (b : Bool) (st : Stream) → st.peer_open ≡ false → (if b then record st { send = st.send +ℤ pos by } else st).peer_open ≡ false
    granted by true st q = q
    granted by false st q = q

    shift : (old new : ℕ) (b : Bool) (st : Stream) → st.peer_open ≡ false → (if b then record st { send = st.send +ℤ (pos new -ℤ pos old) } else st).peer_open ≡ false
    shift old new true st q = q
    shift old new false st q = q

closed_on : (n : ℕ) (s : State) (f : Frame) → Rises 0 s.opened s.streams → n ≤ s.opened → half_in (stream_at s.streams n) ≡ false
    → Borne (λ o. half_in o ≡ false) n s.opened s.events (after_frame s f)
closed_on n s f r le half = borne_frame (bears_closed (is_client s.role) n s.opened le) s f refl (borne_start s r half)

stays_closed : (n : ℕ) (s : State) (fs : List Frame) → Rises 0 s.opened s.streams → n ≤ s.opened → half_in (stream_at s.streams n) ≡ false → StaysClosed n s fs
unfolding after_frames
stays_closed n s [] r le half = record { closed = half_as_passed (stream_at s.streams n) ∙ half; text = λ all. refl }
stays_closed n s (f ∷ fs) r le half =
    let b = closed_on n s f r le half in
    let rest = stays_closed n (after_frame s f) fs b.numbers (omega (arith, le, b.opened)) b.there in
    record {
      closed = rest.closed;
      text = λ all. rest.text all.1 ∙ half_stays n s f r (half_as_passed (stream_at s.streams n) ∙ half) all.0;
    }

pub closed_stays_closed : ClosedStaysClosed
closed_stays_closed n s fs h le half = stays_closed n s fs (rises 0 s.opened s.streams h.rising) le (sym (half_as_passed (stream_at s.streams n)) ∙ half)
