-- Which of two states hears at least as much of the peer: the rules.
use Rattle.std.proofs.Common.{◌≡◌, ◌≢◌, inl, inr, ◌⊎◌, ℕ, ℤ, pos, ◌+ℤ◌, ◌-ℤ◌, ◌≤ℤ◌, ◌<◌, ◌≤◌, ◌%◌, Bool, true, false, not, ◌&&◌, ◌||◌, cond, eqb, nat_le, nat_lt, List, [], ◌∷◌, ◌++◌, length, map, Option, Some, None, refl, sym, ap, ◌∙◌, subst, arith, if◌then◌else◌}
use Rattle.std.specs.Prelude.{◌==◌, int_le}
use Rattle.std.specs.List.{list_any}
use Rattle.std.proofs.lemmas.Bool.{eqb-true, eqb-false, eq-eqb, ne_eqb, and_parts, or_parts, not-false, leb-true, ltb-false, lt-ltb, le-ltb}
use Rattle.std.proofs.lemmas.Int.{ints}
use Rattle.kn_frames.specs.declared.frame.Frame.{Frame}
use Rattle.kn_windows.specs.Windows.{can_spend, can_grow}
use Rattle.kn_h2_state.specs.declared.stream.Stream.{Stream}
use Rattle.kn_h2_state.specs.declared.state.State.{State}
use Rattle.kn_h2_state.specs.Limits.{largest_window}
use Rattle.kn_h2_state.specs.Streams.{stream_at, is_open, on_open, passes}
use Rattle.kn_h2_state.specs.Payloads.{has, increment_of, settings_of}
use Rattle.kn_h2_state.specs.Rules.{is_client, first_broken, frame_rules, window_rules, stream_rules, block_rules, verdict, shifted, shifted_one, shifts_over, breaks_windows, is_idle}
use Rattle.kn_h2_state.specs.Verdicts.{or_broken}
use Rattle.kn_h2_state.specs.Preorder.{HearsAsMuch, IsOpenIn, IsNewTo, HearsMore, MoreIsHeard}
use Rattle.kn_h2_state.proofs.VerdictFacts.{first_of_two, NoneHolds, none_holds}
use Rattle.kn_h2_state.proofs.BorneLemmas.{Rises, rises, climbing, rises_map}
use Rattle.kn_h2_state.proofs.SeenLemmas.{KeepsNumber, none_below}
use Rattle.kn_h2_state.proofs.OtherLaws.{shifted_number}

-- ---- lists of rules

all_silent : (rules : List (Bool × ℕ)) → NoneHolds rules → first_broken rules ≡ None
unfolding first_broken
all_silent [] h = refl
all_silent (rule ∷ rules) h = ap (λ b. if b then Some rule.1 else first_broken rules) h.0 ∙ all_silent rules h.1

or_none : (a b : Option ℕ) → or_broken a b ≡ None → (a ≡ None) × (b ≡ None)
or_none None b e = (refl, e)
or_none (Some x) b e = absurd cc

none_or : (a b : Option ℕ) → a ≡ None → b ≡ None → or_broken a b ≡ None
none_or a b e g = ap (λ x. or_broken x b) e ∙ g

pub record Silent (s : State) (f : Frame) : Type 0 where
  pub frames : first_broken (frame_rules s f) ≡ None
  pub windows : first_broken (window_rules s f) ≡ None
  pub streams : first_broken (stream_rules s f) ≡ None
  pub blocks : first_broken (block_rules s f) ≡ None

pub silent : (s : State) (f : Frame) → verdict s f ≡ None → Silent s f
unfolding verdict
silent s f v =
    let a = or_none (first_broken (frame_rules s f)) (first_broken (window_rules s f ++ (stream_rules s f ++ block_rules s f)))
    (sym (first_of_two (frame_rules s f) (window_rules s f ++ (stream_rules s f ++ block_rules s f))) ∙ v) in
    let b = or_none (first_broken (window_rules s f)) (first_broken (stream_rules s f ++ block_rules s f))
    (sym (first_of_two (window_rules s f) (stream_rules s f ++ block_rules s f)) ∙ a.1) in
    let c = or_none (first_broken (stream_rules s f)) (first_broken (block_rules s f)) (sym (first_of_two (stream_rules s f) (block_rules s f)) ∙ b.1) in
    record { frames = a.0; windows = b.0; streams = c.0; blocks = c.1 }

speak : (s : State) (f : Frame) → Silent s f → verdict s f ≡ None
unfolding verdict
speak s f q =
    first_of_two (frame_rules s f) (window_rules s f ++ (stream_rules s f ++ block_rules s f))
    ∙ none_or (first_broken (frame_rules s f)) (first_broken (window_rules s f ++ (stream_rules s f ++ block_rules s f))) q.frames
    (first_of_two (window_rules s f) (stream_rules s f ++ block_rules s f)
    ∙ none_or (first_broken (window_rules s f)) (first_broken (stream_rules s f ++ block_rules s f)) q.windows
    (first_of_two (stream_rules s f) (block_rules s f) ∙ none_or (first_broken (stream_rules s f)) (first_broken (block_rules s f)) q.streams q.blocks))

and_no : (a b c : Bool) → (b ≡ false → c ≡ false) → (a && b) ≡ false → (a && c) ≡ false
and_no true b c h e = h e
and_no false b c h e = refl

and_when : (a b : Bool) → (a ≡ true → b ≡ false) → (a && b) ≡ false
and_when true b h = h refl
and_when false b h = refl

or_no : (a b : Bool) → a ≡ false → b ≡ false → (a || b) ≡ false
or_no a b e g = ap (λ c. c || b) e ∙ g

true_and : (a b : Bool) → a ≡ true → (a && b) ≡ false → b ≡ false
true_and true b e h = h
true_and false b e h = absurd cc

-- ---- tests on an open stream

-- where no open stream of s passes the one test, none of t passes the other: streams that are new to s apart
no_pass : (s t : State) (n : ℕ) (p q : Stream → Bool) → HearsMore s t → (s.opened < n → is_client s.role ≡ true → ⊥)
    → ((a b : Stream) → HearsAsMuch (is_client s.role) a b → p a ≡ false → q b ≡ false) → on_open s.streams n p ≡ false → on_open t.streams n q ≡ false
no_pass s t n p q h old step none = by_stream (stream_at t.streams n) refl
  where
    by_where : (b : Stream) → IsOpenIn s n b ⊎ IsNewTo s t n b → q b ≡ false
    by_where b (inl (a, at, open_, much)) =
        let fails : (is_open a && p a) ≡ false = sym (ap (λ o. passes p o) at) ∙ none in
        step a b much (true_and (is_open a) (p a) open_ fails)
    by_where b (inr (client, above, sends)) = absurd (old above client)

    by_stream : (o : Option Stream) → stream_at t.streams n ≡ o → passes q o ≡ false
    by_stream None e = refl
    by_stream (Some b) e = and_when (is_open b) (q b) (λ o. by_where b (h.streams n b e o))

-- ---- frames and windows

frames_silent : (s t : State) (f : Frame) → HearsMore s t → first_broken (frame_rules s f) ≡ None → first_broken (frame_rules t f) ≡ None
unfolding frame_rules
frames_silent s t f h q = rw (h.began, h.block) q

can_grow-less : (x y by : ℤ) → y ≤ℤ x → not (can_grow x by) ≡ false → not (can_grow y by) ≡ false
can_grow-less x y by le e = grind (arith, ints)

can_spend-more : (x y : ℤ) (n : ℕ) → x ≤ℤ y → not (can_spend x n) ≡ false → not (can_spend y n) ≡ false
can_spend-more x y n le e = by_zero (n == 0) e
  where
    by_zero : (b : Bool) → not (b || int_le (pos n) x) ≡ false → not (b || int_le (pos n) y) ≡ false
    by_zero true e' = refl
    by_zero false e' = grind (arith, ints)

-- ---- all streams at once

any_at : (p : Stream → Bool) (ss : List Stream) (n : ℕ) (st : Stream) → list_any p ss ≡ false → stream_at ss n ≡ Some st → p st ≡ false
unfolding stream_at
any_at p [] n st none e = absurd cc
any_at p (x ∷ ss) n st none e = by_test (eqb x.number n) e (any_at p ss n st (or_parts (p x) (list_any p ss) none).1)
  where
    by_test : (b : Bool) → cond b (Some x) (stream_at ss n) ≡ Some st → (stream_at ss n ≡ Some st → p st ≡ false) → p st ≡ false
    by_test true h rest = let same : x ≡ st = cc in subst (λ (y : Stream). p y ≡ false) same (or_parts (p x) (list_any p ss) none).0
    by_test false h rest = rest h

none_any : (p : Stream → Bool) (low high : ℕ) (ss : List Stream) → Rises low high ss → ((n : ℕ) (st : Stream) → stream_at ss n ≡ Some st → p st ≡ false) → list_any p ss ≡ false
unfolding stream_at Rises
none_any p low high [] r all = refl
none_any p low high (x ∷ ss) r all =
    let here : p x ≡ false = all x.number x (ap (λ b. cond b (Some x) (stream_at ss x.number)) (eq-eqb x.number x.number refl)) in
    ap (λ b. b || list_any p ss) here ∙ none_any p x.number high ss r.1 (λ n st e. there n st e)
  where
    there : (n : ℕ) (st : Stream) → stream_at ss n ≡ Some st → p st ≡ false
    there n st e = by_test (eqb x.number n) refl
      where
        by_test : (b : Bool) → eqb x.number n ≡ b → p st ≡ false
        by_test true t =
            let le : n ≤ x.number = omega (arith, eqb-true x.number n t) in
            absurd (not_there (stream_at ss n) (none_below x.number n ss le (climbing x.number high ss r.1)) e)
          where
            not_there : (o : Option Stream) → o ≡ None → o ≡ Some st → ⊥
            not_there o g h = cc
        by_test false t = all n st (ap (λ b. cond b (Some x) (stream_at ss n)) t ∙ e)

abbrev pub mapped : (Stream → Stream) → Option Stream → Option Stream
mapped f None = None
mapped f (Some st) = Some (f st)

pub at_mapped : (ss : List Stream) (n : ℕ) (f : Stream → Stream) → KeepsNumber f → stream_at (map f ss) n ≡ mapped f (stream_at ss n)
unfolding stream_at
at_mapped [] n f keeps = refl
at_mapped (x ∷ ss) n f keeps = ap (λ k. cond (eqb k n) (Some (f x)) (stream_at (map f ss) n)) (keeps x) ∙ by_test (eqb x.number n) (at_mapped ss n f keeps)
  where
    by_test : (b : Bool) → stream_at (map f ss) n ≡ mapped f (stream_at ss n) → cond b (Some (f x)) (stream_at (map f ss) n) ≡ mapped f (cond b (Some x) (stream_at ss n))
    by_test true rest = refl
    by_test false rest = rest

-- ---- settings

-- each open stream of the second list has a sending window no larger than its like in the first, or than the initial one
abbrev SendsLess : ℕ → List Stream → List Stream → Type 0
SendsLess initial ss us = (n : ℕ) (b : Stream) → stream_at us n ≡ Some b → is_open b ≡ true
    → ((a : Stream) × (stream_at ss n ≡ Some a) × (is_open a ≡ true) × (b.send ≤ℤ a.send)) ⊎ (b.send ≤ℤ pos initial)

pub shifted_open : (old new : ℕ) (st : Stream) → is_open (shifted_one old new st) ≡ is_open st
shifted_open old new st = by_open (is_open st)
  where
    by_open : (b : Bool) → is_open (if b then record st { send = st.send +ℤ (pos new -ℤ pos old) } else st) ≡ is_open st
    by_open true = refl
    by_open false = refl

pub shifted_send : (old new : ℕ) (st : Stream) → is_open st ≡ true → (shifted_one old new st).send ≡ st.send +ℤ (pos new -ℤ pos old)
shifted_send old new st e = ap (λ b. (if b then record st { send = st.send +ℤ (pos new -ℤ pos old) } else st).send) e

pub shift_less : (x y d : ℤ) → y ≤ℤ x → (y +ℤ d) ≤ℤ (x +ℤ d)
shift_less x y d le = omega (arith, ints, le)

pub shift_initial : (y : ℤ) (old new : ℕ) → y ≤ℤ pos old → (y +ℤ (pos new -ℤ pos old)) ≤ℤ pos new
shift_initial y old new le = omega (arith, ints, le)

sends_less_shifted : (old new : ℕ) (ss us : List Stream) → SendsLess old ss us → SendsLess new (shifted old new ss) (shifted old new us)
sends_less_shifted old new ss us less n b e o = by_stream (stream_at us n) refl (sym (at_mapped us n f (shifted_number old new)) ∙ e)
  where
    f : Stream → Stream
    f = shifted_one old new

    Goal : Stream → Type 0
    Goal y = ((a : Stream) × (stream_at (shifted old new ss) n ≡ Some a) × (is_open a ≡ true) × (y.send ≤ℤ a.send)) ⊎ (y.send ≤ℤ pos new)

    by_like : (c : Stream) → is_open c ≡ true → ((a : Stream) × (stream_at ss n ≡ Some a) × (is_open a ≡ true) × (c.send ≤ℤ a.send)) ⊎ (c.send ≤ℤ pos old) → Goal (f c)
    by_like c oc (inl (a, at, oa, le)) =
        let sum : (c.send +ℤ (pos new -ℤ pos old)) ≤ℤ (a.send +ℤ (pos new -ℤ pos old)) = shift_less a.send c.send (pos new -ℤ pos old) le in
        let left : (f c).send ≤ℤ (a.send +ℤ (pos new -ℤ pos old)) = subst (λ z. z ≤ℤ (a.send +ℤ (pos new -ℤ pos old))) (sym (shifted_send old new c oc)) sum in
        inl (
          f a,
          at_mapped ss n f (shifted_number old new) ∙ ap (mapped f) at,
          shifted_open old new a ∙ oa,
          subst (λ z. (f c).send ≤ℤ z) (sym (shifted_send old new a oa)) left,
        )
    by_like c oc (inr le) = inr (subst (λ z. z ≤ℤ pos new) (sym (shifted_send old new c oc)) (shift_initial c.send old new le))

    by_stream : (x : Option Stream) → stream_at us n ≡ x → mapped f x ≡ Some b → Goal b
    by_stream None at h = absurd cc
    by_stream (Some c) at h =
        let same : f c ≡ b = cc in
        let oc : is_open c ≡ true = sym (shifted_open old new c) ∙ (ap (λ (y : Stream). is_open y) same ∙ o) in
        subst Goal same (by_like c oc (less n c at oc))

over_less : (old new : ℕ) (ss us : List Stream) (low high : ℕ) → Rises low high us → SendsLess old ss us → nat_lt largest_window new ≡ false
    → list_any (shifts_over old new) ss ≡ false → list_any (shifts_over old new) us ≡ false
over_less old new ss us low high r less fits none = none_any (shifts_over old new) low high us r each
  where
    by_like : (n : ℕ) (b : Stream) → ((a : Stream) × (stream_at ss n ≡ Some a) × (is_open a ≡ true) × (b.send ≤ℤ a.send)) ⊎ (b.send ≤ℤ pos old)
        → not (can_grow b.send (pos new -ℤ pos old)) ≡ false
    by_like n b (inl (a, at, oa, le)) =
        can_grow-less a.send b.send (pos new -ℤ pos old) le
        (true_and (is_open a) (not (can_grow a.send (pos new -ℤ pos old))) oa (any_at (shifts_over old new) ss n a none at))
    by_like n b (inr le) =
        let small : new ≤ 2147483647 = omega (arith, ltb-false largest_window new fits) in
        let sum : (b.send +ℤ (pos new -ℤ pos old)) ≤ℤ pos new = shift_initial b.send old new le in
        ap not (fits_in (b.send +ℤ (pos new -ℤ pos old)) new small sum)
      where
        fits_in : (z : ℤ) (v : ℕ) → v ≤ 2147483647 → z ≤ℤ pos v → int_le z (pos 2147483647) ≡ true
        fits_in z v small le' = grind (arith, ints)

    each : (n : ℕ) (b : Stream) → stream_at us n ≡ Some b → shifts_over old new b ≡ false
    each n b e = and_when (is_open b) (not (can_grow b.send (pos new -ℤ pos old))) (λ o. by_like n b (less n b e o))

windows_less : (initial : ℕ) (ss us : List Stream) (xs : List (ℕ × ℕ)) (low high : ℕ) → Rises low high us → SendsLess initial ss us
    → breaks_windows initial ss xs ≡ false → breaks_windows initial us xs ≡ false
unfolding breaks_windows
windows_less initial ss us [] low high r less none = refl
windows_less initial ss us (x ∷ xs) low high r less none =
    by_number (x.0 == 4) none (λ h. windows_less x.1 (shifted initial x.1 ss) (shifted initial x.1 us) xs low high
    (rises_map low high us (shifted_one initial x.1) (shifted_number initial x.1) r) (sends_less_shifted initial x.1 ss us less) h)
    (λ h. windows_less initial ss us xs low high r less h)
  where
    by_number : (b : Bool)
        → (if b then nat_lt largest_window x.1 || list_any (shifts_over initial x.1) ss || breaks_windows x.1 (shifted initial x.1 ss) xs else breaks_windows initial ss xs) ≡ false
        → (breaks_windows x.1 (shifted initial x.1 ss) xs ≡ false → breaks_windows x.1 (shifted initial x.1 us) xs ≡ false)
        → (breaks_windows initial ss xs ≡ false → breaks_windows initial us xs ≡ false)
        → (if b then nat_lt largest_window x.1 || list_any (shifts_over initial x.1) us || breaks_windows x.1 (shifted initial x.1 us) xs else breaks_windows initial us xs) ≡ false
    by_number true h rest other =
        let outer = or_parts (nat_lt largest_window x.1 || list_any (shifts_over initial x.1) ss) (breaks_windows x.1 (shifted initial x.1 ss) xs) h in
        let inner = or_parts (nat_lt largest_window x.1) (list_any (shifts_over initial x.1) ss) outer.0 in
        or_no (nat_lt largest_window x.1 || list_any (shifts_over initial x.1) us) (breaks_windows x.1 (shifted initial x.1 us) xs)
        (or_no (nat_lt largest_window x.1) (list_any (shifts_over initial x.1) us) inner.0 (over_less initial x.1 ss us low high r less inner.0 inner.1)) (rest outer.1)
    by_number false h rest other = other h

windows_silent : (s t : State) (f : Frame) → Rises 0 t.opened t.streams → HearsMore s t → (s.opened < f.stream → is_client s.role ≡ true → (f.kind == 8) ≡ true → ⊥)
    → first_broken (window_rules s f) ≡ None → first_broken (window_rules t f) ≡ None
unfolding window_rules
windows_silent s t f r h old q =
    let n = none_holds (window_rules s f) q in
    let sends : SendsLess s.initial s.streams t.streams = less in
    all_silent (window_rules t f) (
      (rw h.role n.0),
      (
        and_no (f.kind == 4) (breaks_windows s.initial s.streams (settings_of f.payload)) (breaks_windows t.initial t.streams (settings_of f.payload))
            (λ e. ap (λ i. breaks_windows i t.streams (settings_of f.payload)) h.initial ∙ windows_less s.initial s.streams t.streams (settings_of f.payload) 0 t.opened r sends e) n.1.0,
        (
          n.1.1.0,
          (
            and_no ((f.kind == 8) && (f.stream == 0)) (not (can_grow s.send (pos (increment_of f.payload)))) (not (can_grow t.send (pos (increment_of f.payload))))
                (can_grow-less s.send t.send (pos (increment_of f.payload)) h.send) n.1.1.1.0,
            (
              and_when (f.kind == 8) (on_open t.streams f.stream (λ st. not (can_grow st.send (pos (increment_of f.payload)))))
                  (λ k. no_pass s t f.stream (λ st. not (can_grow st.send (pos (increment_of f.payload)))) (λ st. not (can_grow st.send (pos (increment_of f.payload)))) h
                  (λ above client. old above client k) (λ a b much. can_grow-less a.send b.send (pos (increment_of f.payload)) much.send)
                  (true_and (f.kind == 8) (on_open s.streams f.stream (λ st. not (can_grow st.send (pos (increment_of f.payload))))) k n.1.1.1.1.0)),
              tt,
            ),
          ),
        ),
      ),
    )
  where
    less : SendsLess s.initial s.streams t.streams
    less n b e o = by_where (h.streams n b e o)
      where
        by_where : IsOpenIn s n b ⊎ IsNewTo s t n b → ((a : Stream) × (stream_at s.streams n ≡ Some a) × (is_open a ≡ true) × (b.send ≤ℤ a.send)) ⊎ (b.send ≤ℤ pos s.initial)
        by_where (inl (a, at, oa, much)) = inl (a, at, oa, much.send)
        by_where (inr (client, above, sends)) = inr (subst (λ i. b.send ≤ℤ pos i) h.initial sends)

-- ---- streams

or_true : (a b : Bool) → b ≡ true → (a || b) ≡ true
or_true true b e = refl
or_true false b e = e

above_is_idle : (s : State) (n : ℕ) → s.opened < n → is_idle s n ≡ true
above_is_idle s n above = or_true (n % 2 == 0) (nat_lt s.opened n) (lt-ltb s.opened n above)

not_both : (b : Bool) → b ≡ true → b ≡ false → ⊥
not_both b e g = cc

idle_less : (s t : State) (n : ℕ) → s.opened ≤ t.opened → is_idle s n ≡ false → is_idle t n ≡ false
idle_less s t n le e =
    let parts = or_parts (n % 2 == 0) (nat_lt s.opened n) e in
    let low : n ≤ s.opened = omega (arith, ltb-false s.opened n parts.1) in
    let below : n ≤ t.opened = omega (arith, low, le) in
    or_no (n % 2 == 0) (nat_lt t.opened n) parts.0 (le-ltb t.opened n below)

-- DATA and WINDOW_UPDATE come on no stream that was never opened
pub old_data : (s : State) (f : Frame) → first_broken (stream_rules s f) ≡ None → (f.kind == 0) ≡ true → s.opened < f.stream → ⊥
unfolding stream_rules
old_data s f q k above =
    let n = none_holds (stream_rules s f) q in
    let kinds : ((f.kind == 0) || (f.kind == 3) || ((f.kind == 8) && not (f.stream == 0))) ≡ true =
    ap (λ b. b || (f.kind == 3) || ((f.kind == 8) && not (f.stream == 0))) k in
    not_both (is_idle s f.stream) (above_is_idle s f.stream above) (true_and ((f.kind == 0) || (f.kind == 3) || ((f.kind == 8) && not (f.stream == 0))) (is_idle s f.stream) kinds n.0)

pub old_reset : (s : State) (f : Frame) → first_broken (stream_rules s f) ≡ None → (f.kind == 3) ≡ true → s.opened < f.stream → ⊥
unfolding stream_rules
old_reset s f q k above =
    let n = none_holds (stream_rules s f) q in
    let first : ((f.kind == 0) || (f.kind == 3)) ≡ true = or_true (f.kind == 0) (f.kind == 3) k in
    let kinds : ((f.kind == 0) || (f.kind == 3) || ((f.kind == 8) && not (f.stream == 0))) ≡ true = ap (λ b. b || ((f.kind == 8) && not (f.stream == 0))) first in
    not_both (is_idle s f.stream) (above_is_idle s f.stream above) (true_and ((f.kind == 0) || (f.kind == 3) || ((f.kind == 8) && not (f.stream == 0))) (is_idle s f.stream) kinds n.0)

pub old_grant : (s : State) (f : Frame) → first_broken (stream_rules s f) ≡ None → (f.kind == 8) ≡ true → s.opened < f.stream → ⊥
unfolding stream_rules
old_grant s f q k above =
    let n = none_holds (stream_rules s f) q in
    let some : (f.stream == 0) ≡ false = ne_eqb f.stream 0 (λ e. absurd (omega (arith, e, above))) in
    let grants : ((f.kind == 8) && not (f.stream == 0)) ≡ true = ap (λ b. b && not (f.stream == 0)) k ∙ ap not some in
    let kinds : ((f.kind == 0) || (f.kind == 3) || ((f.kind == 8) && not (f.stream == 0))) ≡ true =
    or_true ((f.kind == 0) || (f.kind == 3)) ((f.kind == 8) && not (f.stream == 0)) grants in
    not_both (is_idle s f.stream) (above_is_idle s f.stream above) (true_and ((f.kind == 0) || (f.kind == 3) || ((f.kind == 8) && not (f.stream == 0))) (is_idle s f.stream) kinds n.0)

-- nor does HEADERS at a client
pub old_head : (s : State) (f : Frame) → first_broken (stream_rules s f) ≡ None → (f.kind == 1) ≡ true → is_client s.role ≡ true → s.opened < f.stream → ⊥
unfolding stream_rules
old_head s f q k client above =
    let n = none_holds (stream_rules s f) q in
    let test = true_and (f.kind == 1) ((f.stream % 2 == 0) || (is_client s.role && is_idle s f.stream)) k n.1.0 in
    let idle = true_and (is_client s.role) (is_idle s f.stream) client (or_parts (f.stream % 2 == 0) (is_client s.role && is_idle s f.stream) test).1 in
    not_both (is_idle s f.stream) (above_is_idle s f.stream above) idle

low_kind : (k : ℕ) → nat_le k 1 ≡ true → ((k == 0) ≡ true) ⊎ ((k == 1) ≡ true)
low_kind k e = by_zero (k == 0) refl
  where
    by_zero : (b : Bool) → (k == 0) ≡ b → ((k == 0) ≡ true) ⊎ ((k == 1) ≡ true)
    by_zero true z = inl z
    by_zero false z =
        let some : k ≢ 0 = eqb-false k 0 z in
        let most : k ≤ 1 = leb-true k 1 e in
        inr (eq-eqb k 1 (omega (arith, some, most)))

old_half : (s : State) (f : Frame) → first_broken (stream_rules s f) ≡ None → nat_le f.kind 1 ≡ true → s.opened < f.stream → is_client s.role ≡ true → ⊥
old_half s f q low above client =
    elim (low_kind f.kind low) [
      | inl k ↦ old_data s f q k above
      | inr k ↦ old_head s f q k client above
    ]

streams_silent : (s t : State) (f : Frame) → HearsMore s t → first_broken (stream_rules s f) ≡ None → first_broken (stream_rules t f) ≡ None
unfolding stream_rules
streams_silent s t f h q =
    let n = none_holds (stream_rules s f) q in
    all_silent (stream_rules t f) (
      (and_no ((f.kind == 0) || (f.kind == 3) || ((f.kind == 8) && not (f.stream == 0))) (is_idle s f.stream) (is_idle t f.stream) (idle_less s t f.stream h.opened) n.0),
      (
        and_no (f.kind == 1) ((f.stream % 2 == 0) || (is_client s.role && is_idle s f.stream)) ((f.stream % 2 == 0) || (is_client t.role && is_idle t f.stream)) idle n.1.0,
        (
          and_when (f.kind == 0) (not (can_spend t.receive (length f.payload)) || on_open t.streams f.stream (λ st. not (can_spend st.receive (length f.payload))))
              (λ k. window k (true_and (f.kind == 0) (not (can_spend s.receive (length f.payload)) || on_open s.streams f.stream (λ st. not (can_spend st.receive (length f.payload)))) k n.1.1.0)),
          (
            and_when (nat_le f.kind 1) (on_open t.streams f.stream (λ st. not st.peer_open))
                (λ k. no_pass s t f.stream (λ st. not st.peer_open) (λ st. not st.peer_open) h (λ above client. old_half s f q k above client)
                (λ a b much e. ap not much.half ∙ e) (true_and (nat_le f.kind 1) (on_open s.streams f.stream (λ st. not st.peer_open)) k n.1.1.1.0)),
            (
              and_when ((f.kind == 0) && is_client t.role) (on_open t.streams f.stream (λ st. not st.answered)) (λ k. head k n.1.1.1.1.0),
              tt,
            ),
          ),
        ),
      ),
    )
  where
    idle : ((f.stream % 2 == 0) || (is_client s.role && is_idle s f.stream)) ≡ false → ((f.stream % 2 == 0) || (is_client t.role && is_idle t f.stream)) ≡ false
    idle e =
        let parts = or_parts (f.stream % 2 == 0) (is_client s.role && is_idle s f.stream) e in
        or_no (f.stream % 2 == 0) (is_client t.role && is_idle t f.stream) parts.0
        (ap (λ r. is_client r && is_idle t f.stream) h.role ∙ and_no (is_client s.role) (is_idle s f.stream) (is_idle t f.stream) (idle_less s t f.stream h.opened) parts.1)

    window : (f.kind == 0) ≡ true → (not (can_spend s.receive (length f.payload)) || on_open s.streams f.stream (λ st. not (can_spend st.receive (length f.payload)))) ≡ false
        → (not (can_spend t.receive (length f.payload)) || on_open t.streams f.stream (λ st. not (can_spend st.receive (length f.payload)))) ≡ false
    window k e =
        let parts = or_parts (not (can_spend s.receive (length f.payload))) (on_open s.streams f.stream (λ st. not (can_spend st.receive (length f.payload)))) e in
        or_no (not (can_spend t.receive (length f.payload))) (on_open t.streams f.stream (λ st. not (can_spend st.receive (length f.payload))))
        (can_spend-more s.receive t.receive (length f.payload) h.receive parts.0)
        (no_pass s t f.stream (λ st. not (can_spend st.receive (length f.payload))) (λ st. not (can_spend st.receive (length f.payload))) h (λ above client. old_data s f q k above)
        (λ a b much g. can_spend-more a.receive b.receive (length f.payload) much.receive g) parts.1)

    head : ((f.kind == 0) && is_client t.role) ≡ true → ((f.kind == 0) && is_client s.role && on_open s.streams f.stream (λ st. not st.answered)) ≡ false
        → on_open t.streams f.stream (λ st. not st.answered) ≡ false
    head k e =
        let both = and_parts (f.kind == 0) (is_client t.role) k in
        let client : is_client s.role ≡ true = ap is_client (sym h.role) ∙ both.1 in
        let here : ((f.kind == 0) && is_client s.role) ≡ true = ap (λ b. b && is_client s.role) both.0 ∙ client in
        no_pass s t f.stream (λ st. not st.answered) (λ st. not st.answered) h (λ above c. old_data s f q both.0 above)
        (λ a b much g. ap not (much.head client) ∙ g) (true_and ((f.kind == 0) && is_client s.role) (on_open s.streams f.stream (λ st. not st.answered)) here e)

-- ---- header blocks

second_head : (s t : State) (f : Frame) → HearsMore s t → first_broken (stream_rules s f) ≡ None
    → ((f.kind == 1) && not (has f 1) && on_open s.streams f.stream (λ st. not (is_client s.role) || st.answered)) ≡ false
    → ((f.kind == 1) && not (has f 1) && on_open t.streams f.stream (λ st. not (is_client t.role) || st.answered)) ≡ false
second_head s t f h q e =
    and_when ((f.kind == 1) && not (has f 1)) (on_open t.streams f.stream (λ st. not (is_client t.role) || st.answered)) (λ k.
    let kind = and_parts (f.kind == 1) (not (has f 1)) k in
    no_pass s t f.stream (λ st. not (is_client s.role) || st.answered) (λ st. not (is_client t.role) || st.answered) h (λ above client. old_head s f q kind.0 client above)
    (λ a b much g. by_role a b much g) (true_and ((f.kind == 1) && not (has f 1)) (on_open s.streams f.stream (λ st. not (is_client s.role) || st.answered)) k e))
  where
    by_role : (a b : Stream) → HearsAsMuch (is_client s.role) a b → (not (is_client s.role) || a.answered) ≡ false → (not (is_client t.role) || b.answered) ≡ false
    by_role a b much g =
        let parts = or_parts (not (is_client s.role)) a.answered g in
        let client : is_client s.role ≡ true = not-false (is_client s.role) parts.0 in
        or_no (not (is_client t.role)) b.answered (ap (λ r. not (is_client r)) h.role ∙ parts.0) (much.head client ∙ parts.1)

blocks_silent : (s t : State) (f : Frame) → HearsMore s t → first_broken (stream_rules s f) ≡ None → first_broken (block_rules s f) ≡ None → first_broken (block_rules t f) ≡ None
unfolding block_rules
blocks_silent s t f h streams q =
    let n = none_holds (block_rules s f) q in
    all_silent (block_rules t f) ((rw h.block n.0), ((rw (h.block, h.decoder) n.1.0), ((rw (h.block, h.decoder) n.1.1.0), (second_head s t f h streams n.1.1.1.0, tt))))

pub heard_too : (s t : State) (f : Frame) → Rises 0 t.opened t.streams → HearsMore s t → verdict s f ≡ None → verdict t f ≡ None
heard_too s t f r h v =
    let q = silent s f v in
    speak t f (record {
      frames = frames_silent s t f h q.frames;
      windows = windows_silent s t f r h (λ above client k. old_grant s f q.streams k above) q.windows;
      streams = streams_silent s t f h q.streams;
      blocks = blocks_silent s t f h q.streams q.blocks;
    })

pub more_is_heard : MoreIsHeard
more_is_heard s t f ht h v = heard_too s t f (rises 0 t.opened t.streams ht.rising) h v
