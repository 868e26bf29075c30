-- Settings in their order, and the windows that they shift.
use Rattle.std.proofs.Common.{◌≡◌, ℕ, ℤ, pos, ◌+ℤ◌, ◌-ℤ◌, ◌<◌, ◌≤◌, Bool, true, false, not, ◌&&◌, ◌||◌, List, [], ◌∷◌, length, take, drop, Option, Some, None, IfSome, refl, sym, ap, ◌∙◌, arith}
use Rattle.std.specs.Prelude.{int_le, ◌==◌, nat_lt, if◌then◌else◌}
use Rattle.std.specs.Int.{from_be_bytes, w16, w32}
use Rattle.std.specs.List.{list_any}
use Rattle.std.proofs.lemmas.Int.{ints}
use Rattle.std.proofs.lemmas.Bool.{eqb-true, ltb-true, ltb-false, lt-ltb, or_parts, or_left, or_right, not-true}
use Rattle.kn_h2_state.specs.declared.stream.Stream.{Stream}
use Rattle.kn_h2_state.specs.Payloads.{settings_of}
use Rattle.kn_h2_state.specs.Streams.{is_open}
use Rattle.kn_h2_state.specs.Rules.{breaks_windows, shifted, shifted_one, shifts_over}
use Rattle.kn_h2_state.specs.declared.state.State.{State}
use Rattle.kn_h2_state.specs.Effects.{after_setting, after_settings}
use Rattle.kn_h2_state.specs.Verdicts.{sets_over}
use Rattle.kn_h2_state.specs.Settings.{last_of, larger, largest_initial, is_over_by, with_initial, SettingsAtOnce, LastFits}

pub settings_of_short : (b : List ℕ) → length b < 6 → settings_of b ≡ []
unfolding settings_of
settings_of_short [] h = refl
settings_of_short (a ∷ []) h = refl
settings_of_short (a ∷ b ∷ []) h = refl
settings_of_short (a ∷ b ∷ c ∷ []) h = refl
settings_of_short (a ∷ b ∷ c ∷ d ∷ []) h = refl
settings_of_short (a ∷ b ∷ c ∷ d ∷ e ∷ []) h = refl
settings_of_short (a ∷ b ∷ c ∷ d ∷ e ∷ g ∷ rest) h = absurd (omega arith)

pub settings_of_more : (b : List ℕ) → 6 ≤ length b → settings_of b ≡ (from_be_bytes w16 (take 2 b), from_be_bytes w32 (take 4 (drop 2 b))) ∷ settings_of (drop 6 b)
unfolding settings_of
settings_of_more [] h = absurd (omega arith)
settings_of_more (a ∷ []) h = absurd (omega arith)
settings_of_more (a ∷ b ∷ []) h = absurd (omega arith)
settings_of_more (a ∷ b ∷ c ∷ []) h = absurd (omega arith)
settings_of_more (a ∷ b ∷ c ∷ d ∷ []) h = absurd (omega arith)
settings_of_more (a ∷ b ∷ c ∷ d ∷ e ∷ []) h = absurd (omega arith)
settings_of_more (a ∷ b ∷ c ∷ d ∷ e ∷ g ∷ rest) h = refl

-- the first setting and the others
pub first_is : (b rest : List ℕ) (number value : ℕ) → 6 ≤ length b → number ≡ from_be_bytes w16 (take 2 b) → value ≡ from_be_bytes w32 (take 4 (drop 2 b)) → rest ≡ drop 6 b
    → settings_of b ≡ (number, value) ∷ settings_of rest
first_is b rest number value h e g k = rw (e, g, k) (settings_of_more b h)

-- a change of INITIAL_WINDOW_SIZE in two steps is one
shift_twice : (z : ℤ) (i j v : ℕ) → (z +ℤ (pos j -ℤ pos i)) +ℤ (pos v -ℤ pos j) ≡ z +ℤ (pos v -ℤ pos i)
shift_twice z i j v = omega (arith, ints)

shift_none : (z : ℤ) (i : ℕ) → z +ℤ (pos i -ℤ pos i) ≡ z
shift_none z i = omega (arith, ints)

one_twice : (i j v : ℕ) (st : Stream) → shifted_one j v (shifted_one i j st) ≡ shifted_one i v st
one_twice i j v st = by_open (is_open st) refl
  where
    by_open : (b : Bool) → is_open st ≡ b → shifted_one j v (shifted_one i j st) ≡ shifted_one i v st
    by_open true e = rw (e, e) (ap (λ (z : ℤ). record st { send = z }) (shift_twice st.send i j v))
    by_open false e = rw (e, e) refl

over_later : (i j v : ℕ) (st : Stream) → shifts_over j v (shifted_one i j st) ≡ shifts_over i v st
over_later i j v st = by_open (is_open st) refl
  where
    by_open : (b : Bool) → is_open st ≡ b → shifts_over j v (shifted_one i j st) ≡ shifts_over i v st
    by_open true e = rw (e, e) (ap (λ (z : ℤ). not (int_le z (pos 2147483647))) (shift_twice st.send i j v))
    by_open false e = rw (e, e) refl

one_same : (i : ℕ) (st : Stream) → shifted_one i i st ≡ st
one_same i st = by_open (is_open st) refl
  where
    by_open : (b : Bool) → is_open st ≡ b → shifted_one i i st ≡ st
    by_open true e = rw e (ap (λ (z : ℤ). record st { send = z }) (shift_none st.send i))
    by_open false e = rw e refl

shifted_twice : (i j v : ℕ) (ss : List Stream) → shifted j v (shifted i j ss) ≡ shifted i v ss
shifted_twice i j v [] = refl
shifted_twice i j v (st ∷ ss) = cc (one_twice i j v st, shifted_twice i j v ss)

shifted_same : (i : ℕ) (ss : List Stream) → shifted i i ss ≡ ss
shifted_same i [] = refl
shifted_same i (st ∷ ss) = cc (one_same i st, shifted_same i ss)

any_later : (i j v : ℕ) (ss : List Stream) → list_any (shifts_over j v) (shifted i j ss) ≡ list_any (shifts_over i v) ss
any_later i j v [] = refl
any_later i j v (st ∷ ss) = ap (λ (b : Bool). b || list_any (shifts_over j v) (shifted i j ss)) (over_later i j v st)
    ∙ ap (λ (b : Bool). shifts_over i v st || b) (any_later i j v ss)

on_four : (b p r : Bool) → (if b then p || r else r) ≡ ((b && p) || r)
on_four true p r = refl
on_four false p r = refl

-- what a first change of INITIAL_WINDOW_SIZE leaves over for the later ones
breaks_later : (i j : ℕ) (ss : List Stream) (xs : List (ℕ × ℕ)) → breaks_windows j (shifted i j ss) xs ≡ list_any (sets_over i ss) xs
unfolding breaks_windows
breaks_later i j ss [] = refl
breaks_later i j ss (x ∷ xs) =
    rw (any_later i j x.1 ss, shifted_twice i j x.1 ss, breaks_later i x.1 ss xs, breaks_later i j ss xs)
    (on_four (x.0 == 4) (nat_lt 2147483647 x.1 || list_any (shifts_over i x.1) ss) (list_any (sets_over i ss) xs))

-- Settings taken in turn bring something over exactly where one of them alone does.
pub breaks_windows_any : (i : ℕ) (ss : List Stream) (xs : List (ℕ × ℕ)) → breaks_windows i ss xs ≡ list_any (sets_over i ss) xs
breaks_windows_any i ss xs = let e = breaks_later i i ss xs in rw (shifted_same i ss) at e

-- ---- the largest value decides

or_none : (b : Bool) → (b || false) ≡ b
or_none true = refl
or_none false = refl

or_assoc : (a b c : Bool) → ((a || b) || c) ≡ (a || (b || c))
or_assoc true b c = refl
or_assoc false b c = refl

or_less : (a b : Bool) → (a ≡ true → b ≡ true) → b ≡ (a || b)
or_less true b h = h refl
or_less false b h = refl

or_more : (a b : Bool) → (b ≡ true → a ≡ true) → a ≡ (a || b)
or_more true b h = refl
or_more false true h = h refl
or_more false false h = refl

over_more : (i v w : ℕ) (st : Stream) → v ≤ w → shifts_over i v st ≡ true → shifts_over i w st ≡ true
over_more i v w st le h = by_open (is_open st) h
  where
    higher : int_le (st.send +ℤ (pos v -ℤ pos i)) (pos 2147483647) ≡ false → int_le (st.send +ℤ (pos w -ℤ pos i)) (pos 2147483647) ≡ false
    higher e = grind (arith, ints, le)

    by_open : (b : Bool) → (b && not (int_le (st.send +ℤ (pos v -ℤ pos i)) (pos 2147483647))) ≡ true → (b && not (int_le (st.send +ℤ (pos w -ℤ pos i)) (pos 2147483647))) ≡ true
    by_open true e = ap not (higher (not-true _ e))
    by_open false e = absurd cc

any_more : (i v w : ℕ) (ss : List Stream) → v ≤ w → list_any (shifts_over i v) ss ≡ true → list_any (shifts_over i w) ss ≡ true
any_more i v w [] le h = absurd cc
any_more i v w (st ∷ ss) le h = by_test (any_more i v w ss le) (shifts_over i v st) refl h
  where
    by_test : (list_any (shifts_over i v) ss ≡ true → list_any (shifts_over i w) ss ≡ true) → (b : Bool) → shifts_over i v st ≡ b
        → (b || list_any (shifts_over i v) ss) ≡ true → (shifts_over i w st || list_any (shifts_over i w) ss) ≡ true
    by_test later true e g = or_left _ _ (over_more i v w st le e)
    by_test later false e g = or_right _ _ (later g)

-- a larger value is over where a smaller one is
over_by_more : (i v w : ℕ) (ss : List Stream) → v ≤ w → is_over_by i ss (Some v) ≡ true → is_over_by i ss (Some w) ≡ true
over_by_more i v w ss le h = by_test (nat_lt 2147483647 v) refl h
  where
    by_test : (b : Bool) → nat_lt 2147483647 v ≡ b → (b || list_any (shifts_over i v) ss) ≡ true → (nat_lt 2147483647 w || list_any (shifts_over i w) ss) ≡ true
    by_test true e g = or_left _ _ (lt-ltb 2147483647 w (omega (arith, le, ltb-true 2147483647 v e)))
    by_test false e g = or_right _ _ (any_more i v w ss le g)

over_larger : (i : ℕ) (ss : List Stream) (o : Option ℕ) (v : ℕ) → is_over_by i ss (larger o v) ≡ (is_over_by i ss o || is_over_by i ss (Some v))
over_larger i ss None v = refl
over_larger i ss (Some m) v = by_test (nat_lt m v) refl
  where
    by_test : (b : Bool) → nat_lt m v ≡ b → is_over_by i ss (Some (if b then v else m)) ≡ (is_over_by i ss (Some m) || is_over_by i ss (Some v))
    by_test true e = or_less _ _ (over_by_more i m v ss (omega (arith, ltb-true m v e)))
    by_test false e = or_more _ _ (over_by_more i v m ss (ltb-false m v e))

over_largest : (i : ℕ) (ss : List Stream) (o : Option ℕ) (xs : List (ℕ × ℕ)) → is_over_by i ss (largest_initial o xs) ≡ (is_over_by i ss o || list_any (sets_over i ss) xs)
unfolding largest_initial
over_largest i ss o [] = sym (or_none (is_over_by i ss o))
over_largest i ss o (x ∷ xs) = by_test (λ p. over_largest i ss p xs) (x.0 == 4)
  where
    by_test : ((p : Option ℕ) → is_over_by i ss (largest_initial p xs) ≡ (is_over_by i ss p || list_any (sets_over i ss) xs)) → (b : Bool)
        → is_over_by i ss (largest_initial (if b then larger o x.1 else o) xs)
        ≡ (is_over_by i ss o || ((b && is_over_by i ss (Some x.1)) || list_any (sets_over i ss) xs))
    by_test later true = later (larger o x.1) ∙ ap (λ b. b || list_any (sets_over i ss) xs) (over_larger i ss o x.1) ∙ or_assoc (is_over_by i ss o) (is_over_by i ss (Some x.1)) (list_any (sets_over i ss) xs)
    by_test later false = later o

pub breaks_by_largest : (i : ℕ) (ss : List Stream) (xs : List (ℕ × ℕ)) → breaks_windows i ss xs ≡ is_over_by i ss (largest_initial None xs)
breaks_by_largest i ss xs = breaks_windows_any i ss xs ∙ sym (over_largest i ss None xs)

-- ---- the last value stays

at_once : (s : State) (o : Option ℕ) (xs : List (ℕ × ℕ)) → after_settings (with_initial o s) xs ≡ with_initial (last_of 4 o xs) (record s { most = last_of 3 s.most xs })
unfolding after_settings after_setting last_of
at_once s o [] = refl
at_once s o (x ∷ xs) = by_four (λ t p. at_once t p xs) (x.0 == 4) refl (x.0 == 3) refl
  where
    goes : (p : Option ℕ) → (let t : State = record (with_initial p s) { initial = x.1; streams = shifted (with_initial p s).initial x.1 (with_initial p s).streams } in t) ≡ with_initial (Some x.1) s
    goes None = refl
    goes (Some j) = ap (λ ss. let t : State = record s { initial = x.1; streams = ss } in t) (shifted_twice s.initial j x.1 s.streams)

    counts : (p : Option ℕ) → (let t : State = record (with_initial p s) { most = Some x.1 } in t) ≡ with_initial p (record s { most = Some x.1 })
    counts None = refl
    counts (Some j) = refl

    step : (b c : Bool) → State
    step b c = if b then record (with_initial o s) { initial = x.1; streams = shifted (with_initial o s).initial x.1 (with_initial o s).streams }
        else (if c then record (with_initial o s) { most = Some x.1 } else with_initial o s)

    not_both : (b c : Bool) → x.0 ≡ 4 → (x.0 == 3) ≡ c → c ≡ false
    not_both b c e g = sym g ∙ ap (λ n. n == 3) e

    by_four : ((t : State) (p : Option ℕ) → after_settings (with_initial p t) xs ≡ with_initial (last_of 4 p xs) (record t { most = last_of 3 t.most xs })) → (b : Bool) → (x.0 == 4) ≡ b → (c : Bool) → (x.0 == 3) ≡ c
        → after_settings (step b c) xs ≡ with_initial (last_of 4 (if b then Some x.1 else o) xs) (record s { most = last_of 3 (if c then Some x.1 else s.most) xs })
    by_four later true e c g =
        let none : c ≡ false = not_both true c (eqb-true x.0 4 e) g in
        ap (λ t. after_settings t xs) (goes o) ∙ later s (Some x.1)
        ∙ ap (λ d. with_initial (last_of 4 (Some x.1) xs) (record s { most = last_of 3 (if d then Some x.1 else s.most) xs })) (sym none)
    by_four later false e true g = ap (λ t. after_settings t xs) (counts o) ∙ later (record s { most = Some x.1 }) o
    by_four later false e false g = later s o

pub settings_at_once : SettingsAtOnce
settings_at_once s xs = at_once s None xs

last_fits_from : (i : ℕ) (ss : List Stream) (o : Option ℕ) (xs : List (ℕ × ℕ)) → list_any (sets_over i ss) xs ≡ false
    → IfSome o (λ v. (v ≤ 2147483647) × (list_any (shifts_over i v) ss ≡ false)) → IfSome (last_of 4 o xs) (λ v. (v ≤ 2147483647) × (list_any (shifts_over i v) ss ≡ false))
unfolding last_of
last_fits_from i ss o [] none fits = fits
last_fits_from i ss o (x ∷ xs) none fits = by_test (λ p. last_fits_from i ss p xs) (x.0 == 4) (or_parts _ _ none).0 (or_parts _ _ none).1
  where
    by_test : ((p : Option ℕ) → list_any (sets_over i ss) xs ≡ false → IfSome p (λ v. (v ≤ 2147483647) × (list_any (shifts_over i v) ss ≡ false))
        → IfSome (last_of 4 p xs) (λ v. (v ≤ 2147483647) × (list_any (shifts_over i v) ss ≡ false))) → (b : Bool) → (b && is_over_by i ss (Some x.1)) ≡ false → list_any (sets_over i ss) xs ≡ false
        → IfSome (last_of 4 (if b then Some x.1 else o) xs) (λ v. (v ≤ 2147483647) × (list_any (shifts_over i v) ss ≡ false))
    by_test later true e rest = let p = or_parts (nat_lt 2147483647 x.1) _ e in later (Some x.1) rest (ltb-false 2147483647 x.1 p.0, p.1)
    by_test later false e rest = later o rest fits

pub last_fits : LastFits
last_fits i ss xs none = last_fits_from i ss None xs (sym (breaks_windows_any i ss xs) ∙ none) tt
