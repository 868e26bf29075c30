-- Streams by their numbers: one of them changes, and those with nothing left go.
use Rattle.std.proofs.Common.{◌≡◌, ℕ, ◌+◌, ◌<◌, ◌≤◌, ◌%◌, Bool, true, false, not, cond, eqb, List, [], ◌∷◌, ◌++◌, length, map, Some, None, refl, sym, ap, ◌∙◌, subst, arith}
use Rattle.std.specs.List.{AllByRecursion}
use Rattle.std.proofs.lemmas.Bool.{eqb-true, and_parts, or_parts, or_left, not-false}
use Rattle.kn_h2_state.specs.declared.stream.Stream.{Stream}
use Rattle.kn_h2_state.specs.Streams.{stream_at, with_stream, change, is_open, is_kept, tidied, passes, on_open}
use Rattle.kn_h2_state.specs.Holding.{Rising, text_bytes}

-- ---- one stream changes

pub change_some : (ss : List Stream) (n : ℕ) (f : Stream → Stream) (s : Stream) → stream_at ss n ≡ Some s → change ss n f ≡ with_stream ss n (f s)
unfolding stream_at change with_stream
change_some [] n f s e = absurd cc
change_some (x ∷ ss) n f s e = by_test (eqb x.number n) (change_some ss n f s) e
  where
    by_test : (b : Bool) → (stream_at ss n ≡ Some s → change ss n f ≡ with_stream ss n (f s)) → cond b (Some x) (stream_at ss n) ≡ Some s → cond b (f x ∷ ss) (x ∷ change ss n f) ≡ cond b (f s ∷ ss) (x ∷ with_stream ss n (f s))
    by_test true rest h = let same : x ≡ s = cc in ap (λ (y : Stream). f y ∷ ss) same
    by_test false rest h = ap (λ l. x ∷ l) (rest h)

pub change_none : (ss : List Stream) (n : ℕ) (f : Stream → Stream) → stream_at ss n ≡ None → change ss n f ≡ ss
unfolding stream_at change
change_none [] n f e = refl
change_none (x ∷ ss) n f e = by_test (eqb x.number n) (change_none ss n f) e
  where
    by_test : (b : Bool) → (stream_at ss n ≡ None → change ss n f ≡ ss) → cond b (Some x) (stream_at ss n) ≡ None → cond b (f x ∷ ss) (x ∷ change ss n f) ≡ x ∷ ss
    by_test true rest h = absurd cc
    by_test false rest h = ap (λ l. x ∷ l) (rest h)

-- a change that a stream of this number doesn't notice
pub change_same : (ss : List Stream) (n : ℕ) (f g : Stream → Stream) → ((s : Stream) → stream_at ss n ≡ Some s → f s ≡ g s) → change ss n f ≡ change ss n g
unfolding stream_at change
change_same [] n f g h = refl
change_same (x ∷ ss) n f g h = by_test (eqb x.number n) (change_same ss n f g) h
  where
    by_test : (b : Bool) → (((s : Stream) → stream_at ss n ≡ Some s → f s ≡ g s) → change ss n f ≡ change ss n g) → ((s : Stream) → cond b (Some x) (stream_at ss n) ≡ Some s → f s ≡ g s)
        → cond b (f x ∷ ss) (x ∷ change ss n f) ≡ cond b (g x ∷ ss) (x ∷ change ss n g)
    by_test true rest k = ap (λ y. y ∷ ss) (k x refl)
    by_test false rest k = ap (λ l. x ∷ l) (rest k)

-- the stream of a number has it
pub number_of : (ss : List Stream) (n : ℕ) (s : Stream) → stream_at ss n ≡ Some s → s.number ≡ n
unfolding stream_at
number_of [] n s e = absurd cc
number_of (x ∷ ss) n s e = by_test (eqb x.number n) refl (number_of ss n s) e
  where
    by_test : (b : Bool) → eqb x.number n ≡ b → (stream_at ss n ≡ Some s → s.number ≡ n) → cond b (Some x) (stream_at ss n) ≡ Some s → s.number ≡ n
    by_test true t rest h = let same : x ≡ s = cc in ap (λ (y : Stream). y.number) (sym same) ∙ eqb-true _ _ t
    by_test false t rest h = rest h

-- ---- what holds of each stream

pub all_at : (P : Stream → Type 0) (ss : List Stream) (n : ℕ) (s : Stream) → AllByRecursion P ss → stream_at ss n ≡ Some s → P s
unfolding stream_at
all_at P [] n s all e = absurd cc
all_at P (x ∷ ss) n s all e = by_test (eqb x.number n) (all_at P ss n s all.1) e
  where
    by_test : (b : Bool) → (stream_at ss n ≡ Some s → P s) → cond b (Some x) (stream_at ss n) ≡ Some s → P s
    by_test true rest h = let same : x ≡ s = cc in subst P same all.0
    by_test false rest h = rest h

pub all_change : (P : Stream → Type 0) (ss : List Stream) (n : ℕ) (f : Stream → Stream) → ((s : Stream) → stream_at ss n ≡ Some s → P s → P (f s)) → AllByRecursion P ss → AllByRecursion P (change ss n f)
unfolding stream_at change
all_change P [] n f keeps all = all
all_change P (x ∷ ss) n f keeps all = by_test (eqb x.number n) (all_change P ss n f) keeps
  where
    by_test : (b : Bool) → (((s : Stream) → stream_at ss n ≡ Some s → P s → P (f s)) → AllByRecursion P ss → AllByRecursion P (change ss n f))
        → ((s : Stream) → cond b (Some x) (stream_at ss n) ≡ Some s → P s → P (f s)) → AllByRecursion P (cond b (f x ∷ ss) (x ∷ change ss n f))
    by_test true rest k = (k x refl all.0, all.1)
    by_test false rest k = (all.0, rest k all.1)

pub all_weaker : (P Q : Stream → Type 0) → ((s : Stream) → P s → Q s) → (ss : List Stream) → AllByRecursion P ss → AllByRecursion Q ss
all_weaker P Q w [] all = all
all_weaker P Q w (x ∷ ss) all = (w x all.0, all_weaker P Q w ss all.1)

pub all_push : (P : Stream → Type 0) (ss : List Stream) (s : Stream) → AllByRecursion P ss → P s → AllByRecursion P (ss ++ s ∷ [])
all_push P [] s all p = (p, tt)
all_push P (x ∷ ss) s all p = (all.0, all_push P ss s all.1 p)

pub all_map : (P Q : Stream → Type 0) (f : Stream → Stream) → ((s : Stream) → P s → Q (f s)) → (ss : List Stream) → AllByRecursion P ss → AllByRecursion Q (map f ss)
all_map P Q f w [] all = all
all_map P Q f w (x ∷ ss) all = (w x all.0, all_map P Q f w ss all.1)

-- ---- those with nothing left go

pub all_tidied : (P : Stream → Type 0) (ss : List Stream) → AllByRecursion P ss → AllByRecursion P (tidied ss)
all_tidied P [] all = all
all_tidied P (x ∷ ss) all = by_test (is_kept x) (all_tidied P ss all.1)
  where
    by_test : (b : Bool) → AllByRecursion P (tidied ss) → AllByRecursion P (cond b (x ∷ tidied ss) (tidied ss))
    by_test true rest = (all.0, rest)
    by_test false rest = rest

pub kept_tidied : (ss : List Stream) → AllByRecursion (λ st. is_kept st ≡ true) (tidied ss)
kept_tidied [] = tt
kept_tidied (x ∷ ss) = by_test (is_kept x) refl (kept_tidied ss)
  where
    by_test : (b : Bool) → is_kept x ≡ b → AllByRecursion (λ st. is_kept st ≡ true) (tidied ss) → AllByRecursion (λ st. is_kept st ≡ true) (cond b (x ∷ tidied ss) (tidied ss))
    by_test true t rest = (t, rest)
    by_test false t rest = rest

-- where all are kept none goes
pub tidied_all : (ss : List Stream) → AllByRecursion (λ st. is_kept st ≡ true) ss → tidied ss ≡ ss
tidied_all [] all = refl
tidied_all (x ∷ ss) all = ap (λ b. cond b (x ∷ tidied ss) (tidied ss)) all.0 ∙ ap (λ l. x ∷ l) (tidied_all ss all.1)

-- nor where one was changed that is still open
pub open_stays : (ss : List Stream) (n : ℕ) (f : Stream → Stream) → ((st : Stream) → (f st).number ≡ st.number) → AllByRecursion (λ st. is_kept st ≡ true) ss
    → on_open (change ss n f) n (λ st. true) ≡ true → tidied (change ss n f) ≡ change ss n f
unfolding stream_at change
open_stays [] n f keeps all here = refl
open_stays (x ∷ ss) n f keeps all here = by_test (eqb x.number n) refl (open_stays ss n f keeps all.1) here
  where
    open_head : (b : Bool) → b ≡ true → passes (λ st. true) (cond b (Some (f x)) (stream_at ss n)) ≡ true → is_kept (f x) ≡ true
    open_head true e h = or_left _ _ (and_parts (is_open (f x)) true h).0
    open_head false e h = absurd cc

    by_test : (b : Bool) → eqb x.number n ≡ b → (on_open (change ss n f) n (λ st. true) ≡ true → tidied (change ss n f) ≡ change ss n f)
        → on_open (cond b (f x ∷ ss) (x ∷ change ss n f)) n (λ st. true) ≡ true → tidied (cond b (f x ∷ ss) (x ∷ change ss n f)) ≡ cond b (f x ∷ ss) (x ∷ change ss n f)
    by_test true t rest h =
        ap (λ b. cond b (f x ∷ tidied ss) (tidied ss)) (open_head (eqb (f x).number n) (ap (λ k. eqb k n) (keeps x) ∙ t) h) ∙ ap (λ l. f x ∷ l) (tidied_all ss all.1)
    by_test false t rest h =
        ap (λ b. cond b (x ∷ tidied (change ss n f)) (tidied (change ss n f))) all.0
        ∙ ap (λ l. x ∷ l) (rest (subst (λ b. passes (λ st. true) (cond b (Some x) (stream_at (change ss n f) n)) ≡ true) t h))

-- what is not kept has no text
pub no_text : (s : Stream) → is_kept s ≡ false → length s.text ≡ 0
no_text s h = eqb-true _ _ (not-false _ ((or_parts (is_open s) (not (eqb (length s.text) 0)) h).1))

pub text_tidied : (ss : List Stream) → text_bytes (tidied ss) ≡ text_bytes ss
unfolding text_bytes
text_tidied [] = refl
text_tidied (x ∷ ss) = by_test (is_kept x) refl (text_tidied ss)
  where
    by_test : (b : Bool) → is_kept x ≡ b → text_bytes (tidied ss) ≡ text_bytes ss → text_bytes (cond b (x ∷ tidied ss) (tidied ss)) ≡ length x.text + text_bytes ss
    by_test true t e = ap (λ k. length x.text + k) e
    by_test false t e = let none = no_text x t in omega arith

-- ---- their numbers rise

pub rising_lower : (low low' high : ℕ) (ss : List Stream) → low ≤ low' → Rising low' high ss → Rising low high ss
unfolding Rising
rising_lower low low' high [] le r = omega arith
rising_lower low low' high (x ∷ ss) le r = let a : low < x.number = omega (arith, r.0) in (a, r.1, r.2)

pub rising_higher : (low high high' : ℕ) (ss : List Stream) → high ≤ high' → Rising low high ss → Rising low high' ss
unfolding Rising
rising_higher low high high' [] le r = omega arith
rising_higher low high high' (x ∷ ss) le r = (r.0, r.1, rising_higher x.number high high' ss le r.2)

pub rising_tidied : (low high : ℕ) (ss : List Stream) → Rising low high ss → Rising low high (tidied ss)
unfolding Rising
rising_tidied low high [] r = r
rising_tidied low high (x ∷ ss) r = by_test (is_kept x) (rising_tidied x.number high ss r.2)
  where
    by_test : (b : Bool) → Rising x.number high (tidied ss) → Rising low high (cond b (x ∷ tidied ss) (tidied ss))
    by_test true rest = (r.0, r.1, rest)
    by_test false rest = let le : low ≤ x.number = omega (arith, r.0) in rising_lower low x.number high (tidied ss) le rest

pub rising_change : (low high : ℕ) (ss : List Stream) (n : ℕ) (f : Stream → Stream) → ((s : Stream) → (f s).number ≡ s.number) → Rising low high ss → Rising low high (change ss n f)
unfolding change Rising
rising_change low high [] n f keeps r = r
rising_change low high (x ∷ ss) n f keeps r = by_test (eqb x.number n) (rising_change x.number high ss n f keeps r.2)
  where
    by_test : (b : Bool) → Rising x.number high (change ss n f) → Rising low high (cond b (f x ∷ ss) (x ∷ change ss n f))
    by_test true rest = subst (λ k. (low < k) × (k % 2 ≡ 1) × Rising k high ss) (sym (keeps x)) r
    by_test false rest = (r.0, r.1, rest)

pub rising_map : (low high : ℕ) (ss : List Stream) (f : Stream → Stream) → ((s : Stream) → (f s).number ≡ s.number) → Rising low high ss → Rising low high (map f ss)
unfolding Rising
rising_map low high [] f keeps r = r
rising_map low high (x ∷ ss) f keeps r = subst (λ k. (low < k) × (k % 2 ≡ 1) × Rising k high (map f ss)) (sym (keeps x)) (r.0, r.1, rising_map x.number high ss f keeps r.2)

pub rising_push : (low high : ℕ) (ss : List Stream) (s : Stream) → Rising low high ss → high < s.number → s.number % 2 ≡ 1 → Rising low s.number (ss ++ s ∷ [])
unfolding Rising
rising_push low high [] s r above odd = (omega arith, odd, omega arith)
rising_push low high (x ∷ ss) s r above odd = (r.0, r.1, rising_push x.number high ss s r.2 above odd)

-- ---- the text of all of them

pub text_at : (ss : List Stream) (n : ℕ) (s : Stream) → stream_at ss n ≡ Some s → length s.text ≤ text_bytes ss
unfolding stream_at text_bytes
text_at [] n s e = absurd cc
text_at (x ∷ ss) n s e = by_test (eqb x.number n) (text_at ss n s) e
  where
    by_test : (b : Bool) → (stream_at ss n ≡ Some s → length s.text ≤ text_bytes ss) → cond b (Some x) (stream_at ss n) ≡ Some s → length s.text ≤ length x.text + text_bytes ss
    by_test true rest h = let same : x ≡ s = cc in let long = ap (λ (y : Stream). length y.text) same in omega arith
    by_test false rest h = let long = rest h in omega arith

pub text_change : (ss : List Stream) (n : ℕ) (f : Stream → Stream) (s : Stream) → stream_at ss n ≡ Some s → text_bytes (change ss n f) + length s.text ≡ text_bytes ss + length (f s).text
unfolding stream_at change text_bytes
text_change [] n f s e = absurd cc
text_change (x ∷ ss) n f s e = by_test (eqb x.number n) (text_change ss n f s) e
  where
    by_test : (b : Bool) → (stream_at ss n ≡ Some s → text_bytes (change ss n f) + length s.text ≡ text_bytes ss + length (f s).text) → cond b (Some x) (stream_at ss n) ≡ Some s
        → text_bytes (cond b (f x ∷ ss) (x ∷ change ss n f)) + length s.text ≡ (length x.text + text_bytes ss) + length (f s).text
    by_test true rest h = let same : x ≡ s = cc in let long = ap (λ (y : Stream). length y.text) same in let made = ap (λ (y : Stream). length (f y).text) same in omega arith
    by_test false rest h = let long = rest h in omega arith

pub text_kept : (ss : List Stream) (n : ℕ) (f : Stream → Stream) → ((s : Stream) → length (f s).text ≡ length s.text) → text_bytes (change ss n f) ≡ text_bytes ss
unfolding change text_bytes
text_kept [] n f same = refl
text_kept (x ∷ ss) n f same = by_test (eqb x.number n) (text_kept ss n f same)
  where
    by_test : (b : Bool) → text_bytes (change ss n f) ≡ text_bytes ss → text_bytes (cond b (f x ∷ ss) (x ∷ change ss n f)) ≡ length x.text + text_bytes ss
    by_test true e = ap (λ k. k + text_bytes ss) (same x)
    by_test false e = ap (λ k. length x.text + k) e

pub text_map : (ss : List Stream) (f : Stream → Stream) → ((s : Stream) → length (f s).text ≡ length s.text) → text_bytes (map f ss) ≡ text_bytes ss
unfolding text_bytes
text_map [] f same = refl
text_map (x ∷ ss) f same = let here = same x in let rest = text_map ss f same in omega arith

pub text_push : (ss : List Stream) (s : Stream) → length s.text ≡ 0 → text_bytes (ss ++ s ∷ []) ≡ text_bytes ss
unfolding text_bytes
text_push [] s none = omega arith
text_push (x ∷ ss) s none = ap (λ k. length x.text + k) (text_push ss s none)
