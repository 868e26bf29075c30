-- What is seen of a stream, where one stream changes and those with nothing left go.
use Rattle.std.proofs.Common.{◌≡◌, ◌≢◌, ℕ, ◌<◌, ◌≤◌, Bool, true, false, not, cond, eqb, List, [], ◌∷◌, ◌++◌, length, map, Option, Some, None, refl, sym, ap, ◌∙◌, subst, arith}
use Rattle.std.specs.List.{AllByRecursion}
use Rattle.std.proofs.lemmas.Bool.{eqb-true, or_parts, not-false, ne_eqb}
use Rattle.kn_h2_state.specs.declared.stream.Stream.{Stream}
use Rattle.kn_h2_state.specs.Streams.{stream_at, change, is_open, is_kept, tidied}
use Rattle.kn_h2_state.specs.Calls.{text_in}
use Rattle.kn_h2_state.specs.Holding.{Rising}
use Rattle.kn_h2_state.specs.Laws.{Seen, seen}

-- a change leaves a stream its number
abbrev pub KeepsNumber : (Stream → Stream) → Type 0
KeepsNumber f = (st : Stream) → (f st).number ≡ st.number

abbrev pub KeepsText : (Stream → Stream) → Type 0
KeepsText f = (st : Stream) → (f st).text ≡ st.text

-- the stream of this number, if there is one, is kept
abbrev pub IsKeptAt : List Stream → ℕ → Type 0
IsKeptAt ss n = (st : Stream) → stream_at ss n ≡ Some st → is_kept st ≡ true

pub kept_at : (ss : List Stream) (n : ℕ) → AllByRecursion (λ st. is_kept st ≡ true) ss → IsKeptAt ss n
unfolding stream_at
kept_at [] n all st e = absurd cc
kept_at (x ∷ ss) n all st e = by_test (eqb x.number n) (kept_at ss n all.1 st) e
  where
    by_test : (b : Bool) → (stream_at ss n ≡ Some st → is_kept st ≡ true) → cond b (Some x) (stream_at ss n) ≡ Some st → is_kept st ≡ true
    by_test true rest h = let same : x ≡ st = cc in subst (λ (y : Stream). is_kept y ≡ true) same all.0
    by_test false rest h = rest h

-- ---- another stream changes

pub at_change : (ss : List Stream) (m n : ℕ) (f : Stream → Stream) → KeepsNumber f → m ≢ n → stream_at (change ss m f) n ≡ stream_at ss n
unfolding stream_at change
at_change [] m n f k other = refl
at_change (x ∷ ss) m n f k other = by_test (eqb x.number m) refl (at_change ss m n f k other)
  where
    by_test : (b : Bool) → eqb x.number m ≡ b → stream_at (change ss m f) n ≡ stream_at ss n
        → stream_at (cond b (f x ∷ ss) (x ∷ change ss m f)) n ≡ cond (eqb x.number n) (Some x) (stream_at ss n)
    by_test true t rest =
        let apart : eqb x.number n ≡ false = ne_eqb x.number n (λ e. other (sym (eqb-true x.number m t) ∙ e)) in
        let apart' : eqb (f x).number n ≡ false = ap (λ i. eqb i n) (k x) ∙ apart in
        ap (λ b. cond b (Some (f x)) (stream_at ss n)) apart' ∙ sym (ap (λ b. cond b (Some x) (stream_at ss n)) apart)
    by_test false t rest = ap (λ o. cond (eqb x.number n) (Some x) o) rest

pub at_tidied : (ss : List Stream) (n : ℕ) → IsKeptAt ss n → stream_at (tidied ss) n ≡ stream_at ss n
unfolding stream_at
at_tidied [] n k = refl
at_tidied (x ∷ ss) n k = by_number (eqb x.number n) refl k (at_tidied ss n)
  where
    by_kept : (b : Bool) → stream_at (tidied ss) n ≡ stream_at ss n → eqb x.number n ≡ false
        → stream_at (cond b (x ∷ tidied ss) (tidied ss)) n ≡ stream_at ss n
    by_kept true rest t = ap (λ b. cond b (Some x) (stream_at (tidied ss) n)) t ∙ rest
    by_kept false rest t = rest

    by_number : (b : Bool) → eqb x.number n ≡ b → ((st : Stream) → cond b (Some x) (stream_at ss n) ≡ Some st → is_kept st ≡ true)
        → (IsKeptAt ss n → stream_at (tidied ss) n ≡ stream_at ss n)
        → stream_at (cond (is_kept x) (x ∷ tidied ss) (tidied ss)) n ≡ cond b (Some x) (stream_at ss n)
    by_number true t k' rest =
        ap (λ b. stream_at (cond b (x ∷ tidied ss) (tidied ss)) n) (k' x refl) ∙ ap (λ b. cond b (Some x) (stream_at (tidied ss) n)) t
    by_number false t k' rest = by_kept (is_kept x) (rest k') t

pub at_push : (ss : List Stream) (n : ℕ) (w : Stream) → w.number ≢ n → stream_at (ss ++ w ∷ []) n ≡ stream_at ss n
unfolding stream_at
at_push [] n w other = ap (λ b. cond b (Some w) None) (ne_eqb w.number n other)
at_push (x ∷ ss) n w other = ap (λ o. cond (eqb x.number n) (Some x) o) (at_push ss n w other)

-- every stream changes, and nothing that is seen
pub seen_map : (ss : List Stream) (n : ℕ) (f : Stream → Stream) → KeepsNumber f → ((st : Stream) → seen (Some (f st)) ≡ seen (Some st)) → seen (stream_at (map f ss) n) ≡ seen (stream_at ss n)
unfolding stream_at
seen_map [] n f k same = refl
seen_map (x ∷ ss) n f k same = by_test (eqb x.number n) refl (seen_map ss n f k same)
  where
    by_test : (b : Bool) → eqb x.number n ≡ b → seen (stream_at (map f ss) n) ≡ seen (stream_at ss n)
        → seen (cond (eqb (f x).number n) (Some (f x)) (stream_at (map f ss) n)) ≡ seen (cond b (Some x) (stream_at ss n))
    by_test true t rest = ap (λ b. seen (cond b (Some (f x)) (stream_at (map f ss) n))) (ap (λ i. eqb i n) (k x) ∙ t) ∙ same x
    by_test false t rest = ap (λ b. seen (cond b (Some (f x)) (stream_at (map f ss) n))) (ap (λ i. eqb i n) (k x) ∙ t) ∙ rest

-- ---- text

abbrev seen_text : Option Seen → List ℕ
seen_text None = []
seen_text (Some v) = v.text

pub text_seen : (o : Option Stream) → text_in o ≡ seen_text (seen o)
text_seen None = refl
text_seen (Some st) = refl

pub text_as_seen : (o p : Option Stream) → seen o ≡ seen p → text_in o ≡ text_in p
text_as_seen o p e = text_seen o ∙ (ap seen_text e ∙ sym (text_seen p))

pub text_change : (ss : List Stream) (m n : ℕ) (f : Stream → Stream) → KeepsNumber f → KeepsText f → text_in (stream_at (change ss m f) n) ≡ text_in (stream_at ss n)
unfolding stream_at change
text_change [] m n f k keeps = refl
text_change (x ∷ ss) m n f k keeps = by_test (eqb x.number m) (text_change ss m n f k keeps)
  where
    at_head : (b : Bool) (o p : Option Stream) → text_in o ≡ text_in p → text_in (cond b (Some x) o) ≡ text_in (cond b (Some x) p)
    at_head true o p e = refl
    at_head false o p e = e

    at_changed : (b : Bool) → text_in (cond b (Some (f x)) (stream_at ss n)) ≡ text_in (cond b (Some x) (stream_at ss n))
    at_changed true = keeps x
    at_changed false = refl

    by_test : (b : Bool) → text_in (stream_at (change ss m f) n) ≡ text_in (stream_at ss n)
        → text_in (stream_at (cond b (f x ∷ ss) (x ∷ change ss m f)) n) ≡ text_in (cond (eqb x.number n) (Some x) (stream_at ss n))
    by_test true rest = ap (λ i. text_in (cond (eqb i n) (Some (f x)) (stream_at ss n))) (k x) ∙ at_changed (eqb x.number n)
    by_test false rest = at_head (eqb x.number n) (stream_at (change ss m f) n) (stream_at ss n) rest

pub text_push : (ss : List Stream) (n : ℕ) (w : Stream) → w.text ≡ [] → text_in (stream_at (ss ++ w ∷ []) n) ≡ text_in (stream_at ss n)
unfolding stream_at
text_push [] n w e = by_test (eqb w.number n)
  where
    by_test : (b : Bool) → text_in (cond b (Some w) None) ≡ []
    by_test true = e
    by_test false = refl
text_push (x ∷ ss) n w e = by_test (eqb x.number n) (text_push ss n w e)
  where
    by_test : (b : Bool) → text_in (stream_at (ss ++ w ∷ []) n) ≡ text_in (stream_at ss n)
        → text_in (cond b (Some x) (stream_at (ss ++ w ∷ []) n)) ≡ text_in (cond b (Some x) (stream_at ss n))
    by_test true rest = refl
    by_test false rest = rest

-- ---- where their numbers rise

-- the numbers rise, from above this one
unfoldable pub Climbs : ℕ → List Stream → Type 0
Climbs low [] = Unit {0}
Climbs low (x ∷ ss) = (low < x.number) × Climbs x.number ss

pub climbs : (low high : ℕ) (ss : List Stream) → Rising low high ss → Climbs low ss
unfolding Rising Climbs
climbs low high [] r = tt
climbs low high (x ∷ ss) r = (r.0, climbs x.number high ss r.2)

pub climbs_push : (low high : ℕ) (ss : List Stream) (w : Stream) → Rising low high ss → high < w.number → Climbs low (ss ++ w ∷ [])
unfolding Rising Climbs
climbs_push low high [] w r above = (omega arith, tt)
climbs_push low high (x ∷ ss) w r above = (r.0, climbs_push x.number high ss w r.2 above)

pub climbs_change : (low : ℕ) (ss : List Stream) (n : ℕ) (f : Stream → Stream) → KeepsNumber f → Climbs low ss → Climbs low (change ss n f)
unfolding change Climbs
climbs_change low [] n f keeps r = r
climbs_change low (x ∷ ss) n f keeps r = by_test (eqb x.number n) (climbs_change x.number ss n f keeps r.1)
  where
    by_test : (b : Bool) → Climbs x.number (change ss n f) → Climbs low (cond b (f x ∷ ss) (x ∷ change ss n f))
    by_test true rest = subst (λ k. (low < k) × Climbs k ss) (sym (keeps x)) r
    by_test false rest = (r.0, rest)

climbs_lower : (low low' : ℕ) (ss : List Stream) → low ≤ low' → Climbs low' ss → Climbs low ss
unfolding Climbs
climbs_lower low low' [] le r = tt
climbs_lower low low' (x ∷ ss) le r = let a : low < x.number = omega (arith, r.0) in (a, r.1)

pub climbs_tidied : (low : ℕ) (ss : List Stream) → Climbs low ss → Climbs low (tidied ss)
unfolding Climbs
climbs_tidied low [] r = r
climbs_tidied low (x ∷ ss) r = by_test (is_kept x) (climbs_tidied x.number ss r.1)
  where
    by_test : (b : Bool) → Climbs x.number (tidied ss) → Climbs low (cond b (x ∷ tidied ss) (tidied ss))
    by_test true rest = (r.0, rest)
    by_test false rest = let le : low ≤ x.number = omega (arith, r.0) in climbs_lower low x.number (tidied ss) le rest

pub none_below : (low n : ℕ) (ss : List Stream) → n ≤ low → Climbs low ss → stream_at ss n ≡ None
unfolding stream_at Climbs
none_below low n [] le r = refl
none_below low n (x ∷ ss) le r =
    let apart : eqb x.number n ≡ false = ne_eqb x.number n (λ e. absurd (omega (arith, r.0, e))) in
    ap (λ b. cond b (Some x) (stream_at ss n)) apart ∙ none_below x.number n ss (omega (arith, r.0)) r.1

empty : (xs : List ℕ) → length xs ≡ 0 → xs ≡ []
empty [] e = refl
empty (x ∷ xs) e = absurd (omega arith)

-- what is not kept has no text
pub no_text_left : (st : Stream) → is_kept st ≡ false → st.text ≡ []
no_text_left st h = empty st.text (eqb-true _ _ (not-false _ ((or_parts (is_open st) (not (eqb (length st.text) 0)) h).1)))

pub text_tidied : (low n : ℕ) (ss : List Stream) → Climbs low ss → text_in (stream_at (tidied ss) n) ≡ text_in (stream_at ss n)
unfolding stream_at Climbs
text_tidied low n [] r = refl
text_tidied low n (x ∷ ss) r = by_test (is_kept x) refl (eqb x.number n) refl (text_tidied x.number n ss r.1)
  where
    by_test : (kept : Bool) → is_kept x ≡ kept → (b : Bool) → eqb x.number n ≡ b → text_in (stream_at (tidied ss) n) ≡ text_in (stream_at ss n)
        → text_in (stream_at (cond kept (x ∷ tidied ss) (tidied ss)) n) ≡ text_in (cond b (Some x) (stream_at ss n))
    by_test true k true t rest = ap (λ b. text_in (cond b (Some x) (stream_at (tidied ss) n))) t
    by_test true k false t rest = ap (λ b. text_in (cond b (Some x) (stream_at (tidied ss) n))) t ∙ rest
    by_test false k true t rest =
        let le : n ≤ x.number = omega (arith, eqb-true x.number n t) in
        rest ∙ (ap text_in (none_below x.number n ss le r.1) ∙ sym (no_text_left x k))
    by_test false k false t rest = rest

-- the stream that changes
pub at_changed : (ss : List Stream) (n : ℕ) (f : Stream → Stream) (st : Stream) → KeepsNumber f → stream_at ss n ≡ Some st → stream_at (change ss n f) n ≡ Some (f st)
unfolding stream_at change
at_changed [] n f st k e = absurd cc
at_changed (x ∷ ss) n f st k e = by_test (eqb x.number n) refl (at_changed ss n f st k) e
  where
    by_test : (b : Bool) → eqb x.number n ≡ b → (stream_at ss n ≡ Some st → stream_at (change ss n f) n ≡ Some (f st)) → cond b (Some x) (stream_at ss n) ≡ Some st
        → stream_at (cond b (f x ∷ ss) (x ∷ change ss n f)) n ≡ Some (f st)
    by_test true t rest h =
        let same : x ≡ st = cc in
        ap (λ b. cond b (Some (f x)) (stream_at ss n)) (ap (λ i. eqb i n) (k x) ∙ t) ∙ ap (λ (y : Stream). Some (f y)) same
    by_test false t rest h = ap (λ b. cond b (Some x) (stream_at (change ss n f) n)) t ∙ rest h
