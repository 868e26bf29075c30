-- Two lists of streams, the second of which hears at least as much: what changes keep it so.
use Rattle.std.proofs.Common.{◌≡◌, ◌≢◌, inl, inr, ◌⊎◌, ℕ, ℤ, pos, ◌+ℤ◌, ◌-ℤ◌, ◌≤ℤ◌, ◌<◌, Bool, true, false, not, cond, eqb, ◌&&◌, ◌||◌, List, [], ◌∷◌, ◌++◌, length, Option, Some, None, refl, sym, ap, ◌∙◌, subst, if◌then◌else◌}
use Rattle.std.specs.Prelude.{◌==◌}
use Rattle.std.proofs.lemmas.Bool.{eqb-true, eqb-false, eq-eqb}
use Rattle.kn_h2_state.specs.declared.stream.Stream.{Stream}
use Rattle.kn_h2_state.specs.declared.state.State.{State}
use Rattle.kn_h2_state.specs.Streams.{stream_at, change, is_open, is_kept, tidied, passes}
use Rattle.kn_h2_state.specs.Rules.{shifted, shifted_one}
use Rattle.kn_h2_state.specs.Effects.{new_stream}
use Rattle.kn_h2_state.specs.Preorder.{HearsAsMuch}
use Rattle.kn_h2_state.proofs.SeenLemmas.{KeepsNumber, Climbs, at_change as at_other, at_tidied as at_kept}
use Rattle.kn_h2_state.proofs.OtherLaws.{shifted_number}
use Rattle.kn_h2_state.proofs.BorneLemmas.{at_tidied, at_push}
use Rattle.kn_h2_state.proofs.PreorderLaws.{mapped, at_mapped, shifted_open, shifted_send, shift_less, shift_initial}
use Rattle.kn_h2_state.proofs.OwnSteps.{le_same}

-- in the first list there is such a stream, open, and the second's hears at least as much
abbrev pub HasLike : Bool → List Stream → ℕ → Stream → Type 0
HasLike c ss n b = (a : Stream) × (stream_at ss n ≡ Some a) × (is_open a ≡ true) × HearsAsMuch c a b

-- or a client has begun it since
abbrev pub IsYoung : Bool → ℕ → ℕ → ℕ → Stream → Type 0
IsYoung c low initial n b = (c ≡ true) × (low < n) × (b.send ≤ℤ pos initial)

abbrev pub Likes : Bool → ℕ → ℕ → List Stream → List Stream → Type 0
Likes c low initial ss us = (n : ℕ) (b : Stream) → stream_at us n ≡ Some b → is_open b ≡ true → HasLike c ss n b ⊎ IsYoung c low initial n b

-- ---- streams with nothing left go

open_is_kept : (st : Stream) → is_open st ≡ true → is_kept st ≡ true
open_is_kept st e = ap (λ b. b || not (length st.text == 0)) e

pub likes_tidied_left : (c : Bool) (low i : ℕ) (ss us : List Stream) → Likes c low i ss us → Likes c low i (tidied ss) us
likes_tidied_left c low i ss us likes n b at open_ = by_like (likes n b at open_)
  where
    kept : (a : Stream) → stream_at ss n ≡ Some a → is_open a ≡ true → (st : Stream) → stream_at ss n ≡ Some st → is_kept st ≡ true
    kept a here oa st e = let same : a ≡ st = cc in subst (λ (x : Stream). is_kept x ≡ true) same (open_is_kept a oa)

    by_like : HasLike c ss n b ⊎ IsYoung c low i n b → HasLike c (tidied ss) n b ⊎ IsYoung c low i n b
    by_like (inl (a, here, oa, much)) = inl (a, at_kept ss n (kept a here oa) ∙ here, oa, much)
    by_like (inr young) = inr young

pub likes_tidied_right : (c : Bool) (low i from : ℕ) (ss us : List Stream) → Climbs from us → Likes c low i ss us → Likes c low i ss (tidied us)
likes_tidied_right c low i from ss us climbs likes n b at open_ = likes n b (before (stream_at (tidied us) n) there b at) open_
  where
    Was : Option Stream → Type 0
    Was None = Unit {0}
    Was (Some st) = stream_at us n ≡ Some st

    start : (o : Option Stream) → stream_at us n ≡ o → Was o
    start None e = tt
    start (Some st) e = e

    there : Was (stream_at (tidied us) n)
    there = at_tidied Was from n us (λ st e q. tt) climbs (start (stream_at us n) refl)

    before : (o : Option Stream) → Was o → (x : Stream) → o ≡ Some x → stream_at us n ≡ Some x
    before o w x e = subst Was e w

-- ---- one stream changes

at_changed_as : (ss : List Stream) (n : ℕ) (f : Stream → Stream) → KeepsNumber f → stream_at (change ss n f) n ≡ mapped f (stream_at ss n)
unfolding stream_at change
at_changed_as [] n f keeps = refl
at_changed_as (x ∷ ss) n f keeps = by_test (eqb x.number n) refl (at_changed_as ss n f keeps)
  where
    by_test : (b : Bool) → eqb x.number n ≡ b → stream_at (change ss n f) n ≡ mapped f (stream_at ss n)
        → stream_at (cond b (f x ∷ ss) (x ∷ change ss n f)) n ≡ mapped f (cond b (Some x) (stream_at ss n))
    by_test true t rest = ap (λ b. cond b (Some (f x)) (stream_at ss n)) (ap (λ k. eqb k n) (keeps x) ∙ t)
    by_test false t rest = ap (λ b. cond b (Some x) (stream_at (change ss n f) n)) t ∙ rest

mapped_some : (f : Stream → Stream) (o : Option Stream) (y : Stream) → mapped f o ≡ Some y → (x : Stream) × (o ≡ Some x) × (f x ≡ y)
mapped_some f None y e = absurd cc
mapped_some f (Some x) y e = (x, refl, (cc))

-- a change of two streams, the second of which hears at least as much before and after
pub record Pairs (c : Bool) (f : Stream → Stream) : Type 0 where
  pub was : (b : Stream) → is_open (f b) ≡ true → is_open b ≡ true
  pub much : (a b : Stream) → is_open a ≡ true → HearsAsMuch c a b → is_open (f b) ≡ true → (is_open (f a) ≡ true) × HearsAsMuch c (f a) (f b)

-- the same change of the stream m on both sides, where a young stream's sending window does not rise by it
pub likes_change : (c : Bool) (low i : ℕ) (ss us : List Stream) (m : ℕ) (f : Stream → Stream) → KeepsNumber f → Pairs c f
    → ((b : Stream) → IsYoung c low i m b → IsYoung c low i m (f b)) → Likes c low i ss us → Likes c low i (change ss m f) (change us m f)
likes_change c low i ss us m f number pairs young likes n y at open_ = by_number (m == n) refl
  where
    on_it : (k : ℕ) → stream_at (change us k f) k ≡ Some y → m ≡ k → HasLike c (change ss k f) k y ⊎ IsYoung c low i k y
    on_it k here same =
        let was = mapped_some f (stream_at us k) y (sym (at_changed_as us k f number) ∙ here) in
        let was_open : is_open (f was.0) ≡ true = subst (λ (x : Stream). is_open x ≡ true) (sym was.2) open_ in
        subst (λ (x : Stream). HasLike c (change ss k f) k x ⊎ IsYoung c low i k x) was.2 (from was.0 was_open (likes k was.0 was.1 (pairs.was was.0 was_open)))
      where
        from : (b : Stream) → is_open (f b) ≡ true → HasLike c ss k b ⊎ IsYoung c low i k b → HasLike c (change ss k f) k (f b) ⊎ IsYoung c low i k (f b)
        from b ob (inl (a, there, oa, much)) =
            let both = pairs.much a b oa much ob in
            inl (f a, at_changed_as ss k f number ∙ ap (mapped f) there, both.0, both.1)
        from b ob (inr y') = inr (subst (λ j. IsYoung c low i j b → IsYoung c low i j (f b)) same (young b) y')

    aside : m ≢ n → HasLike c (change ss m f) n y ⊎ IsYoung c low i n y
    aside other = keep (likes n y (sym (at_other us m n f number other) ∙ at) open_)
      where
        keep : HasLike c ss n y ⊎ IsYoung c low i n y → HasLike c (change ss m f) n y ⊎ IsYoung c low i n y
        keep (inl (a, there, oa, much)) = inl (a, at_other ss m n f number other ∙ there, oa, much)
        keep (inr y') = inr y'

    by_number : (b : Bool) → (m == n) ≡ b → HasLike c (change ss m f) n y ⊎ IsYoung c low i n y
    by_number true e =
        let same : m ≡ n = eqb-true m n e in
        subst (λ k. HasLike c (change ss k f) n y ⊎ IsYoung c low i n y) (sym same)
        (on_it n (subst (λ k. stream_at (change us k f) n ≡ Some y) same at) same)
    by_number false e = aside (eqb-false m n e)

-- a change of the first list's stream alone, where the second's is not open
pub likes_left : (c : Bool) (low i : ℕ) (ss us : List Stream) (m : ℕ) (f : Stream → Stream) → KeepsNumber f → passes (λ st. true) (stream_at us m) ≡ false
    → Likes c low i ss us → Likes c low i (change ss m f) us
likes_left c low i ss us m f number shut_ likes n y at open_ = by_number (m == n) refl
  where
    not_open : stream_at us m ≡ Some y → ⊥
    not_open e = let no_pass : (is_open y && true) ≡ false = sym (ap (λ o. passes (λ x. true) o) e) ∙ shut_ in cc

    keep : m ≢ n → HasLike c ss n y ⊎ IsYoung c low i n y → HasLike c (change ss m f) n y ⊎ IsYoung c low i n y
    keep other (inl (a, there, oa, much)) = inl (a, at_other ss m n f number other ∙ there, oa, much)
    keep other (inr y') = inr y'

    by_number : (b : Bool) → (m == n) ≡ b → HasLike c (change ss m f) n y ⊎ IsYoung c low i n y
    by_number true e = absurd (not_open (subst (λ k. stream_at us k ≡ Some y) (sym (eqb-true m n e)) at))
    by_number false e = keep (eqb-false m n e) (likes n y at open_)

-- a change of the second list's stream alone that closes it
pub likes_right : (c : Bool) (low i : ℕ) (ss us : List Stream) (m : ℕ) (f : Stream → Stream) → KeepsNumber f → ((st : Stream) → is_open (f st) ≡ false)
    → Likes c low i ss us → Likes c low i ss (change us m f)
likes_right c low i ss us m f number closes likes n y at open_ = by_number (m == n) refl
  where
    not_open : stream_at (change us n f) n ≡ Some y → ⊥
    not_open e =
        let was = mapped_some f (stream_at us n) y (sym (at_changed_as us n f number) ∙ e) in
        let no_pass : is_open y ≡ false = subst (λ (x : Stream). is_open x ≡ false) was.2 (closes was.0) in
        cc

    by_number : (b : Bool) → (m == n) ≡ b → HasLike c ss n y ⊎ IsYoung c low i n y
    by_number true e = absurd (not_open (subst (λ k. stream_at (change us k f) n ≡ Some y) (eqb-true m n e) at))
    by_number false e = likes n y (sym (at_other us m n f number (eqb-false m n e)) ∙ at) open_

-- and it is closed then
pub closed_right : (from : ℕ) (us : List Stream) (m : ℕ) (f : Stream → Stream) → KeepsNumber f → ((st : Stream) → is_open (f st) ≡ false) → Climbs from (change us m f)
    → passes (λ st. true) (stream_at (tidied (change us m f)) m) ≡ false
closed_right from us m f number closes climbs =
    at_tidied (λ o. passes (λ x. true) o ≡ false) from m (change us m f) (λ st e q. refl) climbs
    (subst (λ o. passes (λ x. true) o ≡ false) (sym (at_changed_as us m f number)) (closed (stream_at us m)))
  where
    closed : (o : Option Stream) → passes (λ x. true) (mapped f o) ≡ false
    closed None = refl
    closed (Some st) = ap (λ b. b && true) (closes st)

-- ---- all streams shift

pub likes_shifted : (c : Bool) (low old new : ℕ) (ss us : List Stream) → Likes c low old ss us → Likes c low new (shifted old new ss) (shifted old new us)
likes_shifted c low old new ss us likes n y at open_ =
    let f : Stream → Stream = shifted_one old new in
    let was = mapped_some f (stream_at us n) y (sym (at_mapped us n f (shifted_number old new)) ∙ at) in
    let was_open : is_open was.0 ≡ true = sym (shifted_open old new was.0) ∙ subst (λ (x : Stream). is_open x ≡ true) (sym was.2) open_ in
    subst (λ (x : Stream). HasLike c (shifted old new ss) n x ⊎ IsYoung c low new n x) was.2 (from was.0 was_open (likes n was.0 was.1 was_open))
  where
    d : ℤ
    d = pos new -ℤ pos old

    much_shifted : (a b : Stream) → is_open a ≡ true → is_open b ≡ true → HearsAsMuch c a b → HearsAsMuch c (shifted_one old new a) (shifted_one old new b)
    much_shifted a b oa ob much =
        let ea : shifted_one old new a ≡ record a { send = a.send +ℤ d } = ap (λ t. if t then record a { send = a.send +ℤ d } else a) oa in
        let eb : shifted_one old new b ≡ record b { send = b.send +ℤ d } = ap (λ t. if t then record b { send = b.send +ℤ d } else b) ob in
        let sum : (b.send +ℤ d) ≤ℤ (a.send +ℤ d) = shift_less a.send b.send d much.send in
        let there : HearsAsMuch c (record a { send = a.send +ℤ d }) (record b { send = b.send +ℤ d }) =
        record { receive = much.receive; send = sum; half = much.half; own = much.own; head = much.head } in
        subst (λ x. HearsAsMuch c x (shifted_one old new b)) (sym ea) (subst (λ x. HearsAsMuch c (record a { send = a.send +ℤ d }) x) (sym eb) there)

    from : (b : Stream) → is_open b ≡ true → HasLike c ss n b ⊎ IsYoung c low old n b
        → HasLike c (shifted old new ss) n (shifted_one old new b) ⊎ IsYoung c low new n (shifted_one old new b)
    from b ob (inl (a, there, oa, much)) =
        inl (shifted_one old new a, at_mapped ss n (shifted_one old new) (shifted_number old new) ∙ ap (mapped (shifted_one old new)) there, shifted_open old new a ∙ oa, much_shifted a b oa ob much)
    from b ob (inr (client, above, sends)) =
        inr (client, above, subst (λ z. z ≤ℤ pos new) (sym (shifted_send old new b ob)) (shift_initial b.send old new sends))

-- ---- a request begins a stream at a server

at_pushed_old : (xs : List Stream) (k : ℕ) (w a : Stream) → stream_at xs k ≡ Some a → stream_at (xs ++ w ∷ []) k ≡ Some a
unfolding stream_at
at_pushed_old [] k w a e = absurd cc
at_pushed_old (x ∷ xs) k w a e = by_test (eqb x.number k) e (at_pushed_old xs k w a)
  where
    by_test : (b : Bool) → cond b (Some x) (stream_at xs k) ≡ Some a → (stream_at xs k ≡ Some a → stream_at (xs ++ w ∷ []) k ≡ Some a)
        → cond b (Some x) (stream_at (xs ++ w ∷ []) k) ≡ Some a
    by_test true h rest = h
    by_test false h rest = rest h

at_pushed_new : (xs : List Stream) (m : ℕ) (w : Stream) → w.number ≡ m → stream_at xs m ≡ None → stream_at (xs ++ w ∷ []) m ≡ Some w
unfolding stream_at
at_pushed_new [] m w number e = ap (λ b. cond b (Some w) None) (eq-eqb w.number m number)
at_pushed_new (x ∷ xs) m w number e = by_test (eqb x.number m) e (at_pushed_new xs m w number)
  where
    by_test : (b : Bool) → cond b (Some x) (stream_at xs m) ≡ None → (stream_at xs m ≡ None → stream_at (xs ++ w ∷ []) m ≡ Some w)
        → cond b (Some x) (stream_at (xs ++ w ∷ []) m) ≡ Some w
    by_test true h rest = absurd cc
    by_test false h rest = rest h

pub likes_push : (low i m : ℕ) (s t : State) (ss us : List Stream) → stream_at ss m ≡ None → t.initial ≡ s.initial
    → Likes false low i ss us → Likes false m i (ss ++ new_stream m s ∷ []) (us ++ new_stream m t ∷ [])
likes_push low i m s t ss us none initial likes n y at open_ = from (stream_at (us ++ new_stream m t ∷ []) n) y there at open_
  where
    Like : Option Stream → Type 0
    Like None = Unit {0}
    Like (Some b) = is_open b ≡ true → HasLike false (ss ++ new_stream m s ∷ []) n b ⊎ IsYoung false m i n b

    still : (o : Option Stream) → stream_at us n ≡ o → Like o
    still None e = tt
    still (Some b) e = λ ob. by_like (likes n b e ob)
      where
        by_like : HasLike false ss n b ⊎ IsYoung false low i n b → HasLike false (ss ++ new_stream m s ∷ []) n b ⊎ IsYoung false m i n b
        by_like (inl (a, here, oa, much)) = inl (a, at_pushed_old ss n (new_stream m s) a here, oa, much)
        by_like (inr (client, above, sends)) = absurd cc

    same : HearsAsMuch false (new_stream m s) (new_stream m t)
    same = record {
      receive = le_same (new_stream m s).receive;
      send = subst (λ k. pos k ≤ℤ pos s.initial) (sym initial) (le_same (pos s.initial));
      half = refl;
      own = λ e. refl;
      head = λ e. refl;
    }

    there : Like (stream_at (us ++ new_stream m t ∷ []) n)
    there =
        at_push Like us n (new_stream m t)
        (λ e ob. inl (new_stream m s, subst (λ k. stream_at (ss ++ new_stream m s ∷ []) k ≡ Some (new_stream m s)) e (at_pushed_new ss m (new_stream m s) refl none), refl, same))
        (still (stream_at us n) refl)

    from : (o : Option Stream) (b : Stream) → Like o → o ≡ Some b → is_open b ≡ true → HasLike false (ss ++ new_stream m s ∷ []) n b ⊎ IsYoung false m i n b
    from o b like e = subst Like e like
