-- Where a stream is found after one of them changed, and after those with nothing left went.
use Rattle.std.proofs.Common.{◌≡◌, ℕ, ◌≤◌, Bool, true, false, not, ◌&&◌, ◌||◌, cond, eqb, List, [], ◌∷◌, length, Option, Some, None, is_none, refl, sym, ap, ◌∙◌, subst, arith}
use Rattle.std.specs.List.{AllByRecursion}
use Rattle.std.proofs.lemmas.Bool.{eqb-true, ne_eqb, or_parts, and_parts}
use Rattle.kn_h2_state.specs.declared.stream.Stream.{Stream}
use Rattle.kn_h2_state.specs.Streams.{stream_at, change, is_open, is_kept, tidied}
use Rattle.kn_h2_state.specs.Calls.{queue_in}
use Rattle.kn_h2_state.specs.Holding.{Rising, is_at_rest}

-- the stream that changed
pub at_changed : (ss : List Stream) (n : ℕ) (f : Stream → Stream) (st : Stream) → ((x : Stream) → (f x).number ≡ x.number) → stream_at ss n ≡ Some st → stream_at (change ss n f) n ≡ Some (f st)
unfolding stream_at change
at_changed [] n f st same e = absurd cc
at_changed (x ∷ ss) n f st same e = by_test (eqb x.number n) refl (at_changed ss n f st same) e
  where
    by_test : (b : Bool) → eqb x.number n ≡ b → (stream_at ss n ≡ Some st → stream_at (change ss n f) n ≡ Some (f st)) → cond b (Some x) (stream_at ss n) ≡ Some st
        → stream_at (cond b (f x ∷ ss) (x ∷ change ss n f)) n ≡ Some (f st)
    by_test true t rest h = let here : x ≡ st = cc in let tf : eqb (f x).number n ≡ true = ap (λ (j : ℕ). eqb j n) (same x) ∙ t in ap (λ (c : Bool). cond c (Some (f x)) (stream_at ss n)) tf ∙ ap (λ (y : Stream). Some (f y)) here
    by_test false t rest h = rw t (rest h)

-- another
pub at_other : (ss : List Stream) (k n : ℕ) (f : Stream → Stream) → ((x : Stream) → (f x).number ≡ x.number) → (k ≡ n → ⊥) → stream_at (change ss k f) n ≡ stream_at ss n
unfolding stream_at change
at_other [] k n f same apart = refl
at_other (x ∷ ss) k n f same apart = by_test (eqb x.number k) refl (at_other ss k n f same apart)
  where
    by_test : (b : Bool) → eqb x.number k ≡ b → stream_at (change ss k f) n ≡ stream_at ss n → stream_at (cond b (f x ∷ ss) (x ∷ change ss k f)) n ≡ cond (eqb x.number n) (Some x) (stream_at ss n)
    by_test true t rest =
        let is_k : x.number ≡ k = eqb-true _ _ t in
        let not_n : eqb x.number n ≡ false = ne_eqb _ _ (λ e. apart (sym is_k ∙ e)) in
        rw (same x, not_n) refl
    by_test false t rest = ap (λ (o : Option Stream). cond (eqb x.number n) (Some x) o) rest

-- what is found in no stream is found in none after they went
pub none_tidied : (ss : List Stream) (n : ℕ) → stream_at ss n ≡ None → stream_at (tidied ss) n ≡ None
unfolding stream_at
none_tidied [] n e = refl
none_tidied (x ∷ ss) n e = by_test (is_kept x) (eqb x.number n) refl (none_tidied ss n) e
  where
    by_test : (b c : Bool) → eqb x.number n ≡ c → (stream_at ss n ≡ None → stream_at (tidied ss) n ≡ None) → cond c (Some x) (stream_at ss n) ≡ None → stream_at (cond b (x ∷ tidied ss) (tidied ss)) n ≡ None
    by_test b true t rest h = absurd cc
    by_test true false t rest h = rw t (rest h)
    by_test false false t rest h = rest h

-- a stream that is kept is still found
pub kept_at : (ss : List Stream) (n : ℕ) (st : Stream) → stream_at ss n ≡ Some st → is_kept st ≡ true → stream_at (tidied ss) n ≡ Some st
unfolding stream_at
kept_at [] n st e k = absurd cc
kept_at (x ∷ ss) n st e k = by_test (is_kept x) (eqb x.number n) refl refl (λ h. kept_at ss n st h k) e
  where
    by_test : (b c : Bool) → is_kept x ≡ b → eqb x.number n ≡ c → (stream_at ss n ≡ Some st → stream_at (tidied ss) n ≡ Some st) → cond c (Some x) (stream_at ss n) ≡ Some st → stream_at (cond b (x ∷ tidied ss) (tidied ss)) n ≡ Some st
    by_test true true g t rest h = rw t h
    by_test false true g t rest h = let same : x ≡ st = cc in let is : is_kept st ≡ false = subst (λ (y : Stream). is_kept y ≡ false) same g in absurd cc
    by_test true false g t rest h = rw t (rest h)
    by_test false false g t rest h = rest h

-- none of these has a number that is not above
pub none_below : (ss : List Stream) (low high n : ℕ) → Rising low high ss → n ≤ low → stream_at ss n ≡ None
unfolding stream_at Rising
none_below [] low high n r le = refl
none_below (x ∷ ss) low high n r le =
    let above : n ≤ x.number = omega (arith, r.0) in
    let not_n : eqb x.number n ≡ false = ne_eqb _ _ (λ e. omega (arith, r.0, e)) in
    rw not_n (none_below ss x.number high n r.2 above)

-- a stream that is not kept is found no more
pub gone_at : (ss : List Stream) (low high n : ℕ) (st : Stream) → Rising low high ss → stream_at ss n ≡ Some st → is_kept st ≡ false → stream_at (tidied ss) n ≡ None
unfolding stream_at Rising
gone_at [] low high n st r e k = absurd cc
gone_at (x ∷ ss) low high n st r e k = by_test (is_kept x) (eqb x.number n) refl refl (λ h. gone_at ss x.number high n st r.2 h k) e
  where
    by_test : (b c : Bool) → is_kept x ≡ b → eqb x.number n ≡ c → (stream_at ss n ≡ Some st → stream_at (tidied ss) n ≡ None) → cond c (Some x) (stream_at ss n) ≡ Some st → stream_at (cond b (x ∷ tidied ss) (tidied ss)) n ≡ None
    by_test true true g t rest h = let same : x ≡ st = cc in let is : is_kept st ≡ true = subst (λ (y : Stream). is_kept y ≡ true) same g in absurd cc
    by_test false true g t rest h = let is_n : x.number ≡ n = eqb-true _ _ t in none_tidied ss n (none_below ss x.number high n r.2 (omega arith))
    by_test true false g t rest h = rw t (rest h)
    by_test false false g t rest h = rest h

-- a change that leaves the queues leaves the queue of each number
pub queue_changed : (ss : List Stream) (k n : ℕ) (f : Stream → Stream) → ((x : Stream) → (f x).number ≡ x.number) → ((x : Stream) → (f x).queue ≡ x.queue) → queue_in (stream_at (change ss k f) n) ≡ queue_in (stream_at ss n)
unfolding stream_at change
queue_changed [] k n f same queue = refl
queue_changed (x ∷ ss) k n f same queue = by_test (eqb x.number k) (eqb x.number n) refl (queue_changed ss k n f same queue)
  where
    by_test : (b c : Bool) → eqb x.number n ≡ c → queue_in (stream_at (change ss k f) n) ≡ queue_in (stream_at ss n) → queue_in (stream_at (cond b (f x ∷ ss) (x ∷ change ss k f)) n) ≡ queue_in (cond c (Some x) (stream_at ss n))
    by_test true true t rest = rw (same x, t) (queue x)
    by_test false true t rest = rw t refl
    by_test true false t rest = rw (same x, t) refl
    by_test false false t rest = rw t rest

no_bytes : (xs : List ℕ) → length xs ≡ 0 → xs ≡ []
no_bytes [] e = refl
no_bytes (x ∷ xs) e = absurd (omega arith)

-- what is not kept has nothing queued
unkept_queue : (st : Stream) → is_at_rest st ≡ true → is_kept st ≡ false → st.queue ≡ []
unkept_queue st rest gone = by_own st.own_open refl rest
  where
    by_own : (b : Bool) → st.own_open ≡ b → (b || (eqb (length st.queue) 0 && is_none st.finish)) ≡ true → st.queue ≡ []
    by_own true e r = let closed : st.own_open ≡ false = (or_parts st.peer_open st.own_open (or_parts (is_open st) (not (eqb (length st.text) 0)) gone).0).1 in absurd cc
    by_own false e r = no_bytes st.queue (eqb-true _ _ (and_parts (eqb (length st.queue) 0) (is_none st.finish) r).0)

pub queue_tidied : (ss : List Stream) (low high n : ℕ) → Rising low high ss → AllByRecursion (λ st. is_at_rest st ≡ true) ss → queue_in (stream_at (tidied ss) n) ≡ queue_in (stream_at ss n)
unfolding stream_at Rising
queue_tidied [] low high n r rest = refl
queue_tidied (x ∷ ss) low high n r rest = by_test (is_kept x) (eqb x.number n) refl refl (queue_tidied ss x.number high n r.2 rest.1)
  where
    by_test : (b c : Bool) → is_kept x ≡ b → eqb x.number n ≡ c → queue_in (stream_at (tidied ss) n) ≡ queue_in (stream_at ss n) → queue_in (stream_at (cond b (x ∷ tidied ss) (tidied ss)) n) ≡ queue_in (cond c (Some x) (stream_at ss n))
    by_test true true g t later = rw t refl
    by_test false true g t later =
        let is_n : x.number ≡ n = eqb-true _ _ t in
        let none = none_tidied ss n (none_below ss x.number high n r.2 (omega arith)) in
        ap queue_in none ∙ sym (unkept_queue x rest.0 g)
    by_test true false g t later = rw t later
    by_test false false g t later = later
