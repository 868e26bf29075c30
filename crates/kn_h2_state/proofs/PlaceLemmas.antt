-- The stream of a number, and its place in the list.
use Rattle.std.proofs.Common.{◌≡◌, ℕ, ◌+◌, ◌<◌, ◌≤◌, true, false, List, [], ◌∷◌, ◌++◌, length, take, drop, set, get_or, refl, sym, ◌∙◌, append_assoc, arith, Some, None}
use Rattle.std.specs.Bool.{◌==◌}
use Rattle.std.specs.List.{slice_get}
use Rattle.std.proofs.lemmas.Bool.{eq-eqb, ne_eqb}
use Rattle.std.proofs.lemmas.List.{take_more, drop_more, take-set, drop-set, take-append-drop, drop_all}
use Rattle.std.proofs.lemmas.Option.{slice_get-get_or, slice_get_past}
use Rattle.kn_h2_state.specs.declared.stream.Stream.{Stream}
use Rattle.kn_h2_state.specs.Streams.{stream_at, with_stream}

pub stream_at-here : (s : Stream) (ss : List Stream) (n : ℕ) → (s.number == n) ≡ true → stream_at (s ∷ ss) n ≡ Some s
unfolding stream_at
stream_at-here s ss n e = rw e refl

pub stream_at-skip : (s : Stream) (ss : List Stream) (n : ℕ) → (s.number == n) ≡ false → stream_at (s ∷ ss) n ≡ stream_at ss n
unfolding stream_at
stream_at-skip s ss n e = rw e refl

pub with_stream-here : (s : Stream) (ss : List Stream) (n : ℕ) (w : Stream) → (s.number == n) ≡ true → with_stream (s ∷ ss) n w ≡ w ∷ ss
unfolding with_stream
with_stream-here s ss n w e = rw e refl

pub with_stream-skip : (s : Stream) (ss : List Stream) (n : ℕ) (w : Stream) → (s.number == n) ≡ false → with_stream (s ∷ ss) n w ≡ s ∷ with_stream ss n w
unfolding with_stream
with_stream-skip s ss n w e = rw e refl

pub stream_at-none : (n : ℕ) → stream_at [] n ≡ None
unfolding stream_at
stream_at-none n = refl

-- a search that has come to this place
pub record Searched (ss : List Stream) (n place : ℕ) : Type 0 where
  pub within : place ≤ length ss
  pub found : stream_at (drop place ss) n ≡ stream_at ss n
  pub writes : (w : Stream) → take place ss ++ with_stream (drop place ss) n w ≡ with_stream ss n w

pub searched_start : (ss : List Stream) (n : ℕ) → Searched ss n 0
searched_start ss n = record { within = omega arith; found = refl; writes = λ w. refl }

pub searched_more : (ss : List Stream) (n place : ℕ) (d : Stream) → Searched ss n place → place < length ss → ((get_or ss place d).number ≡ n → ⊥) → Searched ss n (place + 1)
searched_more ss n place d s l h =
    let other : ((get_or ss place d).number == n) ≡ false = ne_eqb (get_or ss place d).number n h in
    let cut : drop place ss ≡ get_or ss place d ∷ drop (place + 1) ss = drop_more ss place d l in
    record {
      within = omega arith;
      found = sym (stream_at-skip (get_or ss place d) (drop (place + 1) ss) n other) ∙ (rw (← cut) s.found);
      writes = λ w. rw (take_more ss place d l, append_assoc, ← with_stream-skip (get_or ss place d) (drop (place + 1) ss) n w other, ← cut) (s.writes w);
    }

pub searched_found : (ss : List Stream) (n place : ℕ) (d : Stream) → Searched ss n place → place < length ss → (get_or ss place d).number ≡ n → slice_get ss place ≡ stream_at ss n
searched_found ss n place d s l h =
    let same : ((get_or ss place d).number == n) ≡ true = eq-eqb (get_or ss place d).number n h in
    let cut : drop place ss ≡ get_or ss place d ∷ drop (place + 1) ss = drop_more ss place d l in
    rw (slice_get-get_or ss place d l, ← s.found, cut, stream_at-here (get_or ss place d) (drop (place + 1) ss) n same) refl

pub searched_writes : (ss : List Stream) (n place : ℕ) (d w : Stream) → Searched ss n place → place < length ss → (get_or ss place d).number ≡ n → set ss place w ≡ with_stream ss n w
searched_writes ss n place d w s l h =
    let same : ((get_or ss place d).number == n) ≡ true = eq-eqb (get_or ss place d).number n h in
    let cut : drop place ss ≡ get_or ss place d ∷ drop (place + 1) ss = drop_more ss place d l in
    sym (take-append-drop place (set ss place w))
    ∙ (rw (take-set ss place w, drop-set ss place w l, ← s.writes w, cut, with_stream-here (get_or ss place d) (drop (place + 1) ss) n w same) refl)

pub searched_none : (ss : List Stream) (n place : ℕ) → Searched ss n place → length ss ≤ place → slice_get ss place ≡ stream_at ss n
searched_none ss n place s l = rw (slice_get_past ss place l, ← s.found, drop_all place ss l, stream_at-none n) refl
