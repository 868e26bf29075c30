-- What a header block does, by the cases in which the code finds it.
use Rattle.std.proofs.Common.{◌≡◌, ℕ, Bool, true, false, ◌&&◌, cond, List, Option, Some, None, refl, ap}
use Rattle.kn_hpack.specs.Fields.{Field}
use Rattle.kn_h2_state.specs.declared.stream.Stream.{Stream}
use Rattle.kn_h2_state.specs.declared.state.State.{State}
use Rattle.kn_h2_state.specs.Streams.{is_open, passes}
use Rattle.kn_h2_state.specs.Effects.{if_open, response}
use Rattle.kn_h2.specs.Blocks.{answered_of, responded}

pub open_is : (o : Option Stream) (s t : State) → passes (λ st. true) o ≡ true → if_open o s (λ st. t) ≡ t
open_is None s t e = absurd (cc)
open_is (Some st) s t e = by_open (is_open st) e
  where
    by_open : (b : Bool) → (b && true) ≡ true → cond b t s ≡ t
    by_open true h = refl
    by_open false h = absurd (cc)

pub closed_is : (o : Option Stream) (s t : State) → passes (λ st. true) o ≡ false → if_open o s (λ st. t) ≡ s
closed_is None s t e = refl
closed_is (Some st) s t e = by_open (is_open st) e
  where
    by_open : (b : Bool) → (b && true) ≡ false → cond b t s ≡ s
    by_open true h = absurd (cc)
    by_open false h = refl

pub response_open : (n : ℕ) (ends : Bool) (fields : List Field) (s : State) (o : Option Stream) (answered : Bool) → answered_of o ≡ Some answered
    → if_open o s (λ st. response n ends fields st s) ≡ responded answered n ends fields s
unfolding response
response_open n ends fields s None answered e = absurd (cc)
response_open n ends fields s (Some st) answered e = by_open (is_open st) e
  where
    by_open : (b : Bool) → cond b (Some st.answered) None ≡ Some answered → cond b (response n ends fields st s) s ≡ responded answered n ends fields s
    by_open true h = let same : st.answered ≡ answered = cc in ap (λ (a : Bool). responded a n ends fields s) same
    by_open false h = absurd (cc)

pub response_none : (n : ℕ) (ends : Bool) (fields : List Field) (s : State) (o : Option Stream) → answered_of o ≡ None
    → if_open o s (λ st. response n ends fields st s) ≡ s
response_none n ends fields s None e = refl
response_none n ends fields s (Some st) e = by_open (is_open st) e
  where
    by_open : (b : Bool) → cond b (Some st.answered) None ≡ None → cond b (response n ends fields st s) s ≡ s
    by_open true h = absurd (cc)
    by_open false h = refl
