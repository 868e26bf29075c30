-- A half that its end has not ended, through frames and steps, and that no frame of that end ends it.
use Rattle.std.proofs.Common.{◌≡◌, ◌⊎◌, inl, inr, ◌<◌, ◌+◌, ◌&&◌, ◌||◌, ℕ, Bool, true, false, not, eqb, List, [], ◌∷◌, ◌++◌, Option, Some, None, IfSome, refl, sym, ap, ◌∙◌, subst, arith, if◌then◌else◌}
use Rattle.std.specs.Prelude.{◌==◌, nat_le}
use Rattle.std.proofs.lemmas.Bool.{eqb-true}
use Rattle.kn_frames.specs.declared.frame.Frame.{Frame}
use Rattle.kn_h2_state.specs.declared.moves.Move.{Move}
use Rattle.kn_h2_state.specs.declared.moves.Move.TheVariants.{GrantAll, Grant, Send, End, Stop}
use Rattle.kn_h2_state.specs.declared.stream.Stream.{Stream}
use Rattle.kn_h2_state.specs.declared.state.State.{State}
use Rattle.kn_h2_state.specs.Payloads.{has}
use Rattle.kn_h2_state.specs.Streams.{stream_at, change}
use Rattle.kn_h2_state.specs.Rules.{is_client}
use Rattle.kn_h2_state.specs.Feeding.{after_frame}
use Rattle.kn_h2_state.specs.Holding.{Holds}
use Rattle.kn_h2_state.specs.Moves.{may, can_end, can_stop, made, after_move, own_ended}
use Rattle.kn_h2_state.specs.Opening.{FramesOpenAbove}
use Rattle.kn_h2_state.specs.Preorder.{HearsMore, IsOpenIn, IsNewTo, OwnFacts}
use Rattle.kn_h2_state.specs.Wire.{frame, is_end, ends_in}
use Rattle.kn_h2_state.proofs.BorneLemmas.{rises, climbing, rises_change, at_tidied}
use Rattle.kn_h2_state.proofs.SeenLemmas.{at_changed}
use Rattle.kn_h2.specs.Written.{ended_by, once}
use Rattle.kn_h2.proofs.FoundLemmas.{IsFound, found_open}
use Rattle.kn_h2.proofs.MoveLemmas.{move_parts}
use Rattle.kn_facing.specs.Faces.{HasNotEnded, acknowledged}
use Rattle.kn_facing.proofs.FollowedLemmas.{is_known}
use Rattle.kn_facing.proofs.ReadLemmas.{There, older}

-- ---- what has not ended afterwards had not ended before

-- by a step of the end's own
pub unended_step : (s t : State) (n : ℕ) → HearsMore s t → HasNotEnded t n → HasNotEnded s n
unended_step s t n h (inr above) = let low = h.opened in inr (omega (arith, low, above))
unended_step s t n h (inl (st, at, own)) = by_case (h.streams n st at (either_open st.peer_open own))
  where
    either_open : (b : Bool) → st.own_open ≡ true → (b || st.own_open) ≡ true
    either_open true e = refl
    either_open false e = e

    by_case : IsOpenIn s n st ⊎ IsNewTo s t n st → HasNotEnded s n
    by_case (inl (a, was, up, much)) = inl (a, was, much.own own)
    by_case (inr (client, above, low)) = inr above

-- by a frame that is read
pub unended_frame : FramesOpenAbove → (s : State) (f : Frame) (n : ℕ) → Holds s → HasNotEnded (after_frame s f) n → HasNotEnded s n
unended_frame above s f n holds (inr up) = let low = (above s f holds).opened in inr (omega (arith, low, up))
unended_frame above s f n holds (inl (st, at, own)) = by_case (older s f n st holds at)
  where
    by_case : There s n st ⊎ (s.opened < n) → HasNotEnded s n
    by_case (inl (a, was, less)) = inl (a, was, less own)
    by_case (inr up) = inr up

-- ---- frames one behind the other

pub ends-append : (n : ℕ) (fs gs : List Frame) → ends_in n (fs ++ gs) ≡ ends_in n fs + ends_in n gs
unfolding ends_in
ends-append n [] gs = omega arith
ends-append n (f ∷ fs) gs = let e : ends_in n (fs ++ gs) ≡ ends_in n fs + ends_in n gs = ends-append n fs gs in omega arith

pub no_end : (n : ℕ) (fs gs : List Frame) → ends_in n fs ≡ 0 → ends_in n gs ≡ 0 → ends_in n (fs ++ gs) ≡ 0
no_end n fs gs a b = let e = ends-append n fs gs in omega (arith, e, a, b)

pub front_end : (n : ℕ) (fs gs : List Frame) → ends_in n (fs ++ gs) ≡ 0 → ends_in n fs ≡ 0
front_end n fs gs none = let e = ends-append n fs gs in omega (arith, e, none)

pub rest_end : (n : ℕ) (f : Frame) (fs : List Frame) → ends_in n (f ∷ fs) ≡ 0 → ends_in n fs ≡ 0
unfolding ends_in
rest_end n f fs none = omega (arith, none)

-- one frame with neither END_STREAM nor a reset
pub one_goes_on : (n : ℕ) (f : Frame) → ((nat_le f.kind 1 && has f 1) || (f.kind == 3)) ≡ false → ends_in n (f ∷ []) ≡ 0
unfolding ends_in is_end
one_goes_on n f e = ap (λ (b : Bool). (if b then 1 else 0) + 0) (ap (λ (b : Bool). (f.stream == n) && b) e ∙ none_and (f.stream == n))
  where
    none_and : (b : Bool) → (b && false) ≡ false
    none_and true = refl
    none_and false = refl

pub acks_end_nothing : (n : ℕ) (f : Frame) → ends_in n (acknowledged f) ≡ 0
unfolding ends_in
acks_end_nothing n f = by_test ((f.kind == 4) && not (has f 1))
  where
    by_test : (b : Bool) → ends_in n (if b then frame 4 1 0 [] ∷ [] else []) ≡ 0
    by_test true = one_goes_on n (frame 4 1 0 []) refl
    by_test false = refl

-- ---- moves

-- the end's own half is over
abbrev IsOver : Option Stream → Type 0
IsOver o = IfSome o (λ x. x.own_open ≡ false)

over_at : (s : State) (n : ℕ) (st : Stream) → Holds s → stream_at s.streams n ≡ Some st → IsOver (stream_at (after_move s (End n)).streams n)
unfolding after_move
over_at s n st holds at =
    subst (λ (o : Option Stream). IsOver (stream_at (made s (End n) o).streams n)) (sym at)
    (at_tidied IsOver 0 n (change s.streams n ended) (λ x k h. tt) (climbing 0 s.opened (change s.streams n ended) (rises_change 0 s.opened s.streams n ended (λ x. refl) (rises 0 s.opened s.streams holds.rising)))
    (subst IsOver (sym (at_changed s.streams n ended st (λ x. refl) at)) refl))
  where
    ended : Stream → Stream
    ended = own_ended (not (is_client s.role))

no_once : (k n : ℕ) → (k ≡ n → ⊥) → once (k == n) ≡ 0
no_once k n other = by_test (eqb k n) refl
  where
    by_test : (b : Bool) → eqb k n ≡ b → once b ≡ 0
    by_test false e = refl
    by_test true e = absurd (other (eqb-true k n e))

-- a half that has not ended after a move is not ended by it
pub unended_move : (s : State) (m : Move) (n : ℕ) → Holds s → OwnFacts s → may s m ≡ true → HearsMore s (after_move s m) → HasNotEnded (after_move s m) n → ended_by n m ≡ 0
unended_move s GrantAll n holds facts ok hears g = refl
unended_move s (Grant k) n holds facts ok hears g = refl
unended_move s (Send k count) n holds facts ok hears g = refl
unended_move s (End k) n holds facts ok hears g = no_once k n (λ e. contrary (subst (λ (j : ℕ). HasNotEnded (after_move s (End k)) j) (sym e) g))
  where
    here : (st : Stream) × IsFound s.streams k can_end st
    here = found_open s.streams k can_end (move_parts s (End k) ok).due

    both : (x : Stream) → x.own_open ≡ false → x.own_open ≡ true → ⊥
    both x a b = cc

    contrary : HasNotEnded (after_move s (End k)) k → ⊥
    contrary (inl (x, at, own)) = both x (subst IsOver at (over_at s k here.0 holds here.1.found)) own
    contrary (inr above) = let low = hears.opened in is_known s.opened k s.streams here.0 holds.rising here.1.found (omega (arith, low, above))
unended_move s (Stop k) n holds facts ok hears g = no_once k n (λ e. contrary (unended_step s (after_move s (Stop k)) k hears (subst (λ (j : ℕ). HasNotEnded (after_move s (Stop k)) j) (sym e) g)))
  where
    here : (st : Stream) × IsFound s.streams k can_stop st
    here = found_open s.streams k can_stop (move_parts s (Stop k) ok).due

    own_of : Option Stream → Bool
    own_of None = false
    own_of (Some x) = x.own_open

    both : false ≡ true → ⊥
    both e = cc

    contrary : HasNotEnded s k → ⊥
    contrary (inl (x, at, own)) = both (sym (facts.ended k here.0 here.1.found here.1.passed) ∙ (ap own_of (sym here.1.found ∙ at) ∙ own))
    contrary (inr above) = is_known s.opened k s.streams here.0 holds.rising here.1.found above
