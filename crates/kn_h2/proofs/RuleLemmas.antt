-- A frame that breaks no rule fails no test.
use Rattle.std.proofs.Common.{◌≡◌, ℕ, Bool, true, false, cond, List, [], ◌∷◌, ◌++◌, Some, None, refl}
use Rattle.kn_frames.specs.declared.frame.Frame.{Frame}
use Rattle.kn_h2_state.specs.declared.state.State.{State}
use Rattle.kn_h2.specs.Passing.{Passes}
use Rattle.kn_h2_state.specs.Rules.{first_broken, frame_rules, window_rules, stream_rules, block_rules, rules, verdict}

first_false : (rule : Bool × ℕ) (rules : List (Bool × ℕ)) → first_broken (rule ∷ rules) ≡ None → (rule.0 ≡ false) × (first_broken rules ≡ None)
unfolding first_broken
first_false rule rules h = by_test rule.0 h
  where
    by_test : (b : Bool) → cond b (Some rule.1) (first_broken rules) ≡ None → (b ≡ false) × (first_broken rules ≡ None)
    by_test true e = absurd cc
    by_test false e = (refl, e)

none_of_both : (xs ys : List (Bool × ℕ)) → first_broken (xs ++ ys) ≡ None → (first_broken xs ≡ None) × (first_broken ys ≡ None)
unfolding first_broken
none_of_both [] ys h = (refl, h)
none_of_both (x ∷ xs) ys h = by_test x.0 h (none_of_both xs ys)
  where
    by_test : (b : Bool) → cond b (Some x.1) (first_broken (xs ++ ys)) ≡ None → (first_broken (xs ++ ys) ≡ None → (first_broken xs ≡ None) × (first_broken ys ≡ None))
        → (cond b (Some x.1) (first_broken xs) ≡ None) × (first_broken ys ≡ None)
    by_test true e rest = absurd cc
    by_test false e rest = rest e

pub passes_rules : (s : State) (f : Frame) → verdict s f ≡ None → Passes s f
unfolding verdict frame_rules window_rules stream_rules block_rules
passes_rules s f h =
    let a = none_of_both (frame_rules s f) _ h in
    let b = none_of_both (window_rules s f) _ a.1 in
    let c = none_of_both (stream_rules s f) _ b.1 in
    let f0 = first_false _ _ a.0 in
    let f1 = first_false _ _ f0.1 in
    let f2 = first_false _ _ f1.1 in
    let f3 = first_false _ _ f2.1 in
    let f4 = first_false _ _ f3.1 in
    let f5 = first_false _ _ f4.1 in
    let f6 = first_false _ _ f5.1 in
    let w0 = first_false _ _ b.0 in
    let w1 = first_false _ _ w0.1 in
    let w2 = first_false _ _ w1.1 in
    let w3 = first_false _ _ w2.1 in
    let w4 = first_false _ _ w3.1 in
    let s0 = first_false _ _ c.0 in
    let s1 = first_false _ _ s0.1 in
    let s2 = first_false _ _ s1.1 in
    let s3 = first_false _ _ s2.1 in
    let b0 = first_false _ _ c.1 in
    record {
      block = f1.0;
      stream = f2.0;
      long = f4.0;
      fields = f5.0;
      padding = f6.0;
      settings = w1.0;
      grant = w3.0;
      grant_one = w4.0;
      idle = s0.0;
      head = s1.0;
      window = s2.0;
      half = s3.0;
      bounded = b0.0;
    }

-- but for the first test, none asks whether the first frame came
pub passes_began : (s : State) (f : Frame) → Passes s f → Passes (record s { began = true }) f
passes_began s f p = record { block = p.block; stream = p.stream; long = p.long; fields = p.fields; padding = p.padding; settings = p.settings; grant = p.grant; grant_one = p.grant_one; idle = p.idle; head = p.head; window = p.window; half = p.half; bounded = p.bounded }
