-- Sums over frames one behind the other, and what acknowledges SETTINGS behind them.
use Rattle.std.proofs.Common.{◌≡◌, ◌+◌, ℕ, Bool, true, false, not, ◌&&◌, length, List, [], ◌∷◌, ◌++◌, refl, arith, if◌then◌else◌}
use Rattle.std.specs.Prelude.{◌==◌}
use Rattle.std.specs.List.{AllByRecursion}
use Rattle.kn_frames.specs.declared.frame.Frame.{Frame}
use Rattle.kn_h2_state.specs.Payloads.{has}
use Rattle.kn_h2_state.specs.Wire.{frame, frame_grant, grants_in, data_length, data_lengths_in}
use Rattle.kn_facing.specs.Facing.{asking}
use Rattle.kn_facing.specs.Faces.{all_lengths, acknowledged}

pub grants-append : (n : ℕ) (fs gs : List Frame) → grants_in n (fs ++ gs) ≡ grants_in n fs + grants_in n gs
unfolding grants_in
grants-append n [] gs = omega arith
grants-append n (f ∷ fs) gs = let e : grants_in n (fs ++ gs) ≡ grants_in n fs + grants_in n gs = grants-append n fs gs in omega arith

pub lengths-append : (n : ℕ) (fs gs : List Frame) → data_lengths_in n (fs ++ gs) ≡ data_lengths_in n fs + data_lengths_in n gs
unfolding data_lengths_in
lengths-append n [] gs = omega arith
lengths-append n (f ∷ fs) gs = let e : data_lengths_in n (fs ++ gs) ≡ data_lengths_in n fs + data_lengths_in n gs = lengths-append n fs gs in omega arith

pub all-append : (fs gs : List Frame) → all_lengths (fs ++ gs) ≡ all_lengths fs + all_lengths gs
unfolding all_lengths
all-append [] gs = omega arith
all-append (f ∷ fs) gs = let e : all_lengths (fs ++ gs) ≡ all_lengths fs + all_lengths gs = all-append fs gs in omega arith

pub asking-append : (fs gs : List Frame) → asking (fs ++ gs) ≡ asking fs + asking gs
unfolding asking
asking-append [] gs = omega arith
asking-append (f ∷ fs) gs = let e : asking (fs ++ gs) ≡ asking fs + asking gs = asking-append fs gs in omega arith

pub all_by-append : (P : Frame → Type 0) (fs gs : List Frame) → AllByRecursion P fs → AllByRecursion P gs → AllByRecursion P (fs ++ gs)
all_by-append P [] gs a b = b
all_by-append P (f ∷ fs) gs a b = (a.0, all_by-append P fs gs a.1 b)

-- ---- what acknowledges counts for nothing

pub record Nothing (n : ℕ) (gs : List Frame) : Type 0 where
  pub grants : grants_in n gs ≡ 0
  pub lengths : data_lengths_in n gs ≡ 0
  pub all : all_lengths gs ≡ 0
  pub asks : asking gs ≡ 0

pub acks_nothing : (n : ℕ) (f : Frame) → Nothing n (acknowledged f)
unfolding grants_in data_lengths_in all_lengths asking frame_grant data_length
acks_nothing n f = by_test ((f.kind == 4) && not (has f 1))
  where
    by_test : (b : Bool) → Nothing n (if b then frame 4 1 0 [] ∷ [] else [])
    by_test true = record { grants = refl; lengths = refl; all = refl; asks = refl }
    by_test false = record { grants = refl; lengths = refl; all = refl; asks = refl }

-- one frame before others
pub grants-first : (n : ℕ) (f : Frame) (fs : List Frame) → grants_in n (f ∷ fs) ≡ frame_grant n f + grants_in n fs
unfolding grants_in
grants-first n f fs = refl

pub lengths-first : (n : ℕ) (f : Frame) (fs : List Frame) → data_lengths_in n (f ∷ fs) ≡ data_length n f + data_lengths_in n fs
unfolding data_lengths_in
lengths-first n f fs = refl

pub all-first : (f : Frame) (fs : List Frame) → all_lengths (f ∷ fs) ≡ (if f.kind == 0 then length f.payload else 0) + all_lengths fs
unfolding all_lengths
all-first f fs = refl
