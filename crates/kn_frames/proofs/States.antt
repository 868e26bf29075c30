-- What soundness says of a state, stage by stage.
use Rattle.std.proofs.Common.{◌≡◌, ℕ, ◌<◌, ◌≤◌, true, List, [], ◌++◌, length, arith, ap, ◌∙◌, Result, Ok, Err}
use Rattle.std.proofs.lemmas.List.{append-nil, nil_from_length}
use Rattle.std.proofs.lemmas.Bool.Decides.{nat_tests}
use Rattle.kn_frames.specs.declared.state.State.{State}
use Rattle.kn_frames.specs.declared.fault.Phase.{Phase}
use Rattle.kn_frames.specs.declared.fault.Phase.TheVariants.{InPreface, InFrames, Failed}
use Rattle.kn_frames.specs.Frames.{length_of}
use Rattle.kn_frames.specs.declared.fault.CutError.{CutError}
use Rattle.kn_frames.specs.declared.fault.CutError.TheVariants.{NoMemory, Fault}
use Rattle.kn_frames.specs.Readers.{in_frames, Told}
use Rattle.kn_frames.specs.Cutters.{seen, is_sound, is_sound_in}

-- a state that holds less than a head
pub record IsAtHead (s : State) : Type 0 where
  pub seen : seen s ≡ in_frames s.front s.offset
  pub body : s.body ≡ []
  pub small : length_of s.front ≤ 16384

-- a state that holds a head and less than its payload
pub record IsAtBody (s : State) : Type 0 where
  pub seen : seen s ≡ in_frames (s.front ++ s.body) s.offset
  pub front : length s.front ≡ 9
  pub body : length s.body < length_of s.front
  pub small : length_of s.front ≤ 16384

at_head_in : (p : Phase) (front body : List ℕ) → p ≡ InFrames → is_sound_in p front body ≡ true → length front < 9 → (body ≡ []) × (length_of front ≤ 16384)
at_head_in InPreface front body e s h = absurd (cc)
at_head_in InFrames front body e s h =
    let l : length body ≡ 0 = grind (arith, nat_tests) in
    (nil_from_length body l, grind (arith, nat_tests))
at_head_in (Failed f) front body e s h = absurd (cc)

pub at_head : (s : State) → s.phase ≡ InFrames → is_sound s ≡ true → length s.front < 9 → IsAtHead s
at_head s e h l =
    let p = at_head_in s.phase s.front s.body e h l in
    let n : s.front ++ s.body ≡ s.front = ap (λ b. s.front ++ b) p.0 ∙ append-nil s.front in
    record { seen = rw (e, n); body = p.0; small = p.1 }

at_body_in : (p : Phase) (front body : List ℕ) → p ≡ InFrames → is_sound_in p front body ≡ true → 9 ≤ length front →
    (length front ≡ 9) × (length body < length_of front) × (length_of front ≤ 16384)
at_body_in InPreface front body e s h = absurd (cc)
at_body_in InFrames front body e s h = (grind (arith, nat_tests), grind (arith, nat_tests), grind (arith, nat_tests))
at_body_in (Failed f) front body e s h = absurd (cc)

pub at_body : (s : State) → s.phase ≡ InFrames → is_sound s ≡ true → 9 ≤ length s.front → IsAtBody s
at_body s e h l =
    let p = at_body_in s.phase s.front s.body e h l in
    record { seen = rw e; front = p.0; body = p.1; small = p.2 }

pub told_weaker : {T P Q : Type 0} (r : Result T CutError) → (P → Q) → Told r P → Told r Q
told_weaker (Ok x) f h = f h
told_weaker (Err NoMemory) f h = h
told_weaker (Err (Fault e)) f h = f h
