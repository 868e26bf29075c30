-- Groups of rules, one after the other.
use Rattle.std.proofs.Common.{◌≡◌, ℕ, Bool, true, false, not, ◌&&◌, ◌||◌, List, [], ◌∷◌, ◌++◌, length, Option, Some, None, Ok, Err, refl, ap, ◌∙◌}
use Rattle.std.specs.Prelude.{◌==◌, nat_lt, if◌then◌else◌}
use Rattle.kn_frames.specs.declared.frame.Frame.{Frame}
use Rattle.kn_hpack.specs.Blocks.{Progress, read_block}
use Rattle.kn_hpack.specs.declared.fault.HpackFault.{HpackFault}
use Rattle.kn_h2_state.specs.declared.state.State.{State}
use Rattle.kn_h2_state.specs.Limits.{block_limit}
use Rattle.kn_h2_state.specs.Rules.{first_broken, frame_rules, window_rules, stream_rules, block_rules, verdict, has_wrong_length, is_of_block, ends_block, block_with, is_second_head, is_too_large}
use Rattle.kn_h2_state.specs.Verdicts.{or_broken, early_verdict, fault_code}

step : (b : Bool) (n : ℕ) (x y z : Option ℕ) → x ≡ or_broken y z → (if b then Some n else x) ≡ or_broken (if b then Some n else y) z
step true n x y z h = refl
step false n x y z h = h

pub first_of_two : (xs ys : List (Bool × ℕ)) → first_broken (xs ++ ys) ≡ or_broken (first_broken xs) (first_broken ys)
unfolding first_broken
first_of_two [] ys = refl
first_of_two (x ∷ xs) ys = step x.0 x.1 (first_broken (xs ++ ys)) (first_broken xs) (first_broken ys) (first_of_two xs ys)

-- no test holds
abbrev pub NoneHolds : List (Bool × ℕ) → Type 0
NoneHolds [] = Unit {0}
NoneHolds (rule ∷ rules) = (rule.0 ≡ false) × NoneHolds rules

front : (b : Bool) (n : ℕ) (x : Option ℕ) → (if b then Some n else x) ≡ None → (b ≡ false) × (x ≡ None)
front true n x h = absurd (cc)
front false n x h = (refl, h)

pub none_holds : (rules : List (Bool × ℕ)) → first_broken rules ≡ None → NoneHolds rules
unfolding first_broken
none_holds [] h = tt
none_holds (rule ∷ rules) h = let p = front rule.0 rule.1 (first_broken rules) h in (p.0, none_holds rules p.1)

pub length_is_right : (s : State) (f : Frame) → first_broken (frame_rules s f) ≡ None → has_wrong_length f ≡ false
unfolding frame_rules
length_is_right s f h = (none_holds (frame_rules s f) h).1.1.1.1.0

or_assoc : (a b c d : Option ℕ) → or_broken a (or_broken b (or_broken c d)) ≡ or_broken (or_broken a (or_broken b c)) d
or_assoc (Some x) b c d = refl
or_assoc None (Some x) c d = refl
or_assoc None None c d = refl

-- the rules before those of the header block, and these
pub early_late : (s : State) (f : Frame) → verdict s f ≡ or_broken (early_verdict s f) (first_broken (block_rules s f))
unfolding verdict
early_late s f =
    first_of_two (frame_rules s f) (window_rules s f ++ (stream_rules s f ++ block_rules s f))
    ∙ ap (or_broken (first_broken (frame_rules s f))) (first_of_two (window_rules s f) (stream_rules s f ++ block_rules s f)
    ∙ ap (or_broken (first_broken (window_rules s f))) (first_of_two (stream_rules s f) (block_rules s f)))
    ∙ or_assoc (first_broken (frame_rules s f)) (first_broken (window_rules s f)) (first_broken (stream_rules s f)) (first_broken (block_rules s f))

pub early : (s : State) (f : Frame) (code : ℕ) → early_verdict s f ≡ Some code → verdict s f ≡ Some code
early s f code h = early_late s f ∙ ap (λ (o : Option ℕ). or_broken o (first_broken (block_rules s f))) h

pub late : (s : State) (f : Frame) → early_verdict s f ≡ None → verdict s f ≡ first_broken (block_rules s f)
late s f h = early_late s f ∙ ap (λ (o : Option ℕ). or_broken o (first_broken (block_rules s f))) h

-- ---- the rules of the header block

kind_no : (a b : Bool) → (a || b) ≡ false → a ≡ false
kind_no true b h = h
kind_no false b h = refl

pub late_other : (s : State) (f : Frame) → is_of_block f ≡ false → (first_broken (block_rules s f) ≡ None) × (ends_block f ≡ false)
unfolding block_rules first_broken
late_other s f h = let k = kind_no (f.kind == 1) (f.kind == 9) h in (rw (h, k) refl, rw h refl)

pub late_long : (s : State) (f : Frame) → is_of_block f ≡ true → nat_lt block_limit (length (block_with s f)) ≡ true → first_broken (block_rules s f) ≡ Some 11
unfolding block_rules first_broken
late_long s f h long = rw (h, long) refl

test_no : (a b : Bool) → b ≡ false → (a && b) ≡ false
test_no true b h = h
test_no false b h = refl

pub late_part : (s : State) (f : Frame) → ends_block f ≡ false → nat_lt block_limit (length (block_with s f)) ≡ false
    → first_broken (block_rules s f) ≡ (if is_second_head s f then Some 1 else None)
unfolding block_rules first_broken
late_part s f part small = rw (test_no (is_of_block f) (nat_lt block_limit (length (block_with s f))) small, part) refl

pub late_fields : (s : State) (f : Frame) (p : Progress) → ends_block f ≡ true → nat_lt block_limit (length (block_with s f)) ≡ false
    → read_block s.decoder (block_with s f) ≡ Ok p → first_broken (block_rules s f) ≡ (if is_second_head s f then Some 1 else None)
unfolding block_rules first_broken
late_fields s f p whole small read = rw (test_no (is_of_block f) (nat_lt block_limit (length (block_with s f))) small, whole, read) refl

fault_first : (b : Bool) (x : Option ℕ) → (if b then Some 11 else (if not b then Some 9 else x)) ≡ Some (if b then 11 else 9)
fault_first true x = refl
fault_first false x = refl

pub late_fault : (s : State) (f : Frame) (e : HpackFault) → ends_block f ≡ true → nat_lt block_limit (length (block_with s f)) ≡ false
    → read_block s.decoder (block_with s f) ≡ Err e → first_broken (block_rules s f) ≡ Some (fault_code e.reason)
unfolding block_rules first_broken
late_fault s f e whole small read =
    rw (test_no (is_of_block f) (nat_lt block_limit (length (block_with s f))) small, whole, read) (fault_first (is_too_large e.reason) (if is_second_head s f then Some 1 else None))
