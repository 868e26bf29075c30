-- Frames as they are written.
use Rattle.std.proofs.Common.{◌≡◌, ℕ, ◌+◌, List, length, refl, arith, length-append}
use Rattle.kn_frames.specs.Frames.{head, spelled}

pub length_head : (kind flags stream len : ℕ) → length (head kind flags stream len) ≡ 9
unfolding head
length_head kind flags stream len = refl

pub length_spelled : (kind flags stream : ℕ) (payload : List ℕ) → length (spelled kind flags stream payload) ≡ 9 + length payload
length_spelled kind flags stream payload =
    omega (arith, length-append (head kind flags stream (length payload)) payload, length_head kind flags stream (length payload))
