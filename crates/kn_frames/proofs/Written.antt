-- What is written is read again.
use Rattle.std.proofs.Common.{ℕ, ◌^◌, ◌<◌, ◌≤◌, List, length, arith, ap}
use Rattle.kn_frames.specs.Frames.{length_of, stream_of, head, spelled, IsSpelling}

-- a frame as it is written is a spelling of it
pub spelling_of : (kind flags stream : ℕ) (payload : List ℕ) → stream < 2 ^ 31 → length payload ≤ 16384 →
    IsSpelling (record { kind = kind; flags = flags; stream = stream; payload = payload }) (spelled kind flags stream payload)
unfolding head length_of stream_of
spelling_of kind flags stream payload low small = record {
  len = omega arith;
  small = omega arith;
  frame = ap (λ (n : ℕ). record { kind = kind; flags = flags; stream = n; payload = payload }) (omega arith);
}
