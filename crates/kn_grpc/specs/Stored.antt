-- What the code holds of a message, seen as a reading.
use Rattle.std.specs.Prelude.{ℕ, Bool, List, ◌++◌, length, ◌==◌, nat_le, ◌&&◌, ◌||◌, is_none}
use Rattle.kn_grpc.specs.declared.state.State.{State}
use Rattle.kn_grpc.specs.Messages.{length_of}
use Rattle.kn_grpc.specs.Readers.{Reading, reason_in}

abbrev pub seen : State → Reading
seen s = record { kept = s.head ++ s.body; offset = s.offset }

-- a body follows only a whole head without a fault, and is at most as long as the head says
abbrev pub is_sound_at : List ℕ → List ℕ → Bool
is_sound_at head body = nat_le (length head) 5
    && ((length body == 0) || ((length head == 5) && is_none (reason_in head) && nat_le (length body) (length_of head)))

abbrev pub is_sound : State → Bool
is_sound s = is_sound_at s.head s.body
