-- What is pending between two ends that face each other, where a piece is delivered.
use Rattle.std.specs.Prelude.{◌≡◌, ℕ, List, ◌++◌}
use Rattle.kn_h2_state.specs.Feeding.{Connection, after_piece}
use Rattle.kn_facing.specs.Ways.{delivered}
use Rattle.kn_facing.specs.Faces.{HasNotEnded}
use Rattle.kn_facing.specs.Wires.{MayHear}
use Rattle.kn_facing.specs.Pairs.{way, Facing}
use Rattle.kn_pending.specs.Pending.{pending}

-- A piece changes nothing of what is pending on a stream, and the sender may be heard on it behind the piece.
pub record IsDelivered (n : ℕ) (kept behind piece rest : List ℕ) (a b : Connection) (ab : List ℕ) : Type 0 where
  pub stays : pending n kept (delivered piece rest (way a ab b)) behind ≡ pending n kept (way a ab b) behind
  pub hears : MayHear (after_piece b piece).state n

-- so it is as long as the sender has not ended its half, and the receiver may hear it on the stream
abbrev pub FacingDelivers : Type 0
FacingDelivers = (n : ℕ) (kept behind piece rest : List ℕ) (a b : Connection) (ab ba : List ℕ) → Facing a b ab ba → ab ≡ piece ++ rest → HasNotEnded a.state n → MayHear b.state n
    → IsDelivered n kept behind piece rest a b ab
