-- What a function that reads from the front says of the bytes.
use Rattle.std.specs.Prelude.{◌≡◌, ℕ, ◌+◌, List, ◌++◌, length}
use Rattle.kn_packet.specs.declared.fault.PacketReason.{PacketReason}
use Rattle.kn_packet.specs.declared.entry.Stop.{Stop}

-- a thing is spelled at the front of the bytes, and the rest follows
pub record Begins {A : Type 0} (Spells : List ℕ → A → Type 0) (bytes : List ℕ) (thing : A) (rest : List ℕ) : Type 0 where
  pub spelled : List ℕ
  pub is_thing : Spells spelled thing
  pub bytes-is : bytes ≡ spelled ++ rest

-- so many bytes are left from the fault on
pub record StopsAt (Faulty : List ℕ → List ℕ → PacketReason → Type 0) (bytes : List ℕ) (stop : Stop) : Type 0 where
  pub before : List ℕ
  pub faulty : Faulty bytes before stop.reason
  pub left-is : length before + stop.left ≡ length bytes
