-- The host that an address of a dial spells.
use Rattle.std.specs.Prelude.{◌≡◌, ◌≢◌, ℕ, ◌<◌, ◌≤◌, List, ◌∷◌, ◌++◌, All, IsTrue, length, slice_index, ◌⊎◌}
use Rattle.std.specs.Char.{is_ascii_digit}
use Rattle.std.specs.Str.Parse.{digits_value}

-- the text has no byte of this value
abbrev pub HasNo : ℕ → List ℕ → Type 0
HasNo byte text = All (λ b. b ≢ byte) text

-- one to five decimal digits of a value from 1 to 65,535
pub record IsPort (port : List ℕ) : Type 0 where
  pub few : length port ≤ 5
  pub digits : All (λ b. IsTrue (is_ascii_digit b)) port
  pub some : 0 < digits_value 10 port
  pub fits : digits_value 10 port < 65536

-- `HOST:PORT`, which has one colon and does not begin with `[`
pub record IsPlain (address host port : List ℕ) : Type 0 where
  pub joined : address ≡ host ++ 58 ∷ port
  pub host_colon : HasNo 58 host
  pub port_colon : HasNo 58 port
  pub front : slice_index address 0 ≢ 91

-- `[HOST]:PORT`, where no `]` stands in the host
pub record IsBracketed (address host port : List ℕ) : Type 0 where
  pub joined : address ≡ 91 ∷ (host ++ 93 ∷ 58 ∷ port)
  pub host_bracket : HasNo 93 host

-- The address spells the host: it has at most 300 bytes, in one of the two forms, with a host that is not
-- empty and a port.
pub record IsHost (address host : List ℕ) : Type 0 where
  pub port : List ℕ
  pub form : IsPlain address host port ⊎ IsBracketed address host port
  pub short : length address ≤ 300
  pub named : 0 < length host
  pub is_port : IsPort port
