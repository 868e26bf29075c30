-- What the server says of itself in the head of its answer.
use Rattle.std.specs.Prelude.{ℕ, ◌+◌, ◌-◌, ◌*◌, nat_le, nat_lt, Bool, ◌&&◌, List, [], ◌∷◌, Option, Some, None, codes, if◌then◌else◌}
use Rattle.std.specs.Str.{is_utf8}
use Rattle.kn_hpack.specs.Fields.{Field}
use Rattle.kn_grpc.specs.Calls.{value_in}

-- the first serverid; nothing where there is none, or where it is no text
abbrev pub text_or_none : List ℕ → List ℕ
text_or_none bytes = if is_utf8 bytes then bytes else []

abbrev pub server_id_in : Option (List Field) → Option (List ℕ)
server_id_in None = None
server_id_in (Some fields) = Some (text_or_none (value_in (codes "serverid") fields))

abbrev pub is_digit : ℕ → Bool
is_digit byte = nat_le 48 byte && nat_le byte 57

-- one digit more, of a number up to 100
abbrev pub with_digit : ℕ → ℕ → Option ℕ
with_digit byte n = if is_digit byte then (if nat_lt 100 (n * 10 + (byte - 48)) then None else Some (n * 10 + (byte - 48))) else None

-- the number that the digits spell behind those that were read
abbrev pub number_from : Option ℕ → List ℕ → Option ℕ
number_from None bytes = None
number_from (Some n) [] = Some n
number_from (Some n) (byte ∷ bytes) = number_from (with_digit byte n) bytes

-- a number from 1 to 100, or 1
abbrev pub count_or_one : Option ℕ → ℕ
count_or_one None = 1
count_or_one (Some n) = if nat_lt 0 n then n else 1

-- the first servercount
abbrev pub server_count_in : Option (List Field) → ℕ
server_count_in None = 1
server_count_in (Some fields) = count_or_one (number_from (Some 0) (value_in (codes "servercount") fields))
