-- Texts that are passed on.
use Rattle.std.specs.Prelude.{ℕ, zero, suc, nat_lt, List, length, take, slice_index, if◌then◌else◌}
use Rattle.std.specs.Fmt.{is_char_start}

-- where the last character begins that does not reach past a place
unfoldable pub last_start : List ℕ → ℕ → ℕ
last_start bytes zero = 0
last_start bytes (suc n) = if is_char_start (slice_index bytes (suc n)) then suc n else last_start bytes n

-- an error text, or its longest prefix of whole characters of at most 256 bytes
abbrev pub error_cut : List ℕ → List ℕ
error_cut text = if nat_lt 256 (length text) then take (last_start text 256) text else text
