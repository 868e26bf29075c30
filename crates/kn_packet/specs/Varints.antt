-- Varints (Protocol Buffers encoding, "Base 128 Varints").
use Rattle.std.specs.Prelude.{◌≡◌, ℕ, zero, suc, ◌<◌, ◌≤◌, ◌+◌, ◌-◌, ◌*◌, ◌⊎◌, List, [], ◌∷◌}

-- The last byte of a varint that may still have so many bytes after it. After a tenth byte there may be
-- none, and that byte has one bit of the 64.
abbrev pub IsLastByte : ℕ → ℕ → Type 0
IsLastByte zero byte = byte ≤ 1
IsLastByte (suc more) byte = byte < 128

-- A last byte stands for itself. A byte with the top bit set has the low seven bits, and the bytes
-- behind it, of which there may be so many, stand for the rest.
unfoldable pub IsVarintWithin : ℕ → List ℕ → ℕ → Type 0
IsVarintWithin more [] n = ⊥
IsVarintWithin zero (byte ∷ bytes) n = IsLastByte zero byte × (bytes ≡ []) × (n ≡ byte)
IsVarintWithin (suc more) (byte ∷ bytes) n =
    (IsLastByte (suc more) byte × (bytes ≡ []) × (n ≡ byte))
    ⊎ ((128 ≤ byte) × (high : ℕ) × (n ≡ byte - 128 + 128 * high) × IsVarintWithin more bytes high)

-- every byte has the top bit set, and another byte may follow
unfoldable pub IsUnfinishedWithin : ℕ → List ℕ → Type 0
IsUnfinishedWithin more [] = Unit {0}
IsUnfinishedWithin zero (byte ∷ bytes) = ⊥
IsUnfinishedWithin (suc more) (byte ∷ bytes) = (128 ≤ byte) × IsUnfinishedWithin more bytes

-- the bytes before the last that is allowed have the top bit set, and that one is no last byte
unfoldable pub IsTooLongWithin : ℕ → List ℕ → Type 0
IsTooLongWithin more [] = ⊥
IsTooLongWithin zero (byte ∷ bytes) = 1 < byte
IsTooLongWithin (suc more) (byte ∷ bytes) = (128 ≤ byte) × IsTooLongWithin more bytes

-- these bytes are a varint of this value: at most nine bytes with the top bit set, and a last one
abbrev pub IsVarint : List ℕ → ℕ → Type 0
IsVarint bytes n = IsVarintWithin 9 bytes n

-- these bytes, if any, begin a varint and end before its last byte
abbrev pub IsUnfinished : List ℕ → Type 0
IsUnfinished bytes = IsUnfinishedWithin 9 bytes

-- at the front of these bytes stands what would be a varint, but that it is too long
abbrev pub IsTooLong : List ℕ → Type 0
IsTooLong bytes = IsTooLongWithin 9 bytes
