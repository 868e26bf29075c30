-- Messages as they are spelled on a stream (gRPC over HTTP/2, "Length-Prefixed-Message").
use Rattle.std.specs.Prelude.{◌≡◌, ℕ, ◌+◌, ◌*◌, ◌<◌, ◌≤◌, List, [], ◌∷◌, ◌++◌, length, drop, slice_index}
use Rattle.std.specs.Int.{to_be_bytes, w32}

-- what the four bytes behind the flag say, the highest first; bytes that did not come yet count as 0
unfoldable pub length_of : List ℕ → ℕ
length_of head = slice_index head 1 * 16777216 + slice_index head 2 * 65536 + slice_index head 3 * 256 + slice_index head 4

-- a flag byte 0, the length in four bytes, and the message of at most 4,194,304 bytes
pub record IsSpelling (message text : List ℕ) : Type 0 where
  pub flag : slice_index text 0 ≡ 0
  pub small : length_of text ≤ 4194304
  pub len : length text ≡ 5 + length_of text
  pub body : drop 5 text ≡ message

-- the front of a message that is not whole
abbrev pub IsPartial : List ℕ → Type 0
IsPartial rest = (message : List ℕ) × (more : List ℕ) × IsSpelling message (rest ++ more) × (0 < length more)

-- the bytes are the join of the messages' spellings, and a rest
abbrev pub Spells : List ℕ → List (List ℕ) → List ℕ → Type 0
Spells bytes [] rest = bytes ≡ rest
Spells bytes (m ∷ ms) rest = (text : List ℕ) × (more : List ℕ) × (bytes ≡ text ++ more) × IsSpelling m text × Spells more ms rest

-- the bytes are the join of the messages' spellings, and a rest that is a partial message
abbrev pub AreMessages : List ℕ → List (List ℕ) → List ℕ → Type 0
AreMessages bytes ms rest = Spells bytes ms rest × IsPartial rest

-- no message stands at the front of these bytes, whatever follows them
abbrev pub BeginsNoMessage : List ℕ → Type 0
BeginsNoMessage bytes = (message text after more : List ℕ) → IsSpelling message text → text ++ after ≡ bytes ++ more → ⊥

-- a message as it is written
unfoldable pub spelled : List ℕ → List ℕ
spelled message = 0 ∷ (to_be_bytes w32 (length message) ++ message)
