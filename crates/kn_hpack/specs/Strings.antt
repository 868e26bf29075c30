-- Strings (RFC 7541, section 5.2).
use Rattle.std.specs.Prelude.{◌≡◌, ℕ, ◌<◌, ◌⊎◌, List, [], ◌∷◌, ◌++◌, length, take, drop, nat_lt, Result, Ok, Err, if◌then◌else◌}
use Rattle.std.specs.List.{AllByRecursion}
use Rattle.kn_hpack.specs.Faults.{◌>>=◌}
use Rattle.kn_hpack.specs.Integers.{IsInteger, integer_at}
use Rattle.kn_hpack.specs.Codes.{Huff, bits_of}
use Rattle.kn_hpack.specs.Walks.{text_of}
use Rattle.kn_hpack.specs.declared.fault.HpackReason.{HpackReason}
use Rattle.kn_hpack.specs.declared.fault.HpackReason.TheVariants.{Cut}

abbrev pub IsBytes : List ℕ → Type 0
IsBytes text = AllByRecursion (λ b. b < 256) text

-- the body of a string is its text, or its text in Huffman codes
abbrev pub IsBody : ℕ → List ℕ → List ℕ → Type 0
IsBody h body text = ((h ≡ 0) × (body ≡ text)) ⊎ ((h ≡ 1) × Huff text (bits_of body))

-- a length behind the bit H, and the body
pub record IsString (bytes : List ℕ) (text : List ℕ) : Type 0 where
  pub h : ℕ
  pub head : List ℕ
  pub body : List ℕ
  pub joined : bytes ≡ head ++ body
  pub len : IsInteger h 127 head (length body)
  pub means : IsBody h body text
  pub fits : IsBytes text

unfoldable pub text_at : ℕ → List ℕ → Result (List ℕ) HpackReason
text_at first body = if nat_lt first 128 then Ok body else text_of (bits_of body)

-- the string at the front, and the bytes after it
unfoldable pub string_at : List ℕ → Result (List ℕ × List ℕ) HpackReason
string_at [] = Err Cut
string_at (b ∷ bs) = do
  n ← integer_at 127 (b ∷ bs)
  if nat_lt (length n.1) n.0 then Err Cut else (text_at b (take n.0 n.1) >>= λ t. Ok (t, drop n.0 n.1))
