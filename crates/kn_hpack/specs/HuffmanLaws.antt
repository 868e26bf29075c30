-- What reading Huffman text has to do with the codes (RFC 7541, section 5.2).
use Rattle.std.specs.Prelude.{◌≡◌, ℕ, ◌<◌, ◌≤◌, List, ◌∷◌, ◌++◌, replicate, Ok, Err}
use Rattle.std.specs.List.{AllByRecursion}
use Rattle.kn_hpack.specs.Codes.{Huff, code_of, join}
use Rattle.kn_hpack.specs.Strings.{IsBytes}
use Rattle.kn_hpack.specs.Walks.{text_of}
use Rattle.kn_hpack.specs.declared.fault.HpackReason.TheVariants.{Eos, Padding}

abbrev pub IsBits : List ℕ → Type 0
IsBits bs = AllByRecursion (λ b. b < 2) bs

-- no code begins another
abbrev pub NoCodeBeginsAnother : Type 0
NoCodeBeginsAnother = (s t : ℕ) (rest : List ℕ) → s < 257 → t < 257 → code_of s ≡ code_of t ++ rest → s ≡ t

-- what is read is what the bits stand for
abbrev pub TextIsHuff : Type 0
TextIsHuff = (bs text : List ℕ) → IsBits bs → text_of bs ≡ Ok text → IsBytes text × Huff text bs

-- what the bits stand for is read
abbrev pub HuffIsRead : Type 0
HuffIsRead = (bs text : List ℕ) → IsBytes text → Huff text bs → text_of bs ≡ Ok text

-- the code of the end stands in the string, at the end of some codes
pub record HasEos (bs : List ℕ) : Type 0 where
  pub text : List ℕ
  pub rest : List ℕ
  pub bytes : IsBytes text
  pub joined : bs ≡ join text ++ (code_of 256 ++ rest)

-- the bits are a front of a code, and not the whole of it
pub record IsFront (bs : List ℕ) : Type 0 where
  pub symbol : ℕ
  pub known : symbol < 257
  pub next : ℕ
  pub rest : List ℕ
  pub joined : code_of symbol ≡ bs ++ next ∷ rest

-- what is left after the last whole code is no padding
pub record HasBadPadding (bs : List ℕ) : Type 0 where
  pub text : List ℕ
  pub rest : List ℕ
  pub bytes : IsBytes text
  pub joined : bs ≡ join text ++ rest
  pub front : IsFront rest
  pub bad : (count : ℕ) → count ≤ 7 → rest ≡ replicate count 1 → ⊥

abbrev pub EosIsThere : Type 0
EosIsThere = (bs : List ℕ) → IsBits bs → text_of bs ≡ Err Eos → HasEos bs

abbrev pub EosIsTold : Type 0
EosIsTold = (bs : List ℕ) → HasEos bs → text_of bs ≡ Err Eos

abbrev pub PaddingIsBad : Type 0
PaddingIsBad = (bs : List ℕ) → IsBits bs → text_of bs ≡ Err Padding → HasBadPadding bs

abbrev pub BadPaddingIsTold : Type 0
BadPaddingIsTold = (bs : List ℕ) → IsBits bs → HasBadPadding bs → text_of bs ≡ Err Padding
