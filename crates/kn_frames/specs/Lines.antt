-- Frames as lines of text.
use Rattle.std.specs.Prelude.{ℕ, ◌+◌, ◌/◌, ◌%◌, false, List, [], ◌∷◌, ◌++◌, length, ◌==◌, if◌then◌else◌, Option, Some, None, codes, decimal}
use Rattle.std.specs.Fmt.{digit_glyph}
use Rattle.kn_frames.specs.declared.frame.Frame.{Frame}
use Rattle.kn_frames.specs.Readers.{count_up}

-- the types of frames (RFC 9113, section 6)
unfoldable pub known_name : ℕ → Option (List ℕ)
known_name kind =
    if kind == 0 then Some (codes "DATA") else if kind == 1 then Some (codes "HEADERS") else if kind == 2 then Some (codes "PRIORITY")
    else if kind == 3 then Some (codes "RST_STREAM") else if kind == 4 then Some (codes "SETTINGS") else if kind == 5 then Some (codes "PUSH_PROMISE")
    else if kind == 6 then Some (codes "PING") else if kind == 7 then Some (codes "GOAWAY") else if kind == 8 then Some (codes "WINDOW_UPDATE")
    else if kind == 9 then Some (codes "CONTINUATION") else None

abbrev pub name_or_number : Option (List ℕ) → ℕ → List ℕ
name_or_number (Some name) kind = name
name_or_number None kind = codes "TYPE" ++ decimal kind

-- the name of a type, or TYPE and its number
unfoldable pub name_of : ℕ → List ℕ
name_of kind = name_or_number (known_name kind) kind

-- a byte as two hexadecimal digits
unfoldable pub hex_byte : ℕ → List ℕ
hex_byte byte = digit_glyph false (byte / 16) ∷ digit_glyph false (byte % 16) ∷ []

-- a label and a number
unfoldable pub labelled : List ℕ → ℕ → List ℕ
labelled label number = label ++ decimal number

-- OFFSET NAME flags=HH stream=N length=N, and a line feed
unfoldable pub line : ℕ → Frame → List ℕ
line offset f =
    ((((labelled [] offset ++ (codes " " ++ name_of f.kind)) ++ (codes " flags=" ++ hex_byte f.flags))
    ++ labelled (codes " stream=") f.stream) ++ labelled (codes " length=") (length f.payload)) ++ 10 ∷ []

-- a line for each frame, the first of which stands at this offset
abbrev pub lines : ℕ → List Frame → List ℕ
lines offset [] = []
lines offset (f ∷ fs) = line offset f ++ lines (count_up offset (9 + length f.payload)) fs
