-- What the payload of a frame says (RFC 9113, section 6), and how payloads are written.
use Rattle.std.specs.Prelude.{ℕ, ◌+◌, ◌-◌, ◌/◌, ◌%◌, ◌==◌, Bool, List, [], ◌∷◌, ◌++◌, length, take, drop, slice_index, if◌then◌else◌}
use Rattle.std.specs.Int.{to_be_bytes, from_be_bytes, w16, w32}
use Rattle.kn_frames.specs.declared.frame.Frame.{Frame}
use Rattle.kn_frames.specs.Frames.{spelled}

-- a flag of the frame: END_STREAM and ACK 1, END_HEADERS 4, PADDED 8, PRIORITY 32
abbrev pub has : Frame → ℕ → Bool
has f flag = (f.flags / flag) % 2 == 1

-- how many bytes of fields stand before the content of DATA (section 6.1) or HEADERS (section 6.2)
abbrev pub field_bytes : Frame → ℕ
field_bytes f = (if has f 8 then 1 else 0) + (if f.kind == 1 then (if has f 32 then 5 else 0) else 0)

-- the pad length, which is the first field
abbrev pub padding : Frame → ℕ
padding f = if has f 8 then slice_index f.payload 0 else 0

-- the content of DATA, HEADERS or CONTINUATION: what stands between the fields and the padding
unfoldable pub content : Frame → List ℕ
content f =
    if f.kind == 9 then f.payload
    else take (length f.payload - field_bytes f - padding f) (drop (field_bytes f) f.payload)

-- four bytes as a number, the highest first
abbrev pub number_at : List ℕ → ℕ → ℕ
number_at bytes at = from_be_bytes w32 (take 4 (drop at bytes))

-- the increment of WINDOW_UPDATE, without the reserved bit at its top (section 6.9)
unfoldable pub increment_of : List ℕ → ℕ
increment_of payload = number_at payload 0 % 2147483648

-- a setting of SETTINGS: its number and its value (section 6.5.1)
abbrev pub setting : List ℕ → ℕ × ℕ
setting bytes = (from_be_bytes w16 (take 2 bytes), from_be_bytes w32 (drop 2 bytes))

-- the settings of a payload, in their order
unfoldable pub settings_of : List ℕ → List (ℕ × ℕ)
settings_of (a ∷ b ∷ c ∷ d ∷ e ∷ g ∷ rest) = setting (a ∷ b ∷ c ∷ d ∷ e ∷ g ∷ []) ∷ settings_of rest
settings_of _ = []

-- ---- frames as they are written

abbrev pub setting_text : ℕ → ℕ → List ℕ
setting_text number value = to_be_bytes w16 number ++ to_be_bytes w32 value

-- RST_STREAM (section 6.4)
abbrev pub reset_frame : ℕ → ℕ → List ℕ
reset_frame n code = spelled 3 0 n (to_be_bytes w32 code)

-- GOAWAY with the highest stream that the peer opened, and no debug data (section 6.8)
abbrev pub goaway_frame : ℕ → ℕ → List ℕ
goaway_frame last code = spelled 7 0 0 (to_be_bytes w32 last ++ to_be_bytes w32 code)

-- WINDOW_UPDATE of a stream, or of the connection as stream 0 (section 6.9)
abbrev pub grant_frame : ℕ → ℕ → List ℕ
grant_frame n by = spelled 8 0 n (to_be_bytes w32 by)
