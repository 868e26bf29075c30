-- The rules that a frame may break, in their order (RFC 9113, sections 4 to 6 and 8).
use Rattle.std.specs.Prelude.{ℕ, pos, ◌+◌, ◌%◌, ◌+ℤ◌, ◌-ℤ◌, ◌==◌, nat_le, nat_lt, Bool, true, false, not, ◌&&◌, ◌||◌, List, [], ◌∷◌, ◌++◌, length, map, Option, Some, None, is_some, is_none, Result, Ok, Err, if◌then◌else◌}
use Rattle.std.specs.List.{list_any}
use Rattle.kn_frames.specs.declared.frame.Frame.{Frame}
use Rattle.kn_windows.specs.Windows.{can_spend, can_grow}
use Rattle.kn_hpack.specs.Blocks.{Progress, read_block}
use Rattle.kn_hpack.specs.declared.fault.HpackFault.{HpackFault}
use Rattle.kn_hpack.specs.declared.fault.HpackReason.{HpackReason}
use Rattle.kn_hpack.specs.declared.fault.HpackReason.TheVariants.{Index, Integer, Padding, Eos, TableSize, Cut, TooLarge}
use Rattle.kn_h2_state.specs.declared.role.Role.{Role}
use Rattle.kn_h2_state.specs.declared.role.Role.TheVariants.{Server, Client}
use Rattle.kn_h2_state.specs.declared.stream.Stream.{Stream}
use Rattle.kn_h2_state.specs.declared.state.Block.{Block}
use Rattle.kn_h2_state.specs.declared.state.State.{State}
use Rattle.kn_h2_state.specs.Limits.{block_limit, largest_window}
use Rattle.kn_h2_state.specs.Streams.{is_open, on_open}
use Rattle.kn_h2_state.specs.Payloads.{has, field_bytes, padding, content, increment_of, settings_of}

-- the code of the first rule that is broken
unfoldable pub first_broken : List (Bool × ℕ) → Option ℕ
first_broken [] = None
first_broken (rule ∷ rules) = if rule.0 then Some rule.1 else first_broken rules

abbrev pub is_client : Role → Bool
is_client Server = false
is_client Client = true

-- a stream that was never opened: above the highest, or of a number that its opener never uses (section 5.1.1)
abbrev pub is_idle : State → ℕ → Bool
is_idle s n = (n % 2 == 0) || nat_lt s.opened n

-- ---- header blocks (section 4.3)

-- the frame goes on with the block under way
abbrev pub continues : Option Block → Frame → Bool
continues None f = false
continues (Some b) f = (f.kind == 9) && (f.stream == b.stream)

-- a block is under way and the frame does not go on with it, or none is and the frame would
abbrev pub breaks_block : State → Frame → Bool
breaks_block s f = (is_some s.block && not (continues s.block f)) || (is_none s.block && (f.kind == 9))

abbrev pub bytes_so_far : Option Block → List ℕ
bytes_so_far None = []
bytes_so_far (Some b) = b.bytes

-- the block with what this frame brings
abbrev pub block_with : State → Frame → List ℕ
block_with s f = bytes_so_far s.block ++ content f

abbrev pub is_of_block : Frame → Bool
is_of_block f = (f.kind == 1) || (f.kind == 9)

abbrev pub ends_block : Frame → Bool
ends_block f = is_of_block f && has f 4

abbrev pub is_too_large : HpackReason → Bool
is_too_large TooLarge = true
is_too_large Index = false
is_too_large Integer = false
is_too_large Padding = false
is_too_large Eos = false
is_too_large TableSize = false
is_too_large Cut = false

-- the block has no reading, for such a reason
abbrev pub faults : (HpackReason → Bool) → Result Progress HpackFault → Bool
faults p (Ok x) = false
faults p (Err e) = p e.reason

-- ---- settings (section 6.5.2)

-- ENABLE_PUSH over 1, or not 0 from a server; MAX_FRAME_SIZE below 2^14 or above 2^24 - 1
abbrev pub is_bad_setting : Role → ℕ × ℕ → Bool
is_bad_setting role x = ((x.0 == 2) && (nat_lt 1 x.1 || (is_client role && not (x.1 == 0))))
    || ((x.0 == 5) && (nat_lt x.1 16384 || nat_lt 16777215 x.1))

-- a stream's sending window after INITIAL_WINDOW_SIZE went from old to new, if the stream is open (section 6.9.2)
abbrev pub shifted_one : ℕ → ℕ → Stream → Stream
shifted_one old new st = if is_open st then record st { send = st.send +ℤ (pos new -ℤ pos old) } else st

abbrev pub shifted : ℕ → ℕ → List Stream → List Stream
shifted old new ss = map (shifted_one old new) ss

-- its sending window would pass the largest
abbrev pub shifts_over : ℕ → ℕ → Stream → Bool
shifts_over old new st = is_open st && not (can_grow st.send (pos new -ℤ pos old))

-- one of the settings, taken in turn, brings INITIAL_WINDOW_SIZE or a sending window over the largest
unfoldable pub breaks_windows : ℕ → List Stream → List (ℕ × ℕ) → Bool
breaks_windows initial ss [] = false
breaks_windows initial ss (x ∷ xs) =
    if x.0 == 4
    then nat_lt largest_window x.1 || list_any (shifts_over initial x.1) ss || breaks_windows x.1 (shifted initial x.1 ss) xs
    else breaks_windows initial ss xs

-- ---- the tests that are more than a comparison

-- DATA, HEADERS, PRIORITY and RST_STREAM are on a stream; SETTINGS, PING and GOAWAY are on none
abbrev pub is_on_wrong_stream : Frame → Bool
is_on_wrong_stream f = (nat_le f.kind 3 && (f.stream == 0))
    || (((f.kind == 4) || (f.kind == 6) || (f.kind == 7)) && not (f.stream == 0))

-- PRIORITY has 5 bytes, RST_STREAM and WINDOW_UPDATE 4, PING 8, GOAWAY 8 or more, SETTINGS a multiple of 6, and none with ACK
abbrev pub has_wrong_length : Frame → Bool
has_wrong_length f = ((f.kind == 2) && not (length f.payload == 5))
    || (((f.kind == 3) || (f.kind == 8)) && not (length f.payload == 4))
    || ((f.kind == 6) && not (length f.payload == 8))
    || ((f.kind == 7) && nat_lt (length f.payload) 8)
    || ((f.kind == 4) && (not (length f.payload % 6 == 0) || (has f 1 && not (length f.payload == 0))))

-- DATA, RST_STREAM or WINDOW_UPDATE on a stream that was never opened
abbrev pub is_on_idle : State → Frame → Bool
is_on_idle s f = ((f.kind == 0) || (f.kind == 3) || ((f.kind == 8) && not (f.stream == 0))) && is_idle s f.stream

-- DATA is longer than a window of its stream or of the connection allows
abbrev pub is_over_window : State → Frame → Bool
is_over_window s f = (f.kind == 0)
    && (not (can_spend s.receive (length f.payload)) || on_open s.streams f.stream (λ st. not (can_spend st.receive (length f.payload))))

-- HEADERS after the head, which do not end the stream: no trailers
abbrev pub is_second_head : State → Frame → Bool
is_second_head s f = (f.kind == 1) && not (has f 1) && on_open s.streams f.stream (λ st. not (is_client s.role) || st.answered)

-- ---- the rules

-- Each group is a list of tests with the codes of the errors (section 7), read in order: a test is read
-- only where none before it holds.

-- the frame itself
unfoldable pub frame_rules : State → Frame → List (Bool × ℕ)
frame_rules s f =
    -- settings first: the first frame is SETTINGS without ACK (section 3.4)
    (not s.began && (not (f.kind == 4) || has f 1), 1)
    -- whole block: a header block is not interrupted, and goes on only where one is under way (section 6.10)
    ∷ (breaks_block s f, 1)
    -- right stream: stream 0 is for the frames of the connection, and for these alone (sections 6.1 to 6.8)
    ∷ (is_on_wrong_stream f, 1)
    -- no push: a client never sends PUSH_PROMISE, and to this one none may be sent (sections 6.6 and 8.4)
    ∷ (f.kind == 5, 1)
    -- fixed length (sections 6.3 to 6.9)
    ∷ (has_wrong_length f, 6)
    -- fields there: DATA and HEADERS have the fields that their flags announce (sections 4.2, 6.1 and 6.2)
    ∷ (nat_le f.kind 1 && nat_lt (length f.payload) (field_bytes f), 6)
    -- room for padding: no more of it than there is left of the payload (sections 6.1 and 6.2)
    ∷ (nat_le f.kind 1 && nat_lt (length f.payload) (field_bytes f + padding f), 1)
    ∷ []

-- SETTINGS and WINDOW_UPDATE
unfoldable pub window_rules : State → Frame → List (Bool × ℕ)
window_rules s f =
    -- setting in range (section 6.5.2)
    ((f.kind == 4) && list_any (is_bad_setting s.role) (settings_of f.payload), 1)
    -- initial window in range: neither it nor a window that it shifts passes 2^31 - 1 (sections 6.5.2 and 6.9.2)
    ∷ ((f.kind == 4) && breaks_windows s.initial s.streams (settings_of f.payload), 3)
    -- increment above 0 (section 6.9)
    ∷ ((f.kind == 8) && (increment_of f.payload == 0), 1)
    -- window in range: neither the connection's nor a stream's passes 2^31 - 1 (section 6.9.1)
    ∷ ((f.kind == 8) && (f.stream == 0) && not (can_grow s.send (pos (increment_of f.payload))), 3)
    ∷ ((f.kind == 8) && on_open s.streams f.stream (λ st. not (can_grow st.send (pos (increment_of f.payload)))), 3)
    ∷ []

-- the stream
unfoldable pub stream_rules : State → Frame → List (Bool × ℕ)
stream_rules s f =
    -- no idle stream: nothing but HEADERS comes on one, and these only at the server, on a number of a client (sections 5.1 and 5.1.1)
    (is_on_idle s f, 1)
    ∷ ((f.kind == 1) && ((f.stream % 2 == 0) || (is_client s.role && is_idle s f.stream)), 1)
    -- within the windows (section 6.9.1)
    ∷ (is_over_window s f, 3)
    -- open half: nothing comes on a half that has ended (section 5.1)
    ∷ (nat_le f.kind 1 && on_open s.streams f.stream (λ st. not st.peer_open), 5)
    -- head first: no text of a response comes before its head (section 8.1)
    ∷ ((f.kind == 0) && is_client s.role && on_open s.streams f.stream (λ st. not st.answered), 1)
    ∷ []

-- the header block
unfoldable pub block_rules : State → Frame → List (Bool × ℕ)
block_rules s f =
    -- block in bounds: not too long (section 10.5.1), and not of too large a list (section 6.5.2)
    (is_of_block f && nat_lt block_limit (length (block_with s f)), 11)
    ∷ (ends_block f && faults is_too_large (read_block s.decoder (block_with s f)), 11)
    -- readable block (section 4.3)
    ∷ (ends_block f && faults (λ r. not (is_too_large r)) (read_block s.decoder (block_with s f)), 9)
    -- one head: a second one ends its stream (section 8.1)
    ∷ (is_second_head s f, 1)
    ∷ []

abbrev pub rules : State → Frame → List (Bool × ℕ)
rules s f = frame_rules s f ++ (window_rules s f ++ (stream_rules s f ++ block_rules s f))

-- the code with which a connection fails at the frame, if it does: that of the first rule that the frame breaks
unfoldable pub verdict : State → Frame → Option ℕ
verdict s f = first_broken (rules s f)
