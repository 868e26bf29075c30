-- Two ends of a connection that face each other: neither finds a fault in what comes from the other.
use Rattle.std.specs.Prelude.{◌≡◌, ℕ, ◌+◌, ◌<◌, ◌≤◌, ◌==◌, Bool, true, false, not, ◌&&◌, ◌||◌, List, [], ◌∷◌, None, Some, Ok, if◌then◌else◌}
use Rattle.std.specs.List.{AllByRecursion}
use Rattle.kn_frames.specs.declared.frame.Frame.{Frame}
use Rattle.kn_frames.specs.Readers.{frames_in}
use Rattle.kn_hpack.specs.Fields.{Field}
use Rattle.kn_hpack.specs.Blocks.{Progress, read_block}
use Rattle.kn_h2_state.specs.declared.stream.Stream.{Stream}
use Rattle.kn_h2_state.specs.declared.state.State.{State}
use Rattle.kn_h2_state.specs.Feeding.{after_frame}
use Rattle.kn_h2_state.specs.InStep.{IsInStep}
use Rattle.kn_h2_state.specs.Outgoing.{nothing_out}
use Rattle.kn_h2_state.specs.Payloads.{has, settings_of}
use Rattle.kn_h2_state.specs.Streams.{stream_at, is_open, on_open}
use Rattle.kn_h2_state.specs.Rules.{is_client, block_with, verdict}
use Rattle.kn_h2_state.specs.Heads.{is_malformed_request, is_malformed_response, is_informational}
use Rattle.kn_facing.specs.Ways.{Way, wire}

-- what is on its way to an end, as frames
abbrev pub coming : Way → List Frame
coming w = frames_in w.to.cutter (wire w)

-- what waits for the socket is not looked at, nor what is told: it leaves before the next bytes come
abbrev pub emptied : State → State
emptied s = record s { out = nothing_out; events = [] }

-- ---- one end, and the other as it will be

-- What the end s may write next, the other takes, which is t once it has read all that is on its way: its streams are as
-- open there, and its next header block is read.
pub record IsFollowed (s t : State) : Type 0 where
  pub began : t.began ≡ true
  pub block : t.block ≡ None
  pub decoder : IsInStep s.encoder t.decoder
  -- a half that is open here is open there, or the whole stream is closed there
  pub halves : (n : ℕ) (a b : Stream) → stream_at s.streams n ≡ Some a → a.own_open ≡ true → stream_at t.streams n ≡ Some b → is_open b ≡ true → b.peer_open ≡ true
  -- a stream that is answered here had its head there, and the other way round
  pub heads : is_client t.role ≡ true → (n : ℕ) (a b : Stream) → stream_at s.streams n ≡ Some a → stream_at t.streams n ≡ Some b → is_open b ≡ true → b.answered ≡ a.answered
  -- no stream is known here that was not begun there
  pub opened : is_client s.role ≡ true → t.opened ≡ s.opened
  pub begun : is_client t.role ≡ true → s.opened ≤ t.opened

-- A stream that a server has not come to know yet is at its client as it began.
abbrev pub Awaits : State → State → Type 0
Awaits s t = is_client t.role ≡ true → (n : ℕ) (b : Stream) → s.opened < n → stream_at t.streams n ≡ Some b → is_open b ≡ true → (b.peer_open ≡ true) × (b.answered ≡ false)

-- ---- what our ends write

-- no PING, no CONTINUATION, and no SETTINGS with INITIAL_WINDOW_SIZE
pub record IsPlain (f : Frame) : Type 0 where
  pub whole : (f.kind == 9) ≡ false
  pub silent : (f.kind == 6) ≡ false
  pub windows : (f.kind == 4) ≡ true → AllByRecursion (λ x. (x.0 == 4) ≡ false) (settings_of f.payload)

-- the head of a response, and no interim one (RFC 9113, section 8.1)
pub record IsResponse (fields : List Field) : Type 0 where
  pub formed : is_malformed_response fields ≡ false
  pub last : is_informational fields ≡ false

-- the fields are those of a request, or of a response where a client waits for one
pub record Fits (t : State) (n : ℕ) (fields : List Field) : Type 0 where
  pub request : is_client t.role ≡ false → is_malformed_request fields ≡ false
  pub response : is_client t.role ≡ true → on_open t.streams n (λ st. not st.answered) ≡ true → IsResponse fields

-- The frame breaks no rule, and asks for no reply but what acknowledges SETTINGS.
pub record IsTaken (t : State) (f : Frame) : Type 0 where
  pub kept : verdict t f ≡ None
  pub plain : IsPlain f
  pub head : (f.kind == 1) ≡ true → (p : Progress) → read_block t.decoder (block_with t f) ≡ Ok p → Fits t f.stream p.fields

-- and so each of them, one after another
unfoldable pub AreTaken : State → List Frame → Type 0
AreTaken t [] = Unit {0}
AreTaken t (f ∷ fs) = IsTaken t f × AreTaken (after_frame t f) fs

-- ---- reply frames

-- a frame that may ask for a reply: SETTINGS and PING that acknowledge nothing, and the frames of a header block
abbrev pub asks : Frame → Bool
asks f = (f.kind == 1) || (f.kind == 9) || (((f.kind == 4) || (f.kind == 6)) && not (has f 1))

unfoldable pub asking : List Frame → ℕ
asking [] = 0
asking (f ∷ fs) = (if asks f then 1 else 0) + asking fs
