-- The frames that our ends write, and what is asked of the end that they come to, so that they break no rule there.
use Rattle.std.specs.Prelude.{◌≡◌, ℕ, ◌%◌, ◌==◌, ◌<◌, ◌≤◌, true, false, not, ◌&&◌, List, [], ◌++◌, length, pos, None, Ok}
use Rattle.std.specs.Int.{to_be_bytes, w32}
use Rattle.kn_hpack.specs.Blocks.{Progress, read_block}
use Rattle.kn_windows.specs.Windows.{can_spend, can_grow}
use Rattle.kn_h2_state.specs.declared.state.State.{State}
use Rattle.kn_h2_state.specs.Limits.{block_limit, stream_limit, list_limit}
use Rattle.kn_h2_state.specs.Payloads.{setting_text}
use Rattle.kn_h2_state.specs.Streams.{on_open}
use Rattle.kn_h2_state.specs.Rules.{is_client, is_idle, verdict}
use Rattle.kn_h2_state.specs.Holding.{Holds}
use Rattle.kn_h2_state.specs.Wire.{frame}

-- the peer's SETTINGS came, and no header block is under way
pub record IsListening (t : State) : Type 0 where
  pub began : t.began ≡ true
  pub block : t.block ≡ None

-- ---- text

-- DATA without padding, that ends the half or not
pub record TakesData (t : State) (n : ℕ) (payload : List ℕ) : Type 0 where
  pub listens : IsListening t
  pub number : (n == 0) ≡ false
  pub known : is_idle t n ≡ false
  pub all : can_spend t.receive (length payload) ≡ true
  pub one : on_open t.streams n (λ st. not (can_spend st.receive (length payload))) ≡ false
  pub half : on_open t.streams n (λ st. not st.peer_open) ≡ false
  pub head : (is_client t.role && on_open t.streams n (λ st. not st.answered)) ≡ false

abbrev pub DataIsTaken : Type 0
DataIsTaken = (t : State) (n : ℕ) (payload : List ℕ) → TakesData t n payload → verdict t (frame 0 0 n payload) ≡ None

abbrev pub LastDataIsTaken : Type 0
LastDataIsTaken = (t : State) (n : ℕ) (payload : List ℕ) → TakesData t n payload → verdict t (frame 0 1 n payload) ≡ None

-- ---- heads, each in one frame

-- a block that the decoder reads, on the number of a client's stream
pub record ReadsBlock (t : State) (n : ℕ) (bytes : List ℕ) : Type 0 where
  pub listens : IsListening t
  pub odd : (n % 2 == 0) ≡ false
  pub small : length bytes ≤ block_limit
  pub progress : Progress
  pub reads : read_block t.decoder bytes ≡ Ok progress

-- the head of a call, at a server that has no such stream
pub record TakesRequest (t : State) (n : ℕ) (bytes : List ℕ) : Type 0 where
  pub block : ReadsBlock t n bytes
  pub server : is_client t.role ≡ false
  pub once : on_open t.streams n (λ st. true) ≡ false

abbrev pub RequestIsTaken : Type 0
RequestIsTaken = (t : State) (n : ℕ) (block : List ℕ) → TakesRequest t n block → verdict t (frame 1 4 n block) ≡ None

-- what comes of an answer, at a client that began the stream
pub record TakesFields (t : State) (n : ℕ) (bytes : List ℕ) : Type 0 where
  pub block : ReadsBlock t n bytes
  pub known : is_idle t n ≡ false
  pub half : on_open t.streams n (λ st. not st.peer_open) ≡ false

-- the head of an answer, where none came yet
abbrev pub ResponseIsTaken : Type 0
ResponseIsTaken = (t : State) (n : ℕ) (block : List ℕ) → TakesFields t n block → is_client t.role ≡ true → on_open t.streams n (λ st. st.answered) ≡ false
    → verdict t (frame 1 4 n block) ≡ None

-- what ends one
abbrev pub TrailersAreTaken : Type 0
TrailersAreTaken = (t : State) (n : ℕ) (block : List ℕ) → TakesFields t n block → verdict t (frame 1 5 n block) ≡ None

-- ---- resets

-- RST_STREAM with NO_ERROR, as with any other code
abbrev pub ResetIsTaken : Type 0
ResetIsTaken = (t : State) (n code : ℕ) → IsListening t → (n == 0) ≡ false → is_idle t n ≡ false → verdict t (frame 3 0 n (to_be_bytes w32 code)) ≡ None

-- ---- windows

-- WINDOW_UPDATE of the connection, within its sending window
abbrev pub GrantIsTaken : Type 0
GrantIsTaken = (t : State) (by : ℕ) → Holds t → IsListening t → 0 < by → by ≤ 2147483647 → can_grow t.send (pos by) ≡ true → verdict t (frame 8 0 0 (to_be_bytes w32 by)) ≡ None

-- and of a stream, which may be closed
abbrev pub StreamGrantIsTaken : Type 0
StreamGrantIsTaken = (t : State) (n by : ℕ) → IsListening t → (n == 0) ≡ false → is_idle t n ≡ false → 0 < by → by ≤ 2147483647
    → on_open t.streams n (λ st. not (can_grow st.send (pos by))) ≡ false → verdict t (frame 8 0 n (to_be_bytes w32 by)) ≡ None

-- ---- settings

-- the first frame of a client, and that of a server, whatever came before
abbrev pub ClientSettingsAreTaken : Type 0
ClientSettingsAreTaken = (t : State) → t.block ≡ None → verdict t (frame 4 0 0 (setting_text 2 0 ++ setting_text 6 list_limit)) ≡ None

abbrev pub ServerSettingsAreTaken : Type 0
ServerSettingsAreTaken = (t : State) → t.block ≡ None → verdict t (frame 4 0 0 (setting_text 3 stream_limit ++ setting_text 6 list_limit)) ≡ None

-- what acknowledges them
abbrev pub AcknowledgementIsTaken : Type 0
AcknowledgementIsTaken = (t : State) → IsListening t → verdict t (frame 4 1 0 []) ≡ None
