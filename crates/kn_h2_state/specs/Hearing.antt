-- What a list of frames does to the text of a stream.
use Rattle.std.specs.Prelude.{◌≡◌, ℕ, ◌≤◌, ◌==◌, Bool, true, false, ◌&&◌, List, [], ◌∷◌, ◌++◌, None}
use Rattle.std.specs.List.{AllByRecursion}
use Rattle.kn_frames.specs.declared.frame.Frame.{Frame}
use Rattle.kn_h2_state.specs.declared.state.State.{State}
use Rattle.kn_h2_state.specs.Streams.{on_open}
use Rattle.kn_h2_state.specs.Feeding.{after_frame, after_frames}
use Rattle.kn_h2_state.specs.Calls.{text_of}
use Rattle.kn_h2_state.specs.Holding.{Holds}
use Rattle.kn_h2_state.specs.Wire.{texts_in, Hears}

-- the peer's half of the stream is open
abbrev pub is_peer_open : ℕ → State → Bool
is_peer_open n s = on_open s.streams n (λ st. st.peer_open)

-- the frame is an RST_STREAM of the stream
abbrev pub is_reset_of : ℕ → Frame → Bool
is_reset_of n f = (f.kind == 3) && (f.stream == n)

-- the peer's half of the stream is open before each of the frames, and none of them resets it
unfoldable pub StaysOpen : ℕ → State → List Frame → Type 0
StaysOpen n s [] = Unit {0}
StaysOpen n s (f ∷ fs) = (is_peer_open n s ≡ true) × (is_reset_of n f ≡ false) × StaysOpen n (after_frame s f) fs

-- ---- an open half

-- each of the frames adds to the text of the stream what it brings, and all together the contents of the stream's
-- DATA frames, in their order
pub record AreHeard (n : ℕ) (s : State) (fs : List Frame) : Type 0 where
  pub each : Hears n s fs
  pub all : text_of (after_frames s fs) n ≡ text_of s n ++ texts_in n fs

-- While the peer's half of a stream stays open, and the connection does not fail, all frames are heard.
abbrev pub FramesAreHeard : Type 0
FramesAreHeard = (n : ℕ) (s : State) (fs : List Frame) → Holds s → (after_frames s fs).failed ≡ None → StaysOpen n s fs → AreHeard n s fs

-- ---- a closed half

-- Where the peer's half is not open, only a reset of the stream itself changes its text, and where neither half is, no frame does.
pub record TextStays (n : ℕ) (s : State) (f : Frame) : Type 0 where
  pub half : is_peer_open n s ≡ false → is_reset_of n f ≡ false → text_of (after_frame s f) n ≡ text_of s n
  pub whole : on_open s.streams n (λ st. true) ≡ false → text_of (after_frame s f) n ≡ text_of s n

abbrev pub ClosedTextStays : Type 0
ClosedTextStays = (n : ℕ) (s : State) (f : Frame) → Holds s → TextStays n s f

-- The peer's half of a stream that was opened does not open again; so through any frames that do not reset the stream its text stays.
pub record StaysClosed (n : ℕ) (s : State) (fs : List Frame) : Type 0 where
  pub closed : is_peer_open n (after_frames s fs) ≡ false
  pub text : AllByRecursion (λ f. is_reset_of n f ≡ false) fs → text_of (after_frames s fs) n ≡ text_of s n

abbrev pub ClosedStaysClosed : Type 0
ClosedStaysClosed = (n : ℕ) (s : State) (fs : List Frame) → Holds s → n ≤ s.opened → is_peer_open n s ≡ false → StaysClosed n s fs
