-- This end's half of a stream: what the peer's frames leave of it.
use Rattle.std.specs.Prelude.{◌≡◌, ◌⊎◌, ℕ, ◌≤◌, ◌==◌, Bool, true, false, ◌||◌, List, [], Option, Some, None}
use Rattle.kn_frames.specs.declared.frame.Frame.{Frame}
use Rattle.kn_hpack.specs.Fields.{Field}
use Rattle.kn_h2_state.specs.declared.stream.Stream.{Stream}
use Rattle.kn_h2_state.specs.declared.state.State.{State}
use Rattle.kn_h2_state.specs.Streams.{stream_at}
use Rattle.kn_h2_state.specs.Rules.{is_client}
use Rattle.kn_h2_state.specs.Feeding.{Connection, after_frame, after_piece}
use Rattle.kn_h2_state.specs.Holding.{Holds}

-- what this end is to send on a stream, and whether its half is open
pub record OwnHalf : Type 0 where
  pub queue : List ℕ
  pub own_open : Bool
  pub finish : Option (List Field)

-- of a stream that the connection does not have nothing is to be sent
abbrev pub own_half : Option Stream → OwnHalf
own_half None = record { queue = []; own_open = false; finish = None }
own_half (Some st) = record { queue = st.queue; own_open = st.own_open; finish = st.finish }

abbrev pub own_at : State → ℕ → OwnHalf
own_at s n = own_half (stream_at s.streams n)

-- the half is over, and nothing waits
abbrev pub is_over : OwnHalf
is_over = own_half None

-- The frame may end this end's half: it is RST_STREAM, or at a client of a header block, which may be malformed.
abbrev pub MayEnd : State → Frame → Type 0
MayEnd s f = ((f.kind == 3) ≡ true) ⊎ ((is_client s.role ≡ true) × (((f.kind == 1) || (f.kind == 9)) ≡ true))

-- A frame leaves this end's half of a stream that was opened as it is, or it is one that may end it, and the half is over.
abbrev pub FramesLeaveOwn : Type 0
FramesLeaveOwn = (s : State) (f : Frame) (n : ℕ) → Holds s → n ≤ s.opened
    → (own_at (after_frame s f) n ≡ own_at s n) ⊎ (MayEnd s f × (own_at (after_frame s f) n ≡ is_over))

-- So does a piece of the peer's bytes, whatever frames are in it, and whether they end in a fault.
abbrev pub PiecesLeaveOwn : Type 0
PiecesLeaveOwn = (c : Connection) (piece : List ℕ) (n : ℕ) → Holds c.state → n ≤ c.state.opened
    → (own_at (after_piece c piece).state n ≡ own_at c.state n) ⊎ (own_at (after_piece c piece).state n ≡ is_over)

-- A half that is over stays so.
abbrev pub OverStaysOver : Type 0
OverStaysOver = (c : Connection) (piece : List ℕ) (n : ℕ) → Holds c.state → n ≤ c.state.opened
    → (own_at c.state n).own_open ≡ false → (own_at (after_piece c piece).state n).own_open ≡ false
