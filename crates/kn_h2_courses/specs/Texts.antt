-- The text of a stream that is taken is what the peer sent on it.
use Rattle.std.specs.Prelude.{◌≡◌, ℕ, Bool, true, false, ◌||◌, List, [], ◌∷◌, ◌++◌, Option, Some, None}
use Rattle.kn_frames.specs.declared.frame.Frame.{Frame}
use Rattle.kn_frames.specs.Readers.{frames_in}
use Rattle.kn_h2_state.specs.declared.role.Role.{Role}
use Rattle.kn_h2_state.specs.declared.stream.Stream.{Stream}
use Rattle.kn_h2_state.specs.Streams.{stream_at}
use Rattle.kn_h2_state.specs.Calls.{text_of}
use Rattle.kn_h2_state.specs.Hearing.{is_reset_of}
use Rattle.kn_h2_state.specs.Wire.{wire_text}
use Rattle.kn_h2_courses.specs.Courses.{Course, OfEveryLife, first_reading}

-- one of the frames is an RST_STREAM of the stream
unfoldable pub is_reset_in : ℕ → List Frame → Bool
is_reset_in n [] = false
is_reset_in n (f ∷ fs) = is_reset_of n f || is_reset_in n fs

abbrev pub peer_in : Option Stream → Bool
peer_in None = false
peer_in (Some st) = st.peer_open

-- What was given of a stream, followed by what is unread, is the front of what came for it while the peer's half of it
-- was open, and all of that where the peer did not reset the stream. What so came is the front of the text of all its
-- DATA in the bytes that were fed, and all of it while the half is open.
pub record HasText (n : ℕ) (role : Role) (c : Course) : Type 0 where
  pub front : (lost : List ℕ) × (c.heard ≡ c.given ++ (text_of c.connection.state n ++ lost))
  pub whole : is_reset_in n (frames_in (first_reading role) c.fed) ≡ false → c.heard ≡ c.given ++ text_of c.connection.state n
  pub came : (later : List ℕ) × (wire_text n (first_reading role) c.fed ≡ c.heard ++ later)
  pub open_half : peer_in (stream_at c.connection.state.streams n) ≡ true → c.heard ≡ wire_text n (first_reading role) c.fed

-- as long as the connection has not failed
abbrev pub TextIsHeard : Type 0
TextIsHeard = OfEveryLife (λ n role c. c.connection.state.failed ≡ None → HasText n role c)
