-- The windows of one stream as sums over the life of its connection (RFC 9113, sections 6.9.1 and 6.9.2).
use Rattle.std.specs.Prelude.{◌≡◌, ℕ, pos, ◌+ℤ◌, ◌-ℤ◌, true, length, Some, None}
use Rattle.kn_h2_state.specs.declared.role.Role.{Role}
use Rattle.kn_h2_state.specs.declared.stream.Stream.{Stream}
use Rattle.kn_h2_state.specs.Limits.{stream_window}
use Rattle.kn_h2_state.specs.Streams.{stream_at, is_open}
use Rattle.kn_h2_state.specs.Wire.{wire_grants, wire_data}
use Rattle.kn_h2_courses.specs.Courses.{Course, OfEveryLife, first_reading}

-- The sending window is the peer's SETTINGS_INITIAL_WINDOW_SIZE as it is now, more by all increments that came for the
-- stream, less by what was sent on it. The receiving window is the default, more by all that was granted of it, less by
-- all DATA that came for it, with its padding.
pub record HasStreamWindows (n : ℕ) (role : Role) (c : Course) (st : Stream) : Type 0 where
  pub send : st.send ≡ (pos c.connection.state.initial +ℤ pos (wire_grants n (first_reading role) c.fed)) -ℤ pos (length c.sent)
  pub receive : st.receive ≡ (pos stream_window +ℤ pos c.returned) -ℤ pos (wire_data n (first_reading role) c.fed)

-- of a stream that is open, as long as the connection has not failed
abbrev pub StreamWindowsAreSums : Type 0
StreamWindowsAreSums = OfEveryLife (λ n role c. c.connection.state.failed ≡ None → (st : Stream) → stream_at c.connection.state.streams n ≡ Some st
    → is_open st ≡ true → HasStreamWindows n role c st)
