-- A stream that its peer resets (RFC 9113, section 6.4).
use Rattle.std.specs.Prelude.{ℕ, ◌+◌, ◌==◌, Bool, not, ◌&&◌, [], length, Option, Some, None, if◌then◌else◌}
use Rattle.kn_h2_state.specs.declared.event.H2Event.TheVariants.{Reset}
use Rattle.kn_h2_state.specs.declared.stream.Stream.{Stream}
use Rattle.kn_h2_state.specs.declared.state.State.{State}
use Rattle.kn_h2_state.specs.Streams.{is_open, passes, shut}
use Rattle.kn_h2_state.specs.Rules.{is_client}
use Rattle.kn_h2_state.specs.Effects.{event, on_stream}

-- nothing is left of it
abbrev pub emptied : Stream → Stream
emptied st = record (shut st) { text = [] }

-- it is gone, and so much text counts as taken on the connection
abbrev pub gone : ℕ → ℕ → ℕ → State → State
gone n code unread s = event (record (on_stream n emptied s) { owed = s.owed + unread }) (Reset n code)

-- how much text of an open stream nobody took
abbrev pub unread_of : Option Stream → Option ℕ
unread_of None = None
unread_of (Some st) = if is_open st then Some (length st.text) else None

-- a client whose response is whole takes NO_ERROR for no loss
abbrev pub loses_nothing : ℕ → State → Option Stream → Bool
loses_nothing code s o = is_client s.role && (code == 0) && passes (λ st. not st.peer_open) o
