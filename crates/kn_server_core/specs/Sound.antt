-- What is true of every state of the server.
use Rattle.std.specs.Prelude.{◌≡◌, ℕ, ◌<◌, ◌≤◌, None}
use Rattle.std.specs.Option.{IsSome}
use Rattle.kn_tables.specs.Lists.{first_where}
use Rattle.kn_tables.specs.Awaiting.{is_dial}
use Rattle.kn_tables.specs.Holding.{is_held_dial}
use Rattle.kn_server_core.specs.declared.state.State.{State}
use Rattle.kn_server_core.specs.declared.event.ServerEvent.{ServerEvent}
use Rattle.kn_server_core.specs.declared.event.ServerEvent.TheVariants.{LinkUp, LinkPacket, LinkLost, FrontUp, FrontPacket, FrontLost}

-- no dial that was not drawn stands in an entry, and none in two
pub record IsSound (s : State) : Type 0 where
  pub few : s.next_dial ≤ 9223372036854775807
  pub awaited_drawn : (d : ℕ) → s.next_dial ≤ d → first_where (is_dial d) s.awaited ≡ None
  pub held_drawn : (d : ℕ) → s.next_dial ≤ d → first_where (is_held_dial d) s.held ≡ None
  pub apart : (d : ℕ) → IsSome (first_where (is_dial d) s.awaited) → first_where (is_held_dial d) s.held ≡ None

-- a link or a front comes up with a number above all earlier ones
abbrev pub IsNext : State → ServerEvent → Type 0
IsNext s (LinkUp link identifiers) = s.links.top < link
IsNext s (LinkPacket link packet) = Unit {0}
IsNext s (LinkLost link) = Unit {0}
IsNext s (FrontUp front) = s.fronts.top < front
IsNext s (FrontPacket front packet) = Unit {0}
IsNext s (FrontLost front) = Unit {0}
