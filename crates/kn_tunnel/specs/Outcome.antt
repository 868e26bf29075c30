-- What follows for one tunnel: whose connection is accounted for, and what a quiet and closed one leaves.
use Rattle.std.specs.Prelude.{◌+◌, ◌&&◌, ◌||◌, ℕ, Bool, not, List}
use Rattle.kn_tunnel.specs.Events.{Event}
use Rattle.kn_tunnel.specs.Kinds.{both_or_neither, implies, is_asked, is_awaited, is_carrying, is_dialled, is_empty, is_lingering, is_listed, no_closes, no_entry}
use Rattle.kn_tunnel.specs.LinkRows.{one_if}
use Rattle.kn_tunnel.specs.Steps.{Makes, start}
use Rattle.kn_tunnel.specs.Tunnel.{Tunnel}

-- some run from an app's first request leads here
pub record Reached (t : Tunnel) : Type 0 where
  pub connect : Bool
  pub events : List Event
  pub made : Makes (start connect) events t

-- a connection of the agent has its open entry, its reply on the way, a close asked on the way, lingers, or the server lost the link
abbrev pub is_accounted : Tunnel → Bool
is_accounted t = is_carrying t.entry || t.up.reply || t.down.close || is_lingering t.far || not t.server

-- Nothing of it is on the way between server and agent to an end that still has the link, the agent has no dial of it and no
-- connection that lingers, and a link that one of the two lost the other lost too. (Nothing is asked of the stream.)
abbrev pub is_quiet : Tunnel → Bool
is_quiet t =
    not (is_asked t.far) && not (is_dialled t.far) && not (is_lingering t.far) && both_or_neither t.server t.agent
    && implies t.server (not t.up.refusal && not t.up.reply && is_empty t.up.bytes && no_closes t.up.closes)
    && implies t.agent (is_empty t.down.bytes && not t.down.close)

-- its dial is not awaited and its entry is not open
abbrev pub is_closed : Tunnel → Bool
is_closed t = not (is_awaited t.entry) && not (is_carrying t.entry)

-- no entry, no dial and no connection
abbrev pub is_emptied : Tunnel → Bool
is_emptied t = no_entry t.entry && not (is_asked t.far) && not (is_dialled t.far) && not (is_listed t.far)

-- how often its dial's number stands among the requests on the way, the agent's dials and the answers on the way
abbrev pub places : Tunnel → ℕ
places t = one_if (is_asked t.far) + one_if (is_dialled t.far) + one_if t.up.refusal + one_if t.up.reply
