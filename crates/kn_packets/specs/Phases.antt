-- Where each tunnel of a world stands: the rows of its tables, the places of its dial's number, and its bytes. Its packets are those of its own in
-- the lists that it shares with others.
use Rattle.std.specs.Prelude.{◌≡◌, ◌≤◌, ℕ, false, true, Some}
use Rattle.kn_tunnel.specs.Bytes.{Bytes}
use Rattle.kn_tunnel.specs.ConnectRows.{InOneConnectRow}
use Rattle.kn_tunnel.specs.Kinds.{is_awaited, is_gone}
use Rattle.kn_tunnel.specs.LinkRows.{InOneLinkRow}
use Rattle.kn_tunnel.specs.Outcome.{places}
use Rattle.kn_tunnel.specs.StreamRows.{InStreamRow}
use Rattle.kn_packets.specs.World.{World, entry_at, tunnel}

-- server and agent both have the link
abbrev pub BothHave : World → ℕ → Type 0
BothHave w link = (is_gone (w.links link).server ≡ false) × ((w.agents link).lost ≡ false)

pub record Phases (w : World) : Type 0 where
  -- a connectID that was drawn has an app, and is in exactly one row of the table of links, where both ends have its link
  pub links : (d c : ℕ) → (w.dials d).cid ≡ Some c → BothHave w (w.dials d).link → (k : ℕ) × ((w.apps k).came ≡ true) × ((w.apps k).dial ≡ Some d) × InOneLinkRow (tunnel w k)
  -- an app is in a row of the table of streams, where its client and the server both have its stream
  pub streams : (k : ℕ) → (w.apps k).came ≡ true → (w.streams (w.apps k).stream).connect ≡ false → (w.streams (w.apps k).stream).client ≡ true → is_gone (w.streams (w.apps k).stream).front ≡ false
      → InStreamRow (tunnel w k)
  -- a CONNECT app is in exactly one row of the table of CONNECT connections, whoever has its connection
  pub connections : (k : ℕ) → (w.apps k).came ≡ true → (w.streams (w.apps k).stream).connect ≡ true → InOneConnectRow (tunnel w k)
  -- a dial's number stands once at most among requests on the way, the agent's dials and answers on the way; an awaited one once, where both ends have its link
  pub once : (k : ℕ) → (w.apps k).came ≡ true → places (tunnel w k) ≤ 1
  pub awaited : (k d : ℕ) → (w.apps k).came ≡ true → (w.apps k).dial ≡ Some d → BothHave w (w.dials d).link → is_awaited (entry_at w.server d) ≡ true → places (tunnel w k) ≡ 1
  pub bytes : (k : ℕ) → (w.apps k).came ≡ true → Bytes (tunnel w k)
