-- Each connection that an agent has is of a dial.
use Rattle.std.specs.Prelude.{◌≡◌, ℕ, Some}
use Rattle.kn_tables.specs.Lists.{first_where}
use Rattle.kn_edge_core.specs.AgentTables.{is_connection}
use Rattle.kn_edge_core.specs.declared.connection.Connection.{Connection}
use Rattle.kn_packets.specs.World.{World}

-- a dial of this link drew this connectID
abbrev pub HasDial : World → ℕ → ℕ → Type 0
HasDial w link cid = (d : ℕ) × ((w.dials d).link ≡ link) × ((w.dials d).cid ≡ Some cid)

-- whatever connection an agent's list has for a connectID, a dial of its link drew that connectID
pub record Owned (w : World) : Type 0 where
  pub drawn : (l cid : ℕ) (x : Connection) → first_where (is_connection cid) (w.agents l).connections ≡ Some x → HasDial w l cid
