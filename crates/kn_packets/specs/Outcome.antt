-- What holds after every list of moves, in the words of the world itself: who got which bytes, why an agent still has a connection, and what is
-- left once all is quiet and closed.
use Rattle.std.specs.Prelude.{◌≡◌, ◌++◌, ℕ, ℤ, pos, true, false, List, [], ◌∷◌, Some}
use Rattle.kn_packet.specs.declared.packet.Packet.TheVariants.{CloseReq, DialRsp}
use Rattle.kn_tables.specs.declared.held_entry.HeldEntry.{HeldEntry}
use Rattle.kn_tables.specs.declared.held_entry.HeldState.TheVariants as held
use Rattle.kn_server_core.specs.Isolation.{Each}
use Rattle.kn_edge_core.specs.declared.connection.Connection.{Connection}
use Rattle.kn_edge_core.specs.declared.connection.DestState.TheVariants as dest
use Rattle.kn_tunnel.specs.Cuts.{IsPrefixOf}
use Rattle.kn_tunnel.specs.Kinds.{is_gone}
use Rattle.kn_tunnel.specs.Outcome.{Reached}
use Rattle.kn_tunnel.specs.Tunnel.{sent}
use Rattle.kn_packets.specs.World.{World, tunnel}

-- the tunnel of each app that has come is where a run of one tunnel leads
abbrev pub AllReached : World → Type 0
AllReached w = (k : ℕ) → (w.apps k).came ≡ true → Reached (tunnel w k)

-- ---- the bytes of an app and of its dial's destination: what either got is the beginning of what the other sent
pub record Delivered (w : World) (app dial : ℕ) : Type 0 where
  pub to_app : IsPrefixOf (w.apps app).side.got (sent (w.dials dial).side)
  pub to_destination : IsPrefixOf (w.dials dial).side.got (sent (w.apps app).side)

-- ---- why an agent still has a connection
-- it stands in the list
abbrev pub IsIn : {E : Type 0} → E → List E → Type 0
IsIn {E = E} x xs = (before behind : List E) × (xs ≡ before ++ x ∷ behind)

-- the server holds it open, and has its front
pub record IsCarried (w : World) (link cid : ℕ) : Type 0 where
  pub entry : HeldEntry
  pub listed : IsIn entry w.server.held
  pub on : entry.link ≡ link
  pub named : entry.connect_id ≡ pos cid
  pub opened : entry.state ≡ held.Open
  pub front : ℕ
  pub fronted : entry.front ≡ Some front

-- its reply is on the way to the server
abbrev pub IsReplied : World → ℕ → ℕ → Type 0
IsReplied w link cid = (random : ℤ) × IsIn (DialRsp [] (pos cid) random) (w.links link).up

-- the server's request to close it is on the way to the agent
abbrev pub IsAskedToClose : World → ℕ → ℕ → Type 0
IsAskedToClose w link cid = IsIn (CloseReq (pos cid)) (w.links link).down

pub data Accounted (w : World) (link : ℕ) (x : Connection) : Type 0 where
  Carried : IsCarried w link x.connect_id → Accounted w link x
  Replied : IsReplied w link x.connect_id → Accounted w link x
  AskedToClose : IsAskedToClose w link x.connect_id → Accounted w link x
  -- bytes that came before the request to close are still to be written
  Lingers : x.state ≡ dest.Lingering → Accounted w link x
  -- the server lost the link, and the agent has not noticed
  LinkIsLost : is_gone (w.links link).server ≡ true → Accounted w link x

-- ---- what is left
-- Between server and agents nothing is on the way to an end that still has the link, no agent has a dial or a connection that lingers, and a link
-- that one of the two lost the other lost too. (Nothing is asked of streams.)
pub record IsQuiet (w : World) : Type 0 where
  pub up : (l : ℕ) → is_gone (w.links l).server ≡ false → (w.links l).up ≡ []
  pub down : (l : ℕ) → (w.agents l).lost ≡ false → (w.links l).down ≡ []
  pub dials : (l : ℕ) → (w.agents l).dials ≡ []
  pub lingering : (l : ℕ) → Each (λ (x : Connection). x.state ≡ dest.Open) (w.agents l).connections
  pub lost : (l : ℕ) → is_gone (w.links l).server ≡ (w.agents l).lost

-- no dial is awaited, and no entry is open
pub record IsClosed (w : World) : Type 0 where
  pub awaited : w.server.awaited ≡ []
  pub held : Each (λ (e : HeldEntry). e.state ≡ held.Closing) w.server.held

pub record IsEmpty (w : World) : Type 0 where
  pub awaited : w.server.awaited ≡ []
  pub held : w.server.held ≡ []
  pub dials : (l : ℕ) → (w.agents l).dials ≡ []
  pub connections : (l : ℕ) → (w.agents l).connections ≡ []
