-- What a move is to the tunnels of all apps.
use Rattle.std.specs.Prelude.{◌≡◌, ℕ, true}
use Rattle.kn_tunnel.specs.Facts.{Facts}
use Rattle.kn_tunnel.specs.Steps.{Follows}
use Rattle.kn_packets.specs.World.{World, tunnel}

-- the tunnel of each app that has come takes one step, or none
abbrev pub Lifts : World → World → Type 0
Lifts old new = (k : ℕ) → (old.apps k).came ≡ true → Follows (tunnel old k) (tunnel new k)

-- what is known of the tunnel of each app that has come
abbrev pub AllHold : World → Type 0
AllHold w = (k : ℕ) → (w.apps k).came ≡ true → Facts (tunnel w k)
