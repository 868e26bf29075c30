-- The tunnel's entry and its bytes are followed from event to event.
use Rattle.kn_server_core.proofs.TunnelRuns.{carries, silent}
use Rattle.kn_server_core.proofs.isolation.tunnels_carry_their_own_bytes.Goals as goal

pub returns : goal.returns
returns c = record { carries = carries; silent = silent }
