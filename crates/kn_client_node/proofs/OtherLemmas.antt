-- A connection that is neither kept nor the server's has nothing to do.
use Rattle.std.proofs.Common.{◌≡◌, ℕ, true, false, [], refl, Option, Some, None}
use Rattle.std.specs.Bool.{◌==◌}
use Rattle.kn_rising.specs.Members.{at}
use Rattle.kn_client_node.specs.declared.node.Node.{Node}
use Rattle.kn_client_node.specs.Calls.{wants_of, out_of, shuts_of}

pub others_rest : (node : Node) (c : ℕ) → at node.sides c ≡ None → (c == node.server) ≡ false → (wants_of node c ≡ false) × (out_of node c ≡ []) × (shuts_of node c ≡ true)
unfolding wants_of out_of shuts_of
others_rest node c none other = rw (none, other) (refl, refl, refl)
