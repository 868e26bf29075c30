-- A new client keeps its server's connection.
use Rattle.std.proofs.Common.{◌≡◌, ℕ, ◌==◌, Bool, true, false, not, List, refl, ap, ◌∙◌, arith}
use Rattle.std.specs.Prelude.{if◌then◌else◌}
use Rattle.std.proofs.lemmas.Bool.Decides.{nat_tests}
use Rattle.kn_ends.specs.Carriers.{is_live}
use Rattle.kn_client_node.specs.Calls.{fresh_node, fresh_carrier, shuts_of}

same_number : (n : ℕ) → (n == n) ≡ true
same_number n = grind (arith, nat_tests)

is_up : not (is_live fresh_carrier) ≡ false
unfolding Rattle.kn_h2_state.specs.Calls.fresh Rattle.kn_h2_state.specs.Calls.fresh_state
is_up = refl

pub server_stays : (server : ℕ) (authority : List ℕ) → shuts_of (fresh_node server authority) server ≡ false
unfolding Rattle.kn_client_node.specs.Calls.shuts_of
server_stays server authority = ap (λ b. if b then not (is_live fresh_carrier) else true) (same_number server) ∙ is_up
