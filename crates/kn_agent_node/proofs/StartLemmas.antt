-- A new agent keeps its server's connection.
use Rattle.std.proofs.Common.{◌≡◌, ℕ, ◌==◌, Bool, true, false, not, List, refl, ap, ◌∙◌, arith}
use Rattle.std.specs.Prelude.{if◌then◌else◌}
use Rattle.std.proofs.lemmas.Bool.Decides.{nat_tests}
use Rattle.kn_ends.specs.Carriers.{is_live}
use Rattle.kn_agent_node.specs.Calls.{started, calling}
use Rattle.kn_agent_node.specs.Answers.{shuts_of}

same_number : (n : ℕ) → (n == n) ≡ true
same_number n = grind (arith, nat_tests)

is_up : (authority id identifiers : List ℕ) → not (is_live (calling authority id identifiers)) ≡ false
unfolding Rattle.kn_h2_state.specs.Calls.after_begin Rattle.kn_h2_state.specs.Calls.fresh Rattle.kn_h2_state.specs.Calls.fresh_state
is_up authority id identifiers = refl

pub server_stays : (server : ℕ) (authority id identifiers : List ℕ) → shuts_of (started server authority id identifiers) server ≡ false
server_stays server authority id identifiers =
    ap (λ b. if b then not (is_live (calling authority id identifiers)) else true) (same_number server) ∙ is_up authority id identifiers
