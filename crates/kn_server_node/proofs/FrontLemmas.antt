-- What stands at the front of a stream, seen and owned.
use Rattle.std.proofs.Common.{◌≡◌, List, [], ◌∙◌, sym, ap}
use Rattle.std.proofs.Common.{ℕ}
use Rattle.kn_packet.specs.declared.packet.Packet.{Packet}
use Rattle.kn_grpc.specs.Readers.{First}
use Rattle.kn_server_node.specs.declared.front.Seen.{Seen}
use Rattle.kn_server_node.specs.declared.front.Seen.TheVariants as seen
use Rattle.kn_server_node.specs.declared.front.Front.{Front}
use Rattle.kn_server_node.specs.Fronts.{IsSeen, IsOwned, first_as}

pub owned_stands : (s : Seen) (f : Front) (first : First Packet ℕ) → IsOwned s f → IsSeen s first → (rest : List ℕ) × (first ≡ first_as f rest)
owned_stands seen.Less f first is sees = ([], sees ∙ ap (λ x. first_as x []) (sym is))
owned_stands (seen.Packet packet) f first is sees = (sees.0, sees.1 ∙ ap (λ x. first_as x sees.0) (sym is))
owned_stands (seen.Bad status) f first is sees = ([], sees ∙ ap (λ x. first_as x []) (sym is))
