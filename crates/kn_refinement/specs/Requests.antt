-- What the server gives out for a request of a dial, and what its choice decides.
use Rattle.std.specs.Prelude.{◌≡◌, ◌≢◌, ℕ, ℤ, pos, List, [], ◌∷◌, Option, None, Some, codes}
use Rattle.kn_packet.specs.declared.packet.Packet.TheVariants.{DialReq}
use Rattle.kn_server_core.specs.Choices.{choice_at}
use Rattle.kn_server_core.specs.Packets.{refusal}
use Rattle.kn_server_core.specs.declared.choice.Choice.{Choice}
use Rattle.kn_server_core.specs.declared.event.ServerEvent.TheVariants.{FrontPacket}
use Rattle.kn_server_core.specs.declared.event.ServerOut.{ServerOut}
use Rattle.kn_server_core.specs.declared.event.ServerOut.TheVariants.{Made, ToLink}
use Rattle.kn_server_core.specs.declared.state.State.{State}
use Rattle.kn_server_core.specs.Server.{step}
use Rattle.kn_refinement.specs.Chosen.{last_number}

abbrev pub given_for : State → ℕ → List ℕ → List ℕ → ℤ → List ServerOut
given_for s front protocol address random = (step s (FrontPacket front (DialReq protocol address random))).outs

abbrev pub choice_for : State → ℕ → List ℕ → List ℕ → ℤ → Option Choice
choice_for s front protocol address random = choice_at s (FrontPacket front (DialReq protocol address random))

-- with an answer the dial of the choice is made and asked for there, if its number is below the last; without one the request is refused, as no agent
-- is available
abbrev pub Decides : List ServerOut → ℕ → List ℕ → List ℕ → ℤ → ℕ → Option ℕ → Type 0
Decides outs front protocol address random dial None = outs ≡ refusal front random (codes "no agent available") ∷ []
Decides outs front protocol address random dial (Some link) = dial ≢ last_number → outs ≡ Made dial link front ∷ ToLink link (DialReq protocol address (pos dial)) ∷ []
