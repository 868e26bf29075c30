-- Apps with a choice that has no answer: each is refused, as no agent is available.
use Rattle.std.specs.Prelude.{◌≡◌, ◌≢◌, ◌⊎◌, ℕ, ℤ, false, List, None, Some, codes}
use Rattle.kn_connect.specs.Replies.{status_and_reason}
use Rattle.kn_packet.specs.declared.packet.Packet.{Packet}
use Rattle.kn_packet.specs.declared.packet.Packet.TheVariants.{DialRsp}
use Rattle.kn_packets.specs.Outcome.{IsIn}
use Rattle.kn_world.specs.declared.parts.App.{App}
use Rattle.kn_world.specs.declared.parts.AppChoice.{AppChoice}
use Rattle.kn_world.specs.declared.parts.Client.{Client}
use Rattle.kn_world.specs.declared.parts.Home.{Home}
use Rattle.kn_world.specs.declared.parts.Home.TheVariants as home
use Rattle.kn_world.specs.declared.parts.Stage.{Stage}
use Rattle.kn_world.specs.declared.parts.Stage.TheVariants as stage
use Rattle.kn_world.specs.declared.state.State.{State}
use Rattle.kn_world.specs.Numbers.{nth, number_of}
use Rattle.kn_refinement.specs.Fits.{HasLeft}

-- the refusal is in the list from the server to the client
abbrev pub IsOnItsWay : ℕ → List Packet → Type 0
IsOnItsWay number packets = (connect_id random : ℤ) × (number_of random ≡ number) × IsIn (DialRsp (codes "no agent available") connect_id random) packets

abbrev pub IsToldBy : ℕ → Client → Type 0
IsToldBy number x = (x.at_client ≡ false) ⊎ IsOnItsWay number x.down

-- an app by CONNECT was answered at once. One of a client waits no more for its dial, its client has lost the stream, or the refusal is on its way to it
abbrev pub IsRefusedAt : Home → List Client → Stage → List ℕ → Type 0
IsRefusedAt home.Connect clients noted error = HasLeft noted × (error ≡ status_and_reason 503)
IsRefusedAt (home.Client c number) clients noted error = (noted ≢ stage.Dialling) ⊎ ((x : Client) × (nth c clients ≡ Some x) × IsToldBy number x)

-- each app with a choice that has no answer
abbrev pub RefusesUnanswered : State → Type 0
RefusesUnanswered s = (c : AppChoice) → IsIn c s.choices → c.choice.answer ≡ None → (a : App) → nth c.app s.apps ≡ Some a → IsRefusedAt a.home s.clients a.stage a.error
