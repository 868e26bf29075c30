-- What it means that a report says `quiet yes`.
use Rattle.std.specs.Prelude.{◌≡◌, ℕ, List, [], Some}
use Rattle.kn_packets.specs.Outcome.{IsQuiet}
use Rattle.kn_world.specs.declared.parts.App.{App}
use Rattle.kn_world.specs.declared.parts.Client.{Client}
use Rattle.kn_world.specs.declared.state.State.{State}
use Rattle.kn_world.specs.Numbers.{nth}
use Rattle.kn_refinement.specs.Shown.{shown}

-- nothing is on the way on a client's stream, and if one end lost it the other did too
pub record HasQuietStream (x : Client) : Type 0 where
  pub up : x.up ≡ []
  pub down : x.down ≡ []
  pub lost : x.at_server ≡ x.at_client

pub record IsAtRest (s : State) : Type 0 where
  -- between server and agents nothing is on the way, no agent has a dial or a connection that lingers, and a link that one end lost the other lost too
  pub links : IsQuiet (shown s)
  pub streams : (c : ℕ) (x : Client) → nth c s.clients ≡ Some x → HasQuietStream x
  -- the server has taken all that apps by CONNECT gave it
  pub early : (k : ℕ) (a : App) → nth k s.apps ≡ Some a → a.door.early ≡ []
