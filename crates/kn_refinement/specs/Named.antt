-- The links that a choice names, in a world that runs.
use Rattle.std.specs.Prelude.{◌≡◌, ◌==◌, ℕ, Bool, false, map, Option, None, Some}
use Rattle.std.specs.List.{list_any}
use Rattle.kn_route.specs.LinkLists.{mark_of}
use Rattle.kn_server_core.specs.Choices.{choice_at}
use Rattle.kn_server_core.specs.declared.choice.Choice.{Choice}
use Rattle.kn_server_core.specs.declared.event.ServerEvent.{ServerEvent}
use Rattle.kn_world.specs.declared.parts.Agent.{Agent}
use Rattle.kn_world.specs.declared.state.State.{State}
use Rattle.kn_world.specs.Numbers.{nth}

-- a choice names the link of this number
abbrev pub names : ℕ → Choice → Bool
names link c = list_any (λ (mark : ℕ × Bool). mark.0 == link) c.links

-- the agent has come, and the server has not lost its link
abbrev pub is_up_link : Option Agent → Bool
is_up_link None = false
is_up_link (Some a) = a.at_server

-- a choice has the server's links with their draining marks, which are those of all agents whose links are up
pub record NamesAllUp (s : State) (c : Choice) : Type 0 where
  pub marks : c.links ≡ map mark_of s.server.links.links
  pub up : (link : ℕ) → names link c ≡ is_up_link (nth link s.agents)

-- so does each choice that the world's server may come to
abbrev pub ChoicesNameAllUp : State → Type 0
ChoicesNameAllUp s = (event : ServerEvent) (c : Choice) → choice_at s.server event ≡ Some c → NamesAllUp s c
