-- Which link a dial goes to, and when there is none.
use Rattle.std.specs.Prelude.{◌≡◌, ℕ, ℤ, nat_lt, true, List, Some, None, Result, Ok, Err, codes}
use Rattle.kn_route.specs.declared.strategy.Strategy.{Strategy}
use Rattle.kn_route.specs.Choice.{pick}
use Rattle.kn_route.specs.Hosts.{host_in}
use Rattle.kn_tables.specs.Lists.{first_where}
use Rattle.kn_tables.specs.Awaiting.{is_random}
use Rattle.kn_server_core.specs.declared.state.State.{State}
use Rattle.kn_server_core.specs.Server.{tunnels_of, is_tcp, dial_choice}

-- the link is the one that the strategies pick for the address and the next dial among the links that are up
abbrev pub IsPicked : State → List ℕ → ℕ → Type 0
IsPicked s address link =
    (host : List ℕ) × (strategy : Strategy) × (host_in address ≡ Ok host)
    × (pick s.strategies s.links.links host s.next_dial ≡ Some (strategy, link))

-- they pick none
abbrev pub FindsNone : State → List ℕ → Type 0
FindsNone s address = (host : List ℕ) × (host_in address ≡ Ok host) × (pick s.strategies s.links.links host s.next_dial ≡ None)

-- a dial that is refused for no other reason comes to the choice of a link
pub record ReachesChoice (s : State) (front : ℕ) (protocol : List ℕ) (random : ℤ) : Type 0 where
  pub new : first_where (is_random front random) s.awaited ≡ None
  pub by_tcp : is_tcp protocol ≡ true
  pub few : nat_lt (tunnels_of s front) 600 ≡ true

abbrev pub no_agent_available : Result ℕ (List ℕ)
no_agent_available = Err (codes "no agent available")

-- a dial that is sent goes to the link that is picked
abbrev pub GoesWherePicked : State → ℕ → List ℕ → List ℕ → ℤ → Type 0
GoesWherePicked s front protocol address random = (link : ℕ) → dial_choice s front protocol address random ≡ Ok link → IsPicked s address link

-- one that comes to the choice is refused as no agent is available where none is picked
abbrev pub IsRefusedWhereNone : State → ℕ → List ℕ → List ℕ → ℤ → Type 0
IsRefusedWhereNone s front protocol address random =
    ReachesChoice s front protocol random → FindsNone s address → dial_choice s front protocol address random ≡ no_agent_available

-- and nowhere else
abbrev pub IsRefusedNowhereElse : State → ℕ → List ℕ → List ℕ → ℤ → Type 0
IsRefusedNowhereElse s front protocol address random =
    dial_choice s front protocol address random ≡ no_agent_available → ReachesChoice s front protocol random × FindsNone s address
