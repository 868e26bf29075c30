-- What the values of options have to be.
use Rattle.std.specs.Prelude.{◌≡◌, ℕ, Bool, true, nat_le, List, [], length, Option, Some, None, Ok, is_ok, unwrap_or, codes}
use Rattle.clap.specs.Walk.{Row, first_of}
use Rattle.kn_route.specs.Hosts.{host_in}
use Rattle.kn_route.specs.Identifiers.{identifiers_in}
use Rattle.kn_route.specs.Strategies.{strategies_in}
use Rattle.kn_options.specs.Numbers.{number_in}
use Rattle.kn_options.specs.declared.options.ServerOptions.{ServerOptions}
use Rattle.kn_options.specs.declared.options.AgentOptions.{AgentOptions}
use Rattle.kn_options.specs.declared.options.ClientOptions.{ClientOptions}

-- the number of an option: 0 where it was left out
abbrev pub number_or_zero : Option (List ℕ) → Option ℕ
number_or_zero None = Some 0
number_or_zero (Some word) = number_in word

-- the name of a server or an agent has at most 1,024 bytes
abbrev pub is_id : List ℕ → Bool
is_id text = nat_le (length text) 1024

-- the values of the options of `server`, with what stands for those that are left out
pub record IsServer (values : List Row) (o : ServerOptions) : Type 0 where
  pub agents : first_of (codes "agents") values ≡ Some o.agents
  pub clients : first_of (codes "clients") values ≡ Some o.clients
  pub connect : first_of (codes "connect") values ≡ o.connect
  pub strategies : strategies_in (unwrap_or (first_of (codes "strategies") values) (codes "default")) ≡ Ok o.strategies
  pub id : o.id ≡ unwrap_or (first_of (codes "id") values) (codes "server")
  pub id_limit : is_id o.id ≡ true
  pub tunnels : number_or_zero (first_of (codes "tunnels") values) ≡ Some o.tunnels
  pub turns : number_or_zero (first_of (codes "turns") values) ≡ Some o.turns

-- the values of the options of `agent`
pub record IsAgent (values : List Row) (o : AgentOptions) : Type 0 where
  pub server : first_of (codes "server") values ≡ Some o.server
  pub id : o.id ≡ unwrap_or (first_of (codes "id") values) (codes "agent")
  pub id_limit : is_id o.id ≡ true
  pub identifiers : o.identifiers ≡ unwrap_or (first_of (codes "identifiers") values) []
  pub identifiers_form : is_ok (identifiers_in o.identifiers) ≡ true
  pub drain : number_or_zero (first_of (codes "drain") values) ≡ Some o.drain
  pub tunnels : number_or_zero (first_of (codes "tunnels") values) ≡ Some o.tunnels
  pub turns : number_or_zero (first_of (codes "turns") values) ≡ Some o.turns

-- the values of the options of `client`
pub record IsClient (values : List Row) (o : ClientOptions) : Type 0 where
  pub server : first_of (codes "server") values ≡ Some o.server
  pub listen : first_of (codes "listen") values ≡ Some o.listen
  pub address : first_of (codes "address") values ≡ Some o.address
  pub address_form : is_ok (host_in o.address) ≡ true
  pub tunnels : number_or_zero (first_of (codes "tunnels") values) ≡ Some o.tunnels
  pub turns : number_or_zero (first_of (codes "turns") values) ≡ Some o.turns
