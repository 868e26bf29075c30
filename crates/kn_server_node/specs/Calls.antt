-- The calls of the server node.
use Rattle.std.specs.Prelude.{◌≡◌, ℕ, Bool, false, not, ◌&&◌, List, [], ◌∷◌, ◌++◌, Option, Some, None}
use Rattle.kn_route.specs.declared.strategy.Strategy.{Strategy}
use Rattle.kn_server_core.specs.Server as server
use Rattle.kn_ends.specs.Carriers.{fed_with, is_live}
use Rattle.kn_rising.specs.Members.{at, inserted, none}
use Rattle.kn_server_node.specs.declared.end.End.{End}
use Rattle.kn_server_node.specs.declared.end.End.TheVariants.{Streams, Connect}
use Rattle.kn_server_node.specs.declared.kind.ServerKind.{ServerKind}
use Rattle.kn_server_node.specs.declared.node.Node.{Node}
use Rattle.kn_server_node.specs.Doors as door
use Rattle.kn_server_node.specs.Ends as one
use Rattle.kn_server_node.specs.Nodes.{on_end, door_waits}
use Rattle.kn_server_node.specs.Callers.{collect, DoorHears}
use Rattle.kn_server_node.specs.Steps.{losses_at, Settles}

-- no connection yet, at a server that is one of so many behind its address
abbrev pub start : List Strategy → List ℕ → ℕ → Node
start strategies id count = record {
  core = server.start strategies;
  ends = none;
  top = 0;
  links = none;
  fronts = none;
  past_links = [];
  past_fronts = [];
  told = [];
  todo = [];
  stirred = [];
  handled = 0;
  gone = 0;
  choices = [];
  id = id;
  count = count;
}

-- ---- what the node answers of a connection. One that it does not keep wants nothing, has nothing out, shuts, and is bare

-- bytes of it are wanted: a connection with streams waits for nothing, and a door for its early bytes and its link
abbrev pub wants_on : Node → Option End → Bool
wants_on node None = false
wants_on node (Some (Streams for_agents carrier)) = is_live carrier
wants_on node (Some (Connect d)) = door.has_room d && not (door_waits node d.front d.dial)

abbrev pub wants_of : Node → ℕ → Bool
wants_of node conn = wants_on node (at node.ends conn)

abbrev pub out_of : Node → ℕ → List ℕ
out_of node conn = one.out (at node.ends conn)

abbrev pub shuts_of : Node → ℕ → Bool
shuts_of node conn = one.shuts (at node.ends conn)

abbrev pub bare_of : Node → ℕ → Bool
bare_of node conn = one.is_bare (at node.ends conn)

-- ---- calls

pub data Called : Type 0 where
  -- a connection of a new number began
  Opened : ℕ → ServerKind → Called
  -- bytes came on it
  Bytes : ℕ → List ℕ → Called
  -- so many bytes went to its socket
  Took : ℕ → ℕ → Called
  -- it ended or failed
  Lost : ℕ → Called

abbrev pub fed : ℕ → List ℕ → Node → Node
fed conn piece node = collect conn (on_end conn (one.on_carrier (fed_with piece)) node)

-- a piece of bytes: a connection with streams tells what is in them
abbrev pub HearsBytes : ℕ → List ℕ → Option End → Node → Node → Type 0
HearsBytes conn piece None old new = new ≡ old
HearsBytes conn piece (Some (Streams for_agents carrier)) old new = new ≡ fed conn piece old
HearsBytes conn piece (Some (Connect d)) old new = DoorHears conn piece d.front (Some (Connect d)) old new

-- what the call itself does
abbrev pub Does : Node → Called → Node → Type 0
Does old (Opened conn kind) new = new ≡ record old { ends = inserted old.ends conn (one.fresh_end kind); top = conn; stirred = old.stirred ++ conn ∷ [] }
Does old (Bytes conn piece) new = HearsBytes conn piece (at old.ends conn) old new
Does old (Took conn count) new = new ≡ on_end conn (one.took count) old
Does old (Lost conn) new = new ≡ record (on_end conn one.lost old) { todo = losses_at (at old.ends conn) old.todo }

-- a call: what it does itself, and then steps until none is left
abbrev pub Handling : Node → Called → Node → Type 0
Handling old call new = (mid : Node) × Does old call mid × Settles mid new
