-- How many bytes of its peer a connection of the server lacks to the end of what is under way on it.
use Rattle.std.specs.Prelude.{ℕ, Option, Some, None}
use Rattle.kn_ends.specs.Missing as carriers
use Rattle.kn_rising.specs.Members.{at}
use Rattle.kn_server_node.specs.declared.end.End.{End}
use Rattle.kn_server_node.specs.declared.end.End.TheVariants.{Streams, Connect}
use Rattle.kn_server_node.specs.declared.node.Node.{Node}

-- what is left of the preface, of the head of a frame, or of its payload. A connection that speaks CONNECT has no
-- frames: each byte stands by itself, as of one that is not kept
abbrev pub missing : Option End → ℕ
missing None = 1
missing (Some (Streams for_agents carrier)) = carriers.missing carrier
missing (Some (Connect door)) = 1

abbrev pub missing_of : Node → ℕ → ℕ
missing_of node conn = missing (at node.ends conn)
