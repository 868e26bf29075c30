-- How many bytes of its peer a connection of the agent lacks to the end of what is under way on it.
use Rattle.std.specs.Prelude.{ℕ, ◌==◌, if◌then◌else◌}
use Rattle.kn_ends.specs.Missing.{missing}
use Rattle.kn_agent_node.specs.declared.node.Node.{Node}

-- of the server's connection what is left of the head of a frame, or of its payload; on each other one each byte stands
-- by itself
abbrev pub missing_of : Node → ℕ → ℕ
missing_of node conn = if conn == node.server then missing node.carrier else 1
