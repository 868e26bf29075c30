-- Dials that wait to be handed out.
use Rattle.std.specs.Prelude.{ℕ, ◌==◌, Bool, not}
use Rattle.kn_agent_node.specs.declared.request.Request.{Request}

abbrev pub is_other_dial : ℕ → Request → Bool
is_other_dial ticket r = not (r.ticket == ticket)
