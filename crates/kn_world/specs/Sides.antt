-- What happens to one side of a tunnel.
use Rattle.std.specs.Prelude.{ℕ, Bool, true, List}
use Rattle.kn_world.specs.declared.parts.Side.{Side}
use Rattle.kn_world.specs.Flows.{with_more, passed_on}

-- its node writes bytes to it, and it takes some
abbrev pub written : List ℕ → Side → Side
written bytes s = record s { coming = with_more bytes s.coming }

abbrev pub took : ℕ → Side → Side
took count s = record s { coming = passed_on count s.coming }

-- it sends bytes, and its node is given some
abbrev pub sent : List ℕ → Side → Side
sent bytes s = record s { sending = with_more bytes s.sending }

abbrev pub handed : ℕ → Side → Side
handed count s = record s { sending = passed_on count s.sending }

-- it ends its sending, and its node is told so
abbrev pub ended : Side → Side
ended s = record s { ended = true }

abbrev pub end_told : Side → Side
end_told s = record s { end_given = true }

-- it takes nothing, or takes freely
abbrev pub holding : Bool → Side → Side
holding held s = record s { held = held }
