use Rattle.std.proofs.Common.{◌≡◌, ◌++◌, drop, filter}
use Rattle.kn_server_node.specs.Callers.{counts}
use Rattle.kn_server_node.proofs.limits.counting.Given as goal

-- those before that count are kept
abbrev pub invariant-loop-place : goal.invariant-loop-place
invariant-loop-place l = l.kept ++ filter (counts l.ends) (drop l.place-index l.place-items) ≡ filter (counts l.fn.ends) l.fn.places
