use Rattle.std.proofs.Common.{◌≡◌, ◌+◌, ◌≤◌, drop}
use Rattle.kn_server_node.specs.Callers.{count_of}
use Rattle.kn_server_node.proofs.limits.count_of.Given as goal

-- so many of those before count
abbrev pub invariant-loop-place : goal.invariant-loop-place
invariant-loop-place l = record { counted : l.count + count_of l.ends (drop l.place-index l.places) ≡ count_of l.fn.ends l.fn.places; within : l.count ≤ l.place-index }
