use Rattle.std.proofs.Common.{◌≡◌, ◌≤◌, drop, Some}
use Rattle.kn_agent_node.specs.Announced.{number_from}
use Rattle.kn_agent_node.proofs.announced.number_in.Given as goal

-- the digits so far spell the number, which is small
abbrev pub invariant-loop-byte : goal.invariant-loop-byte
invariant-loop-byte l = (number_from (Some l.number) (drop l.byte-index l.bytes) ≡ number_from (Some 0) l.fn.bytes) × (l.number ≤ 100)
