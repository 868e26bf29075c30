use Rattle.std.proofs.Common.{◌≡◌, ◌++◌, take}
use Rattle.kn_script.specs.Report.{hex_of}
use Rattle.kn_script.proofs.reporting.push_hex.Given as goal

abbrev pub invariant-loop-byte : goal.invariant-loop-byte
invariant-loop-byte l = l.out ≡ l.fn.out ++ hex_of (take l.byte-index l.bytes)
