use Rattle.std.proofs.Common.{◌≡◌, drop}
use Rattle.std.specs.List.{list_any}
use Rattle.kn_h2_state.specs.Heads.{has_interim_status}
use Rattle.kn_h2.specs.Blocks.{is_interim}
use Rattle.kn_h2.proofs.status.has_interim_status.Given as goal

-- no field before this one is such a status
abbrev pub invariant-loop-index : goal.invariant-loop-index
invariant-loop-index l = has_interim_status l.headers ≡ list_any is_interim (drop l.index l.headers)
