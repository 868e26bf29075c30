use Rattle.std.proofs.Common.{◌≡◌, drop}
use Rattle.std.specs.List.{list_any}
use Rattle.kn_h2_state.specs.Heads.{is_unknown, response_names}
use Rattle.kn_h2.proofs.head_tests.has_unknown_in_response.Given as goal

-- no field before this one is it
abbrev pub invariant-loop-index : goal.invariant-loop-index
invariant-loop-index l = list_any (is_unknown response_names) l.headers ≡ list_any (is_unknown response_names) (drop l.index l.headers)
