-- Bytes on their way between a side of a tunnel and its node.
use Rattle.std.specs.Prelude.{ℕ, List, [], ◌++◌, take, drop}

-- those that passed, and those that wait
pub record Passing : Type 0 where
  pub passed : List ℕ
  pub waiting : List ℕ

abbrev pub no_bytes : Passing
no_bytes = record { passed = []; waiting = [] }

-- bytes come, behind those that wait
abbrev pub with_more : List ℕ → Passing → Passing
with_more bytes flow = record { passed = flow.passed; waiting = flow.waiting ++ bytes }

-- so many of those that wait pass, or all where they are fewer
abbrev pub passed_on : ℕ → Passing → Passing
passed_on count flow = record { passed = flow.passed ++ take count flow.waiting; waiting = drop count flow.waiting }
