-- What a front holds between two pieces.
use Rattle.std.specs.Prelude.{◌≡◌, ℕ, ◌<◌, ◌≤◌, List, [], length, Result, Ok, Err, ⊤}
use Rattle.kn_connect.specs.declared.answer.ConnectError.{ConnectError}
use Rattle.kn_connect.specs.declared.answer.ConnectAnswer.{ConnectAnswer}
use Rattle.kn_connect.specs.declared.answer.ConnectAnswer.TheVariants.{More, Head}
use Rattle.kn_connect.specs.declared.deciding.State.{State}
use Rattle.kn_connect.specs.Places.{EndsAt}

-- fewer bytes than decide, which end at the place
pub record IsSound (s : State) : Type 0 where
  pub short : length s.bytes < 8192
  pub place : EndsAt s.bytes s.place

-- bytes are cut after the first 8,192 of them, or at their end
pub record IsCut (first beyond : List ℕ) : Type 0 where
  pub short : length first ≤ 8192
  pub rest : length first < 8192 → beyond ≡ []

-- P, where more bytes are wanted
abbrev pub OnMore : Result ConnectAnswer ConnectError → Type 0 → Type 0
OnMore (Ok More) P = P
OnMore (Ok (Head target early)) P = ⊤
OnMore (Err e) P = ⊤

-- where more bytes are wanted, all so far are held
abbrev pub IsStillOpen : Result ConnectAnswer ConnectError → List ℕ → List ℕ → State → Type 0
IsStillOpen result first beyond new = OnMore result ((new.bytes ≡ first) × (beyond ≡ []) × IsSound new)
