-- Bytes that wait for the socket, as runs of one kind.
use Rattle.std.specs.Prelude.{◌≡◌, ℕ, Bool, List, [], ◌∷◌, ◌++◌, length, replicate}
use Rattle.kn_h2_state.specs.declared.run.Run.{Run}
use Rattle.kn_h2_state.specs.Outgoing.{count_true}

-- for each byte whether it is of a reply frame
unfoldable pub marks : List Run → List Bool
marks [] = []
marks (run ∷ runs) = replicate run.length run.reply ++ marks runs

-- each byte stands in a run, and the bytes of reply frames are counted
pub record IsOutgoing (bytes : List ℕ) (runs : List Run) (count : ℕ) : Type 0 where
  pub long : length (marks runs) ≡ length bytes
  pub counted : count ≡ count_true (marks runs)
