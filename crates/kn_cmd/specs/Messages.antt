-- What is told of an input that breaks its grammar.
use Rattle.std.specs.Prelude.{ℕ, List, [], ◌∷◌, ◌++◌, codes}
use Rattle.std.specs.Fmt.{decimal}

-- a label, a number, a reason, and a line feed
abbrev pub place_message : List ℕ → ℕ → List ℕ → List ℕ
place_message label number reason = label ++ decimal number ++ codes ": " ++ reason ++ 10 ∷ []

-- `kn: line N: REASON`
abbrev pub line_message : ℕ → List ℕ → List ℕ
line_message line reason = place_message (codes "kn: line ") line reason

-- `kn: offset N: REASON`
abbrev pub offset_message : ℕ → List ℕ → List ℕ
offset_message offset reason = place_message (codes "kn: offset ") offset reason
