-- What is left of a line after a cut at a space.
use Rattle.std.specs.Prelude.{ℕ, List, [], Option}
use Rattle.std.specs.Borrow.{Bor}
use Rattle.std.specs.Option.{option_map_or}
use Rattle.kn_script.specs.Lines.{pieces_of}

-- the pieces of the text that is left, none where nothing is left
abbrev pub pieces_left : Option (Bor (List ℕ)) → List (List ℕ)
pieces_left left = option_map_or (λ text. pieces_of text.now) left []
