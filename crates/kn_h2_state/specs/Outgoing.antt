-- What waits for the socket.
use Rattle.std.specs.Prelude.{ℕ, ◌+◌, Bool, List, [], ◌∷◌, ◌++◌, length, drop, replicate, if◌then◌else◌}

-- the bytes, and beside each whether it is of a reply frame
pub record Out : Type 0 where
  pub bytes : List ℕ
  pub replies : List Bool

abbrev pub nothing_out : Out
nothing_out = record { bytes = []; replies = [] }

-- how many of so many bytes are of reply frames, where all are or none is
abbrev pub reply_part : Bool → ℕ → ℕ
reply_part reply count = if reply then count else 0

unfoldable pub count_true : List Bool → ℕ
count_true [] = 0
count_true (mark ∷ marks) = reply_part mark 1 + count_true marks

-- how many of the bytes are of reply frames
abbrev pub reply_bytes : Out → ℕ
reply_bytes o = count_true o.replies

-- with these bytes at its end
abbrev pub put : Out → Bool → List ℕ → Out
put o reply bytes = record { bytes = o.bytes ++ bytes; replies = o.replies ++ replicate (length bytes) reply }

-- without its first bytes
abbrev pub taken : Out → ℕ → Out
taken o n = record { bytes = drop n o.bytes; replies = drop n o.replies }
