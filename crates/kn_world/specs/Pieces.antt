-- In what pieces a node is given bytes.
use Rattle.std.specs.Prelude.{ℕ, ◌+◌, ◌/◌, ◌%◌, min}

-- how many pieces of at most 16,384 bytes so many bytes make
abbrev pub pieces : ℕ → ℕ
pieces count = count / 16384 + min (count % 16384) 1
