-- Huffman text as it is read, bit by bit, over the tree of the codes: two entries for each inner node, the root
-- first. An entry below 256 is a node, others are 256 and a symbol. The node after k one bits is node k, for k up to 7.
use Rattle.std.specs.Prelude.{ℕ, ◌+◌, ◌*◌, ◌-◌, ◌==◌, List, [], ◌∷◌, ◌++◌, nat_lt, slice_index, Result, Ok, Err, if◌then◌else◌}
use Rattle.kn_hpack.specs.Faults.{◌>>=◌}
use Rattle.kn_hpack.specs.declared.fault.HpackReason.{HpackReason}
use Rattle.kn_hpack.specs.declared.fault.HpackReason.TheVariants.{Eos, Padding}
use Rattle.kn_hpack.specs.declared.tree.TheConstants.{TREE}

unfoldable pub entry_at : ℕ → ℕ
entry_at place = slice_index TREE place

-- what stands behind a bit at a node
unfoldable pub child : ℕ → ℕ → ℕ
child node bit = entry_at (2 * node + bit)

-- a node, or the root and one more symbol
abbrev pub landing : List ℕ → ℕ → Result (ℕ × List ℕ) HpackReason
landing text c = if nat_lt c 256 then Ok (c, text) else (if c == 512 then Err Eos else Ok (0, text ++ (c - 256) ∷ []))

-- from a node, with the text so far, along these bits
unfoldable pub walk : ℕ → List ℕ → List ℕ → Result (ℕ × List ℕ) HpackReason
walk node text [] = Ok (node, text)
walk node text (b ∷ bs) = landing text (child node b) >>= λ x. walk x.0 x.1 bs

-- the text of all of the bits
unfoldable pub text_of : List ℕ → Result (List ℕ) HpackReason
text_of bs = walk 0 [] bs >>= λ x. if nat_lt x.0 8 then Ok x.1 else Err Padding
