-- The header blocks of one encoder, and the decoder that reads them in their order.
use Rattle.std.specs.Prelude.{◌≡◌, ◌+◌, ◌≤◌, Bool, true, false, List, [], length, Ok}
use Rattle.kn_hpack.specs.Fields.{Field, Table, table_of, total}
use Rattle.kn_hpack.specs.Blocks.{progress, read_block}
use Rattle.kn_hpack.specs.Encoding.{block_of}
use Rattle.kn_hpack.specs.RoundTrip.{IsSmallList}

-- no field is kept, and none may be
abbrev pub no_table : Table
no_table = table_of 0 []

-- A decoder is in step with an encoder: before the first block whatever it has, and afterwards it keeps nothing.
abbrev pub IsInStep : Bool → Table → Type 0
IsInStep false t = Unit {0}
IsInStep true t = t ≡ no_table

-- It reads the encoder's next block as the list that this was made of, and is then in step with it.
abbrev pub NextIsRead : Type 0
NextIsRead = (wrote : Bool) (t : Table) (fields : List Field) → IsSmallList fields → IsInStep wrote t → read_block t (block_of wrote fields) ≡ Ok (progress no_table fields)

-- An encoder's block is at most one byte longer than what its list counts.
abbrev pub OwnBlocksAreShort : Type 0
OwnBlocksAreShort = (wrote : Bool) (fields : List Field) → length (block_of wrote fields) ≤ 1 + total fields
