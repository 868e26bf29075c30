-- What a header block gives (RFC 7541), and the table after it.
use Rattle.std.specs.Prelude.{◌≡◌, ℕ, List, [], Result, Ok, Err}
use Rattle.kn_hpack.specs.Fields.{Field, Table, table_of}
use Rattle.kn_hpack.specs.Blocks.{read_block, progress}
use Rattle.kn_h2_state.specs.declared.head_decoder.HeadError.{HeadError}
use Rattle.kn_h2_state.specs.declared.head_decoder.HeadError.TheVariants.{NoMemory, Fault}

-- the table of a decoder before its first block: empty, with the limit of SETTINGS_HEADER_TABLE_SIZE
abbrev pub first_table : Table
first_table = table_of 4096 []

-- the fields and the new table, or the first fault of the block
abbrev pub ReadsBlock : Table → List ℕ → Result (List Field) HeadError → Table → Type 0
ReadsBlock t block (Ok fields) new = read_block t block ≡ Ok (progress new fields)
ReadsBlock t block (Err (Fault f)) new = (read_block t block ≡ Err f) × (new ≡ first_table)
ReadsBlock t block (Err NoMemory) new = new ≡ first_table
