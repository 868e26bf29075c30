-- How much a connection keeps of the header fields of its peer (RFC 7541, sections 4.1 and 4.2).
use Rattle.std.specs.Prelude.{◌≤◌}
use Rattle.kn_hpack.specs.Fields.{Table, total}
use Rattle.kn_h2_courses.specs.Courses.{OfEveryLife}

-- The fields count at most the table's limit, and this is at most SETTINGS_HEADER_TABLE_SIZE, which is never raised from
-- its initial value.
pub record IsSmallTable (t : Table) : Type 0 where
  pub fields : total t.fields ≤ t.limit
  pub limit : t.limit ≤ 4096

-- the table of the decoder, whatever is done with the connection, and also after it has failed
abbrev pub TablesAreSmall : Type 0
TablesAreSmall = OfEveryLife (λ n role c. IsSmallTable c.connection.state.decoder)
