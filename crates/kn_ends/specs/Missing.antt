-- How many bytes of its peer a connection lacks to the end of what is under way.
use Rattle.std.specs.Prelude.{ℕ, if◌then◌else◌}
use Rattle.kn_h2.specs.Missing as h2
use Rattle.kn_ends.specs.declared.carrier.Carrier.{Carrier}

-- what is left of the preface, of the head of a frame, or of its payload; of one that was lost or has failed each byte
-- stands by itself
unfoldable pub missing : Carrier → ℕ
missing c = if c.lost then 1 else h2.missing c.conn
