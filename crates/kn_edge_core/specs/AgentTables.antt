-- An agent's dials by rising ticket, and its connections by rising connectID.
use Rattle.std.specs.Prelude.{ℕ, ℤ, pos, negsuc, ◌+◌, ◌-◌, ◌==◌, Bool, List, Option, None}
use Rattle.kn_tables.specs.Lists.{first_where, without, in_place}
use Rattle.kn_edge_core.specs.declared.dial.Dial.{Dial}
use Rattle.kn_edge_core.specs.declared.connection.Connection.{Connection}
use Rattle.kn_edge_core.specs.declared.connection.DestState.{DestState}
use Rattle.kn_edge_core.specs.EntryLists.{changed_where}

abbrev pub is_dial : ℕ → Dial → Bool
is_dial ticket d = d.ticket == ticket

abbrev pub with_dial : Dial → List Dial → List Dial
with_dial d dials = in_place (λ x. x.ticket) d dials

abbrev pub without_dial : ℕ → List Dial → List Dial
without_dial ticket dials = without (is_dial ticket) dials

abbrev pub is_connection : ℕ → Connection → Bool
is_connection number c = c.connect_id == number

-- the connection of a connectID; a negative one is none's
abbrev pub connection_at : ℤ → List Connection → Option Connection
connection_at (pos number) connections = first_where (is_connection number) connections
connection_at (negsuc number) connections = None

abbrev pub with_connection : Connection → List Connection → List Connection
with_connection c connections = in_place (λ x. x.connect_id) c connections

abbrev pub without_connection : ℕ → List Connection → List Connection
without_connection number connections = without (is_connection number) connections

-- a connection goes over to another state
abbrev pub turned : DestState → Connection → Connection
turned state c = record c { state = state }

-- a connection with more bytes, or with fewer bytes, that are still to be written
abbrev pub with_more : ℕ → Connection → Connection
with_more count c = record c { unwritten = c.unwritten + count }

abbrev pub with_fewer : ℕ → Connection → Connection
with_fewer count c = record c { unwritten = c.unwritten - count }

-- the connections, of which the one of a number is changed
abbrev pub connection_changed : ℕ → (Connection → Connection) → List Connection → List Connection
connection_changed number change connections = changed_where (is_connection number) change connections
