-- What the answers of a port say so far of one connection, and when there is nothing to do but to wait.
use Rattle.std.specs.Prelude.{◌≡◌, ℕ, ◌==◌, Bool, true, false, not, ◌&&◌, ◌||◌, List, [], ◌∷◌, Option, None, Some, if◌then◌else◌}
use Rattle.std.specs.Option.{option_map}
use Rattle.kn_port.specs.declared.names.Gate.{Gate}
use Rattle.kn_port.specs.declared.names.Ready.{Ready}
use Rattle.kn_port.specs.declared.names.Ready.TheVariants as ready
use Rattle.kn_port.specs.declared.names.Accepted.{Accepted}
use Rattle.kn_port.specs.declared.names.Accepted.TheVariants as accepted
use Rattle.kn_port.specs.declared.names.Dialled.{Dialled}
use Rattle.kn_port.specs.declared.names.Dialled.TheVariants as dialled
use Rattle.kn_port.specs.declared.names.DialEnd.{DialEnd}
use Rattle.kn_port.specs.declared.names.DialEnd.TheVariants as dial_end
use Rattle.kn_port.specs.declared.names.PortGot.{PortGot}
use Rattle.kn_port.specs.declared.names.PortGot.TheVariants as got
use Rattle.kn_port.specs.declared.names.Took.{Took}
use Rattle.kn_port.specs.declared.names.Took.TheVariants as took
use Rattle.kn_port.specs.declared.entry.Entry.{Entry}
use Rattle.kn_port.specs.declared.entry.Entry.TheVariants as entry
use Rattle.kn_loop.specs.declared.line.Line.{Line}

-- a connection that was accepted, or begun; it leads to the server or not
abbrev pub new_line : Bool → Bool → Line
new_line dialling server = record { dialling = dialling; asked = false; read_waits = false; write_waits = false; ended = false; failed = false; is_server = server }

-- a wait names the connection: its answers count no more
abbrev pub line_named : Line → Line
line_named l = record l { asked = true; read_waits = false; write_waits = false }

abbrev pub line_read : PortGot → Line → Line
line_read (got.Bytes n) l = record l { read_waits = false }
line_read got.NotYet l = record l { read_waits = true }
line_read got.End l = record l { read_waits = false; ended = true }
line_read got.Failed l = record l { read_waits = false; failed = true }
line_read got.NoMemory l = l

abbrev pub line_wrote : Took → Line → Line
line_wrote (took.Bytes n) l = record l { write_waits = false }
line_wrote took.NotYet l = record l { write_waits = true }
line_wrote took.Failed l = record l { write_waits = false; failed = true }
line_wrote took.NoMemory l = l

abbrev pub line_dialled : DialEnd → Line → Line
line_dialled dial_end.Up l = record l { dialling = false; asked = true; read_waits = false }
line_dialled dial_end.NotYet l = record l { asked = true; read_waits = true }
line_dialled dial_end.Failed l = record l { asked = true; read_waits = false; failed = true }
line_dialled dial_end.NoMemory l = l

-- the change at one connection, of what is known of the connection c
abbrev pub at_conn : ℕ → (Line → Line) → ℕ → Option Line → Option Line
at_conn n f c l = if n == c then option_map f l else l

-- a wait names each of these
abbrev pub named_one : Ready → ℕ → Option Line → Option Line
named_one (ready.Conn n) c l = at_conn n line_named c l
named_one (ready.Gate g) c l = l

abbrev pub named_from : List Ready → ℕ → Option Line → Option Line
named_from [] c l = l
named_from (r ∷ rs) c l = named_from rs c (named_one r c l)

abbrev pub begun : ℕ → Bool → ℕ → Option Line → Option Line
begun n d c l = if n == c then Some (new_line d false) else l

abbrev pub accepted_at : Accepted → ℕ → Option Line → Option Line
accepted_at (accepted.Conn n) c l = begun n false c l
accepted_at accepted.NotYet c l = l
accepted_at accepted.Failed c l = l
accepted_at accepted.NoMemory c l = l

abbrev pub dialled_at : Dialled → ℕ → Option Line → Option Line
dialled_at (dialled.Conn n) c l = begun n true c l
dialled_at dialled.Failed c l = l
dialled_at dialled.NoMemory c l = l

-- what is known of the connection c after one more entry of the journal
abbrev pub line_after : Entry → ℕ → Option Line → Option Line
line_after (entry.Listen gate address answer) c l = l
line_after (entry.Wait names answer) c l = named_from names c l
line_after (entry.Accept gate answer) c l = accepted_at answer c l
line_after (entry.Dial address answer) c l = dialled_at answer c l
line_after (entry.DialEnd n answer) c l = at_conn n (line_dialled answer) c l
line_after (entry.Read n room bytes answer) c l = at_conn n (line_read answer) c l
line_after (entry.Write n given bytes answer) c l = at_conn n (line_wrote answer) c l
line_after (entry.Shut n) c l = if n == c then None else l

abbrev pub lines_from : List Entry → ℕ → Option Line → Option Line
lines_from [] c l = l
lines_from (e ∷ es) c l = lines_from es c (line_after e c l)

-- the end of its dial may be asked for, its bytes may be read, bytes may be written on it
abbrev pub line_may_ask : Line → Bool
line_may_ask l = l.dialling && not l.failed

abbrev pub line_may_read : Line → Bool
line_may_read l = not l.dialling && not l.ended && not l.failed

abbrev pub line_may_write : Line → Bool
line_may_write l = not l.dialling && not l.failed

-- nothing to do at this connection but to wait, where the node wants its bytes or not and has bytes for it or not
abbrev pub line_is_settled : Line → Bool → Bool → Bool
line_is_settled l wants has_out =
    if l.failed then true
    else if l.dialling then l.read_waits || not l.asked
    else (l.ended || l.read_waits || not wants) && (l.write_waits || not has_out)
