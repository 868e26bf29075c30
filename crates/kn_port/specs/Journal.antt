-- The journal of a port: an entry for each call that did something.
use Rattle.std.specs.Prelude.{◌≡◌, ℕ, ◌==◌, Bool, true, false, if◌then◌else◌, List, [], ◌∷◌, ◌++◌, length, take, ⊤, Option, None, Some}
use Rattle.kn_port.specs.declared.names.Gate.{Gate}
use Rattle.kn_port.specs.declared.names.Ready.{Ready}
use Rattle.kn_port.specs.declared.names.Listened.{Listened}
use Rattle.kn_port.specs.declared.names.Listened.TheVariants as listened
use Rattle.kn_port.specs.declared.names.Waited.{Waited}
use Rattle.kn_port.specs.declared.names.Waited.TheVariants as waited
use Rattle.kn_port.specs.declared.names.Accepted.{Accepted}
use Rattle.kn_port.specs.declared.names.Accepted.TheVariants as accepted
use Rattle.kn_port.specs.declared.names.Dialled.{Dialled}
use Rattle.kn_port.specs.declared.names.Dialled.TheVariants as dialled
use Rattle.kn_port.specs.declared.names.DialEnd.{DialEnd}
use Rattle.kn_port.specs.declared.names.DialEnd.TheVariants as dial_end
use Rattle.kn_port.specs.declared.names.PortGot.{PortGot}
use Rattle.kn_port.specs.declared.names.PortGot.TheVariants as got
use Rattle.kn_port.specs.declared.names.Took.{Took}
use Rattle.kn_port.specs.declared.names.Took.TheVariants as took
pub use Rattle.kn_port.specs.declared.entry.Entry.{Entry}
use Rattle.kn_port.specs.declared.entry.Entry.TheVariants as entry

-- a journal that is told grows by these entries, and one that is not told stays so
abbrev pub Tells : Option (List Entry) → Option (List Entry) → List Entry → Type 0
Tells None None es = ⊤
Tells None (Some ys) es = ⊥
Tells (Some xs) None es = ⊥
Tells (Some xs) (Some ys) es = ys ≡ xs ++ es

-- a call that finds no memory leaves no entry
abbrev pub listen_entries : Gate → List ℕ → Listened → List Entry
listen_entries g a listened.Done = entry.Listen g a listened.Done ∷ []
listen_entries g a listened.Failed = entry.Listen g a listened.Failed ∷ []
listen_entries g a listened.NoMemory = []

abbrev pub wait_entries : List Ready → Waited → List Entry
wait_entries named waited.Ready = entry.Wait named waited.Ready ∷ []
wait_entries named waited.Failed = entry.Wait named waited.Failed ∷ []
wait_entries named waited.NoMemory = []

abbrev pub accept_entries : Gate → Accepted → List Entry
accept_entries g (accepted.Conn n) = entry.Accept g (accepted.Conn n) ∷ []
accept_entries g accepted.NotYet = entry.Accept g accepted.NotYet ∷ []
accept_entries g accepted.Failed = entry.Accept g accepted.Failed ∷ []
accept_entries g accepted.NoMemory = []

abbrev pub dial_entries : List ℕ → Dialled → List Entry
dial_entries a (dialled.Conn n) = entry.Dial a (dialled.Conn n) ∷ []
dial_entries a dialled.Failed = entry.Dial a dialled.Failed ∷ []
dial_entries a dialled.NoMemory = []

abbrev pub dial_end_entries : ℕ → DialEnd → List Entry
dial_end_entries c dial_end.Up = entry.DialEnd c dial_end.Up ∷ []
dial_end_entries c dial_end.NotYet = entry.DialEnd c dial_end.NotYet ∷ []
dial_end_entries c dial_end.Failed = entry.DialEnd c dial_end.Failed ∷ []
dial_end_entries c dial_end.NoMemory = []

-- the room as the read left it: what was given stands at its front
abbrev pub read_entries : ℕ → List ℕ → PortGot → List Entry
read_entries c room (got.Bytes n) = entry.Read c (length room) (take n room) (got.Bytes n) ∷ []
read_entries c room got.NotYet = entry.Read c (length room) [] got.NotYet ∷ []
read_entries c room got.End = entry.Read c (length room) [] got.End ∷ []
read_entries c room got.Failed = entry.Read c (length room) [] got.Failed ∷ []
read_entries c room got.NoMemory = []

abbrev pub write_entries : ℕ → List ℕ → Took → List Entry
write_entries c bytes (took.Bytes n) = entry.Write c (length bytes) (take n bytes) (took.Bytes n) ∷ []
write_entries c bytes took.NotYet = entry.Write c (length bytes) [] took.NotYet ∷ []
write_entries c bytes took.Failed = entry.Write c (length bytes) [] took.Failed ∷ []
write_entries c bytes took.NoMemory = []

-- whether a connection is at hand after one more entry: the port gave it, and it was not given up
abbrev pub open_after_accept : Accepted → ℕ → Bool → Bool
open_after_accept (accepted.Conn n) c b = if n == c then true else b
open_after_accept accepted.NotYet c b = b
open_after_accept accepted.Failed c b = b
open_after_accept accepted.NoMemory c b = b

abbrev pub open_after_dial : Dialled → ℕ → Bool → Bool
open_after_dial (dialled.Conn n) c b = if n == c then true else b
open_after_dial dialled.Failed c b = b
open_after_dial dialled.NoMemory c b = b

abbrev pub open_after : Entry → ℕ → Bool → Bool
open_after (entry.Listen gate address answer) c b = b
open_after (entry.Wait names answer) c b = b
open_after (entry.Accept gate answer) c b = open_after_accept answer c b
open_after (entry.Dial address answer) c b = open_after_dial answer c b
open_after (entry.DialEnd n answer) c b = b
open_after (entry.Read n room bytes answer) c b = b
open_after (entry.Write n given bytes answer) c b = b
open_after (entry.Shut n) c b = if n == c then false else b

abbrev pub open_from : List Entry → ℕ → Bool → Bool
open_from [] c b = b
open_from (e ∷ es) c b = open_from es c (open_after e c b)

abbrev pub is_open : List Entry → ℕ → Bool
is_open es c = open_from es c false

-- a connection that is at hand is given up, by exactly one entry; a second time leaves none
abbrev pub shut_entries : ℕ → List Entry → List Entry
shut_entries c es = if is_open es c then entry.Shut c ∷ [] else []

abbrev pub TellsShut : Option (List Entry) → Option (List Entry) → ℕ → Type 0
TellsShut None new c = Tells None new []
TellsShut (Some xs) new c = Tells (Some xs) new (shut_entries c xs)
