-- The identifiers of an agent: URL-encoded pairs, as `host=db&ipv4=10.0.0.1`.
use Rattle.std.specs.Prelude.{◌≡◌, ℕ, ◌+◌, nat_lt, List, [], ◌∷◌, ◌++◌, length, map, Option, Some, None, Result, Ok, Err, ⊤, if◌then◌else◌}
use Rattle.std.specs.Str.Lossy.{utf8_lossy}
use Rattle.form_urlencoded.specs.Form.{raw_pairs, decode}
use Rattle.kn_route.specs.declared.id_kind.IdKind.{IdKind}
use Rattle.kn_route.specs.declared.identifiers.IdFault.{IdFault}
use Rattle.kn_route.specs.declared.identifiers.IdFault.TheVariants.{NoMemory, TooLong, Kind}
use Rattle.kn_route.specs.Kinds.{kind_named}
use Rattle.kn_route.specs.Steps.{steps}

-- a name and a value as a form spells them: `+` is a space, `%` and two digits are a byte, and each
-- sequence that is not UTF-8 is U+FFFD (URL Standard, section 5.1)
abbrev pub decoded : List ℕ × List ℕ → List ℕ × List ℕ
decoded (name, value) = (utf8_lossy (decode name), utf8_lossy (decode value))

-- the pairs with one more of this kind, or that a name is of none; pairs are counted from 1
abbrev pub with_kind : List (IdKind × List ℕ) → Option IdKind → List ℕ → Result (List (IdKind × List ℕ)) IdFault
with_kind before None value = Err (Kind (length before + 1))
with_kind before (Some kind) value = Ok (before ++ (kind, value) ∷ [])

-- the pairs with one more
abbrev pub with_pair : List (IdKind × List ℕ) → List ℕ × List ℕ → Result (List (IdKind × List ℕ)) IdFault
with_pair before (name, value) = with_kind before (kind_named name) value

-- the pairs that a text of any length spells, or the first whose name is of no kind
unfoldable pub long_identifiers_in : List ℕ → Result (List (IdKind × List ℕ)) IdFault
long_identifiers_in text = steps with_pair [] (map decoded (raw_pairs text))

-- the same of a text of at most 10,240 bytes
unfoldable pub identifiers_in : List ℕ → Result (List (IdKind × List ℕ)) IdFault
identifiers_in text = if nat_lt 10240 (length text) then Err TooLong else long_identifiers_in text

-- the fault is the expected one, or that memory was wanting
abbrev pub IsFaultOf : Result (List (IdKind × List ℕ)) IdFault → IdFault → Type 0
IsFaultOf expected NoMemory = ⊤
IsFaultOf expected TooLong = expected ≡ Err TooLong
IsFaultOf expected (Kind pair) = expected ≡ Err (Kind pair)

-- the answer is the expected one, or that memory was wanting
abbrev pub IsIdentifiersAnswer : Result (List (IdKind × List ℕ)) IdFault → Result (List (IdKind × List ℕ)) IdFault → Type 0
IsIdentifiersAnswer expected (Ok pairs) = expected ≡ Ok pairs
IsIdentifiersAnswer expected (Err fault) = IsFaultOf expected fault
