-- A head has a field line for each three bytes at most.
use Rattle.std.proofs.Common.{ℕ, ◌*◌, ◌≤◌, List, [], ◌∷◌, ◌++◌, length, ap, arith, length-append}
use Rattle.std.specs.List.{flat_map, All}
use Rattle.std.proofs.lemmas.List.Elements.{All-head, All-tail}
use Rattle.httparse.specs.Grammar.{LineEnd, crlf, lf, print_end, print_blank, print_version, Field, IsField, print_field, print_section, RequestHead, print_request}
use Rattle.httparse.specs.Spans.{RequestExceeds}
use Rattle.httparse.proofs.GrammarLemmas.{print_request-append}

end_length : (e : LineEnd) → 1 ≤ length (print_end e)
end_length crlf = omega arith
end_length lf = omega arith

-- a name of one byte, a colon and a line feed are the shortest
field_length : (f : Field) → IsField f → 3 ≤ length (print_field f)
field_length f valid =
    let name = valid.name.0 in
    let end = end_length f.end in
    let line = length-append (f.name ++ 58 ∷ f.raw) (print_end f.end) in
    let front = length-append f.name (58 ∷ f.raw) in
    omega arith

pub fields_length : (fs : List Field) → All IsField fs → 3 * length fs ≤ length (flat_map print_field fs)
fields_length [] all = omega arith
fields_length (f ∷ fs) all =
    let first = field_length f (All-head IsField f fs all) in
    let others = fields_length fs (All-tail IsField f fs all) in
    let joined = length-append (print_field f) (flat_map print_field fs) in
    omega arith

at_end : (front rest : List ℕ) → length rest ≤ length (front ++ rest)
at_end front rest = omega (arith, length-append front rest)

-- the field lines stand in the head
head_length : (h : RequestHead) → length (flat_map print_field h.fields) ≤ length (print_request h ++ [])
head_length h =
    let fields = flat_map print_field h.fields in
    let section = print_section h.fields h.last ++ [] in
    let after_version = print_end h.line_end ++ section in
    let after_target = print_version h.minor ++ after_version in
    let after_method = h.target ++ 32 ∷ after_target in
    let line = h.method ++ 32 ∷ after_method in
    let e = ap length (print_request-append h []) in
    let a = at_end (print_blank h.blank) line in
    let b = at_end h.method (32 ∷ after_method) in
    let c = at_end h.target (32 ∷ after_target) in
    let d = at_end (print_version h.minor) after_version in
    let f = at_end (print_end h.line_end) section in
    let g = length-append (print_section h.fields h.last) [] in
    let k = length-append fields (print_end h.last) in
    omega arith

pub room_enough : (bytes : List ℕ) (room : ℕ) → length bytes ≤ 3 * room → RequestExceeds room bytes → ⊥
room_enough bytes room enough (front, rest, joined, h, reads, over) =
    let a = length-append front rest in
    let b = ap length joined in
    let c = length-append front (10 ∷ []) in
    let d = ap length reads.1 in
    let e = head_length h in
    let f = fields_length h.fields reads.0.fields in
    absurd (omega arith)
