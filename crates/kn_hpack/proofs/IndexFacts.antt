-- What an index names, and where a field stands in the static table.
use Rattle.std.proofs.Common.{◌≡◌, refl, sym, ◌∙◌, ap, ℕ, suc, zero, ◌+◌, ◌<◌, ◌≤◌, true, false, ◌&&◌, List, [], ◌∷◌, ◌++◌, length, drop, nat_lt, get_or, Option, Some, None, arith}
use Rattle.std.specs.List.{slice_get}
use Rattle.std.proofs.Math.ListN.{drop_of_length-le}
use Rattle.std.proofs.lemmas.Bool.{ltb-true, ltb-false}
use Rattle.std.proofs.lemmas.Option.{slice_get-get_or, slice_get_past}
use Rattle.kn_hpack.specs.Fields.{Field, Table}
use Rattle.kn_hpack.specs.StaticTable.{static_table, place_in, same}
use Rattle.kn_hpack.specs.Indexes.{field_in, field_at}

pub table_long : length static_table ≡ 61
unfolding static_table
table_long = refl

get_front : (xs ys : List Field) (i : ℕ) → i < length xs → slice_get (xs ++ ys) i ≡ slice_get xs i
get_front [] ys i h = absurd (omega arith)
get_front (x ∷ xs) ys zero h = refl
get_front (x ∷ xs) ys (suc i) h = get_front xs ys i (omega arith)

get_back : (xs ys : List Field) (i j : ℕ) → i ≡ length xs + j → slice_get (xs ++ ys) i ≡ slice_get ys j
get_back [] ys i j h = let e : i ≡ j = omega arith in rw e refl
get_back (x ∷ xs) ys zero j h = absurd (omega arith)
get_back (x ∷ xs) ys (suc i) j h = get_back xs ys i j (omega arith)

pub index_zero : (fs : List Field) → field_in fs 0 ≡ None
unfolding field_in
index_zero fs = refl

pub index_static : (fs : List Field) (n i : ℕ) → n ≡ suc i → i < 61 → field_in fs n ≡ slice_get static_table i
unfolding field_in
index_static fs n i e h = rw e (get_front static_table fs i (omega (arith, table_long)))

pub index_dynamic : (fs : List Field) (n j : ℕ) → n ≡ suc (61 + j) → field_in fs n ≡ slice_get fs j
unfolding field_in
index_dynamic fs n j e = rw e (get_back static_table fs (61 + j) j (omega (arith, table_long)))

drop_at : (xs : List Field) (i : ℕ) (x : Field) → slice_get xs i ≡ Some x → drop i xs ≡ x ∷ drop (suc i) xs
drop_at [] i x h = absurd cc
drop_at (y ∷ ys) zero x h = let e : y ≡ x = cc in rw e refl
drop_at (y ∷ ys) (suc i) x h = drop_at ys i x h

pub place_next : (i : ℕ) (f p : Field) → slice_get static_table i ≡ Some p → (same p.name f.name && same p.value f.value) ≡ false
    → place_in (drop i static_table) i f ≡ place_in (drop (i + 1) static_table) (i + 1) f
unfolding place_in
place_next i f p h t = let e : i + 1 ≡ suc i = omega arith in rw (e, drop_at static_table i p h, t, e) refl

pub place_here : (i : ℕ) (f p : Field) → slice_get static_table i ≡ Some p → (same p.name f.name && same p.value f.value) ≡ true
    → place_in (drop i static_table) i f ≡ Some i
unfolding place_in
place_here i f p h t = rw (drop_at static_table i p h, t) refl

pub place_none : (i : ℕ) (f : Field) → 61 ≤ i → place_in (drop i static_table) i f ≡ None
unfolding place_in
place_none i f h = let e : drop i static_table ≡ [] = drop_of_length-le static_table (omega (arith, table_long)) in rw e refl

abbrev named : Field → Option Field
named f = Some f

pub dynamic_some : (t : Table) (fs : List Field) (n j : ℕ) (f : Field) → fs ≡ t.fields → n ≡ suc (61 + j) → true ≡ nat_lt j (length fs) → f ≡ get_or fs j f → named f ≡ field_at t n
dynamic_some t fs n j f e h l g =
    sym (index_dynamic t.fields n j h ∙ (ap (λ (xs : List Field). slice_get xs j) (sym e) ∙ (slice_get-get_or fs j f (ltb-true j (length fs) (sym l)) ∙ ap named (sym g))))

pub dynamic_none : (t : Table) (fs : List Field) (n j : ℕ) → fs ≡ t.fields → n ≡ suc (61 + j) → false ≡ nat_lt j (length fs) → None ≡ field_at t n
dynamic_none t fs n j e h l =
    sym (index_dynamic t.fields n j h ∙ (ap (λ (xs : List Field). slice_get xs j) (sym e) ∙ slice_get_past fs j (ltb-false j (length fs) (sym l))))
