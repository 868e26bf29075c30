-- What representations stand for is read.
use Rattle.std.proofs.Common.{◌≡◌, refl, sym, ◌∙◌, ap, ℕ, suc, ◌+◌, ◌*◌, ◌-◌, ◌<◌, ◌≤◌, ◌==◌, inl, inr, false, not, ◌||◌, nat_eq, nat_lt, nat_le, List, [], ◌∷◌, ◌++◌, length, slice_index, Option, Result, Ok, Err, if◌then◌else◌, arith}
use Rattle.std.proofs.lemmas.Bool.{le-ltb, le-leb, lt-leb, ne_eqb}
use Rattle.std.proofs.lemmas.List.{append_assoc, append-nil, length-append}
use Rattle.kn_hpack.specs.Faults.{◌>>=◌}
use Rattle.kn_hpack.specs.Integers.{IsInteger}
use Rattle.kn_hpack.specs.Strings.{string_at}
use Rattle.kn_hpack.specs.Fields.{Field, Table, pair, total, added, resized}
use Rattle.kn_hpack.specs.Indexes.{field_at}
use Rattle.kn_hpack.specs.Blocks.{kind_of, found, indexed_at, name_at, literal_at, Progress, progress, is_none, limit_at, one_more, taken, step_of, step_at, placed, read_from, read_block}
use Rattle.kn_hpack.specs.Representations.{IsIndexed, IsNamed, IsLiteral, Stands, AllStand, BlockIsRead}
use Rattle.kn_hpack.specs.declared.fault.HpackReason.{HpackReason}
use Rattle.kn_hpack.specs.declared.fault.HpackReason.TheVariants.{TableSize}
use Rattle.kn_hpack.specs.declared.fault.HpackFault.{HpackFault}
use Rattle.kn_hpack.specs.declared.representation.Kind.{Kind}
use Rattle.kn_hpack.specs.declared.representation.Kind.TheVariants.{Indexed, Added, Resized, Never, Plain}
use Rattle.kn_hpack.proofs.IntegerFacts.{NumberRead, number, integer_again, integer_first}
use Rattle.kn_hpack.proofs.StringFacts.{StringRead, string, string_again}
use Rattle.kn_hpack.proofs.TableFacts.{total_append}

abbrev pub FieldRead : Type 0
FieldRead = Result (Field × List ℕ) HpackReason

abbrev pub a_field : Field → List ℕ → FieldRead
a_field f rest = Ok (f, rest)

abbrev pub StepRead : Type 0
StepRead = Result (Progress × List ℕ) HpackReason

abbrev pub a_step : Progress → List ℕ → StepRead
a_step q rest = Ok (q, rest)

abbrev pub Named : Type 0
Named = Result Field HpackReason

-- indexed fields

abbrev pub indexed_on : Table → NumberRead → FieldRead
indexed_on t r = r >>= λ n. found (field_at t n.0) >>= λ f. Ok (f, n.1)

abbrev pub found_on : List ℕ → Option Field → FieldRead
found_on rest o = found o >>= λ f. Ok (f, rest)

pub indexed_again : (t : Table) (text : List ℕ) (f : Field) (rest : List ℕ) → IsIndexed t text f → indexed_at t (text ++ rest) ≡ a_field f rest
unfolding indexed_at
indexed_again t text f rest i = ap (indexed_on t) (integer_again 1 127 text i.index rest i.spelled) ∙ ap (found_on rest) i.names

-- names and literals

abbrev pub name_on : Table → NumberRead → StringRead
name_on t r = r >>= λ n. if n.0 == 0 then string_at n.1 else (found (field_at t n.0) >>= λ f. Ok (f.name, n.1))

abbrev pub found_name : List ℕ → Option Field → StringRead
found_name rest o = found o >>= λ f. Ok (f.name, rest)

pub name_by : (t : Table) (index : ℕ) (naming name rest : List ℕ) → IsNamed t index naming name → name_on t (number index (naming ++ rest)) ≡ string name rest
name_by t index naming name rest m =
    elim m [
      | inl x ↦ (rw x.0 (string_again naming name rest x.1))
      | inr y ↦ (let some : nat_eq index 0 ≡ false = ne_eqb index 0 (λ e. omega (arith, y.0, e)) in
          rw (some, y.1) (ap (found_name rest) y.3 ∙ ap (λ (n : List ℕ). string n rest) y.4))
    ]

pub name_again : (kind top : ℕ) (t : Table) (index : ℕ) (head naming name rest : List ℕ) → IsInteger kind top head index → IsNamed t index naming name → name_at t top (head ++ (naming ++ rest)) ≡ string name rest
unfolding name_at
name_again kind top t index head naming name rest i m = ap (name_on t) (integer_again kind top head index (naming ++ rest) i) ∙ name_by t index naming name rest m

abbrev pub literal_on : StringRead → FieldRead
literal_on r = r >>= λ n. string_at n.1 >>= λ v. Ok (pair n.0 v.0, v.1)

abbrev pub value_on : List ℕ → StringRead → FieldRead
value_on name r = r >>= λ v. Ok (pair name v.0, v.1)

pub literal_again : (kind top : ℕ) (t : Table) (text : List ℕ) (f : Field) (rest : List ℕ) → IsLiteral kind top t text f → literal_at t top (text ++ rest) ≡ a_field f rest
unfolding literal_at
literal_again kind top t text f rest l =
    let spread : text ++ rest ≡ l.head ++ (l.naming ++ (l.valuing ++ rest)) =
    ap (λ (xs : List ℕ). xs ++ rest) l.joined ∙ (append_assoc l.head (l.naming ++ l.valuing) rest ∙ ap (λ (xs : List ℕ). l.head ++ xs) (append_assoc l.naming l.valuing rest)) in
    ap (λ (xs : List ℕ). literal_on (name_at t top xs)) spread
    ∙ (ap literal_on (name_again kind top t l.index l.head l.naming f.name (l.valuing ++ rest) l.spelled l.named)
    ∙ ap (value_on f.name) (string_again l.valuing f.value rest l.valued))

-- the first byte

pub record First (text : List ℕ) (low high : ℕ) : Type 0 where
  pub byte : ℕ
  pub more : List ℕ
  pub is : text ≡ byte ∷ more
  pub above : low ≤ byte
  pub under : byte ≤ high

integer_starts : (kind top : ℕ) (bytes rest : List ℕ) (n : ℕ) → IsInteger kind top bytes n → First (bytes ++ rest) (kind * suc top) (kind * suc top + top)
integer_starts kind top [] rest n i = absurd i
integer_starts kind top (b ∷ bs) rest n i = let f = integer_first kind top b n bs i in record { byte = b; more = bs ++ rest; is = refl; above = f.0; under = f.1 }

indexed_starts : (t : Table) (text : List ℕ) (f : Field) (rest : List ℕ) → IsIndexed t text f → First (text ++ rest) 128 255
indexed_starts t text f rest i = integer_starts 1 127 text rest i.index i.spelled

literal_starts : (kind top : ℕ) (t : Table) (text : List ℕ) (f : Field) (rest : List ℕ) → IsLiteral kind top t text f → First (text ++ rest) (kind * suc top) (kind * suc top + top)
literal_starts kind top t text f rest l =
    let s = integer_starts kind top l.head ((l.naming ++ l.valuing) ++ rest) l.index l.spelled in
    record { byte = s.byte; more = s.more; is = ap (λ (xs : List ℕ). xs ++ rest) l.joined ∙ (append_assoc l.head (l.naming ++ l.valuing) rest ∙ s.is); above = s.above; under = s.under }

pub kind_indexed : (b : ℕ) → 128 ≤ b → kind_of b ≡ Indexed
unfolding kind_of
kind_indexed b h = rw (le-leb 128 b h) refl

pub kind_added : (b : ℕ) → 64 ≤ b → b ≤ 127 → kind_of b ≡ Added
unfolding kind_of
kind_added b h l = let x : nat_le 128 b ≡ false = lt-leb 128 b (omega arith) in rw (x, le-leb 64 b h) refl

pub kind_resized : (b : ℕ) → 32 ≤ b → b ≤ 63 → kind_of b ≡ Resized
unfolding kind_of
kind_resized b h l =
    let x : nat_le 128 b ≡ false = lt-leb 128 b (omega arith) in
    let y : nat_le 64 b ≡ false = lt-leb 64 b (omega arith) in
    rw (x, y, le-leb 32 b h) refl

pub kind_never : (b : ℕ) → 16 ≤ b → b ≤ 31 → kind_of b ≡ Never
unfolding kind_of
kind_never b h l =
    let x : nat_le 128 b ≡ false = lt-leb 128 b (omega arith) in
    let y : nat_le 64 b ≡ false = lt-leb 64 b (omega arith) in
    let z : nat_le 32 b ≡ false = lt-leb 32 b (omega arith) in
    rw (x, y, z, le-leb 16 b h) refl

pub kind_plain : (b : ℕ) → b ≤ 15 → kind_of b ≡ Plain
unfolding kind_of
kind_plain b l =
    let x : nat_le 128 b ≡ false = lt-leb 128 b (omega arith) in
    let y : nat_le 64 b ≡ false = lt-leb 64 b (omega arith) in
    let z : nat_le 32 b ≡ false = lt-leb 32 b (omega arith) in
    let w : nat_le 16 b ≡ false = lt-leb 16 b (omega arith) in
    rw (x, y, z, w) refl

pub starts_with : (k : Kind) (p : Progress) (text : List ℕ) (q : Progress) (rest : List ℕ) → Stands k p text q → (b : ℕ) × (bs : List ℕ) × (text ++ rest ≡ b ∷ bs) × (kind_of b ≡ k)
starts_with Indexed p text q rest s = let f = indexed_starts p.table text s.0 rest s.1 in (f.byte, f.more, f.is, kind_indexed f.byte f.above)
starts_with Added p text q rest s = let f = literal_starts 1 63 p.table text s.0 rest s.1 in (f.byte, f.more, f.is, kind_added f.byte f.above f.under)
starts_with Resized p text q rest s = let f = integer_starts 1 31 text rest s.0 s.1 in (f.byte, f.more, f.is, kind_resized f.byte f.above f.under)
starts_with Never p text q rest s = let f = literal_starts 1 15 p.table text s.0 rest s.1 in (f.byte, f.more, f.is, kind_never f.byte f.above f.under)
starts_with Plain p text q rest s = let f = literal_starts 0 15 p.table text s.0 rest s.1 in (f.byte, f.more, f.is, kind_plain f.byte f.under)

-- one representation

abbrev pub ListRead : Type 0
ListRead = Result (List Field) HpackReason

abbrev pub list_on : Table → List ℕ → ListRead → StepRead
list_on t rest r = r >>= λ fs. Ok (progress t fs, rest)

abbrev kept_list : List Field → ListRead
kept_list fs = Ok fs

fits_more : (fs : List Field) (f : Field) → total (fs ++ f ∷ []) ≤ 16384 → one_more fs f ≡ kept_list (fs ++ f ∷ [])
unfolding one_more
fits_more fs f h = rw (le-ltb 16384 (total (fs ++ f ∷ [])) h) refl

taken_is : (fs : List Field) (t : Table) (f : Field) (rest : List ℕ) → total (fs ++ f ∷ []) ≤ 16384 → taken fs t (f, rest) ≡ a_step (progress t (fs ++ f ∷ [])) rest
taken_is fs t f rest h = ap (list_on t rest) (fits_more fs f h)

abbrev pub take_on : Progress → FieldRead → StepRead
take_on p r = r >>= λ x. taken p.fields p.table x

abbrev pub add_on : Progress → FieldRead → StepRead
add_on p r = r >>= λ x. taken p.fields (added p.table x.0) x

small_by : (fs gs : List Field) (q : Progress) (t : Table) → q ≡ progress t gs → total q.fields ≤ 16384 → total gs ≤ 16384
small_by fs gs q t e h = let f : q.fields ≡ gs = ap (λ (r : Progress). r.fields) e in omega (arith, ap total f)

step_taken : (p : Progress) (f : Field) (q : Progress) (rest : List ℕ) (r : FieldRead) → r ≡ a_field f rest → q ≡ progress p.table (p.fields ++ f ∷ []) → total q.fields ≤ 16384 → take_on p r ≡ a_step q rest
step_taken p f q rest r e g h =
    ap (take_on p) e ∙ (taken_is p.fields p.table f rest (small_by [] (p.fields ++ f ∷ []) q p.table g h) ∙ ap (λ (x : Progress). a_step x rest) (sym g))

step_added : (p : Progress) (f : Field) (q : Progress) (rest : List ℕ) (r : FieldRead) → r ≡ a_field f rest → q ≡ progress (added p.table f) (p.fields ++ f ∷ []) → total q.fields ≤ 16384 → add_on p r ≡ a_step q rest
step_added p f q rest r e g h =
    ap (add_on p) e ∙ (taken_is p.fields (added p.table f) f rest (small_by [] (p.fields ++ f ∷ []) q (added p.table f) g h) ∙ ap (λ (x : Progress). a_step x rest) (sym g))

abbrev pub limit_on : List Field → NumberRead → NumberRead
limit_on fields r = r >>= λ n. if nat_lt 4096 n.0 || not (is_none fields) then Err TableSize else Ok n

abbrev pub resize_on : Progress → NumberRead → StepRead
resize_on p r = r >>= λ n. Ok (progress (resized p.table n.0) p.fields, n.1)

limit_again : (fields : List Field) (text : List ℕ) (limit : ℕ) (rest : List ℕ) → IsInteger 1 31 text limit → limit ≤ 4096 → fields ≡ [] → limit_at fields (text ++ rest) ≡ number limit rest
unfolding limit_at
limit_again fields text limit rest i h e =
    let t : nat_lt 4096 limit ≡ false = le-ltb 4096 limit h in
    ap (limit_on fields) (integer_again 1 31 text limit rest i) ∙ (rw (e, t) refl)

pub step_of_again : (k : Kind) (p : Progress) (text : List ℕ) (q : Progress) (rest : List ℕ) → Stands k p text q → total q.fields ≤ 16384 → step_of k p (text ++ rest) ≡ a_step q rest
step_of_again Indexed p text q rest s h = step_taken p s.0 q rest (indexed_at p.table (text ++ rest)) (indexed_again p.table text s.0 rest s.1) s.2 h
step_of_again Added p text q rest s h = step_added p s.0 q rest (literal_at p.table 63 (text ++ rest)) (literal_again 1 63 p.table text s.0 rest s.1) s.2 h
step_of_again Resized p text q rest s h =
    ap (resize_on p) (limit_again p.fields text s.0 rest s.1 s.2 s.3) ∙ (ap (λ (fs : List Field). a_step (progress (resized p.table s.0) fs) rest) s.3 ∙ ap (λ (x : Progress). a_step x rest) (sym s.4))
step_of_again Never p text q rest s h = step_taken p s.0 q rest (literal_at p.table 15 (text ++ rest)) (literal_again 1 15 p.table text s.0 rest s.1) s.2 h
step_of_again Plain p text q rest s h = step_taken p s.0 q rest (literal_at p.table 15 (text ++ rest)) (literal_again 0 15 p.table text s.0 rest s.1) s.2 h

step_first : (b : ℕ) (bs bytes : List ℕ) (p : Progress) (k : Kind) → bytes ≡ b ∷ bs → kind_of b ≡ k → step_at p bytes ≡ step_of k p bytes
unfolding step_at
step_first b bs bytes p k e g = ap (λ (xs : List ℕ). step_of (kind_of (slice_index xs 0)) p bytes) e ∙ ap (λ (x : Kind). step_of x p bytes) g

pub step_again : (k : Kind) (p : Progress) (text : List ℕ) (q : Progress) (rest : List ℕ) → Stands k p text q → total q.fields ≤ 16384 → step_at p (text ++ rest) ≡ a_step q rest
step_again k p text q rest s h = let f = starts_with k p text q rest s in step_first f.0 f.1 (text ++ rest) p k f.2 f.3 ∙ step_of_again k p text q rest s h

-- the list grows

grown : (p : Progress) (f : Field) (q : Progress) (t : Table) → q ≡ progress t (p.fields ++ f ∷ []) → total p.fields ≤ total q.fields
grown p f q t e = omega (arith, ap (λ (r : Progress). total r.fields) e, total_append p.fields (f ∷ []))

pub grows : (k : Kind) (p : Progress) (text : List ℕ) (q : Progress) → Stands k p text q → total p.fields ≤ total q.fields
grows Indexed p text q s = grown p s.0 q p.table s.2
grows Added p text q s = grown p s.0 q (added p.table s.0) s.2
grows Resized p text q s = let e : total p.fields ≡ 0 = ap total s.3 in omega arith
grows Never p text q s = grown p s.0 q p.table s.2
grows Plain p text q s = grown p s.0 q p.table s.2

pub all_grow : (ks : List Kind) (p : Progress) (bytes : List ℕ) (q : Progress) → AllStand ks p bytes q → total p.fields ≤ total q.fields
all_grow [] p bytes q s = let e : total q.fields ≡ total p.fields = ap (λ (r : Progress). total r.fields) s.1 in omega arith
all_grow (k ∷ ks) p bytes q s = let a : total p.fields ≤ total s.2.fields = grows k p s.0 s.2 s.4 in let b : total s.2.fields ≤ total q.fields = all_grow ks s.2 s.1 q s.5 in omega arith

pub starts_long : (k : Kind) (p : Progress) (text : List ℕ) (q : Progress) → Stands k p text q → 0 < length text
starts_long k p text q s =
    let f = starts_with k p text q [] s in
    let e : length text ≡ suc (length f.1) = ap (λ (xs : List ℕ). length xs) (sym (append-nil text) ∙ f.2) in
    omega arith

-- blocks

abbrev pub BlockRead : Type 0
BlockRead = Result Progress HpackFault

abbrev pub whole : Progress → BlockRead
whole p = Ok p

abbrev pub from_on : ℕ → ℕ → ℕ → StepRead → BlockRead
from_on place len k r = placed place r (λ x. read_from len k x.0 x.1)

pub read_once : (len k steps : ℕ) (p q : Progress) (b : ℕ) (bs bytes more : List ℕ) → bytes ≡ b ∷ bs → steps ≡ suc k → step_at p bytes ≡ a_step q more → read_from len steps p bytes ≡ read_from len k q more
unfolding read_from
read_once len k steps p q b bs bytes more e n s =
    let t : step_at p (b ∷ bs) ≡ a_step q more = ap (step_at p) (sym e) ∙ s in
    rw (e, n) (ap (from_on (len - length (b ∷ bs)) len k) t)

read_none : (len steps : ℕ) (p : Progress) → read_from len steps p [] ≡ whole p
unfolding read_from
read_none len steps p = refl

pub all_again : (ks : List Kind) (len steps : ℕ) (p : Progress) (bytes : List ℕ) (q : Progress) → length bytes ≤ steps → AllStand ks p bytes q → total q.fields ≤ 16384 → read_from len steps p bytes ≡ whole q
all_again [] len steps p bytes q h s small = ap (read_from len steps p) s.0 ∙ (read_none len steps p ∙ ap whole (sym s.1))
all_again (k ∷ ks) len steps p bytes q h s small =
    let f = starts_with k p s.0 s.2 s.1 s.4 in
    let long : 0 < length s.0 = starts_long k p s.0 s.2 s.4 in
    let e : length bytes ≡ length s.0 + length s.1 = ap (λ (xs : List ℕ). length xs) s.3 ∙ length-append s.0 s.1 in
    let once : step_at p bytes ≡ a_step s.2 s.1 = ap (step_at p) s.3 ∙ step_again k p s.0 s.2 s.1 s.4 (omega (arith, all_grow ks s.2 s.1 q s.5)) in
    read_once len (steps - 1) steps p s.2 f.0 f.1 bytes s.1 (s.3 ∙ f.2) (omega arith) once
    ∙ all_again ks len (steps - 1) s.2 s.1 q (omega arith) s.5 small

pub block_is_read : BlockIsRead
unfolding read_block
block_is_read t u bytes fields b = all_again b.kinds (length bytes) (length bytes) (progress t []) bytes (progress u fields) (omega arith) b.stands b.small
