-- The fault that is there is told.
use Rattle.std.proofs.Common.{◌≡◌, refl, sym, ◌∙◌, ap, ℕ, zero, suc, ◌+◌, ◌*◌, ◌-◌, ◌%◌, ◌<◌, ◌≤◌, ◌⊎◌, inl, inr, Bool, true, false, not, ◌||◌, nat_eq, nat_lt, List, [], ◌∷◌, ◌++◌, length, Option, None, Ok, Err, if◌then◌else◌, arith}
use Rattle.std.proofs.Math.Seq.{take-append_seam, drop-append_seam}
use Rattle.std.proofs.lemmas.Bool.{lt-ltb, le-ltb, ne_eqb}
use Rattle.std.proofs.lemmas.List.{append_assoc, length-append}
use Rattle.kn_hpack.specs.Faults.{◌>>=◌}
use Rattle.kn_hpack.specs.Integers.{IsInteger, tail_at, integer_at}
use Rattle.kn_hpack.specs.Codes.{bits_of}
use Rattle.kn_hpack.specs.Walks.{text_of}
use Rattle.kn_hpack.specs.Strings.{string_at, text_at}
use Rattle.kn_hpack.specs.Fields.{Field, Table, total, added as with_one, resized}
use Rattle.kn_hpack.specs.Indexes.{field_at}
use Rattle.kn_hpack.specs.Blocks.{kind_of, found, indexed_at, name_at, literal_at, Progress, progress, is_none, limit_at, one_more, taken, step_of, step_at, placed, read_from, read_block}
use Rattle.kn_hpack.specs.Representations.{Stands, AllStand}
use Rattle.kn_hpack.specs.FirstFaults.{GoOn, IntegerFault, StringFault, NameFault, LiteralFault, KindFault, FaultIsTold, absent, unended, too_long, too_high, no_length, too_short, padding, ended, no_index, unknown, no_text, no_name, no_value, no_number, no_field, added, never, plain, no_limit, over_limit, too_large}
use Rattle.kn_hpack.specs.declared.fault.HpackReason.{HpackReason}
use Rattle.kn_hpack.specs.declared.fault.HpackReason.TheVariants.{Index, Integer, Padding, Eos, TableSize, Cut, TooLarge}
use Rattle.kn_hpack.specs.declared.fault.HpackFault.{HpackFault}
use Rattle.kn_hpack.specs.declared.representation.Kind.{Kind}
use Rattle.kn_hpack.specs.declared.representation.Kind.TheVariants.{Indexed, Added, Resized, Never, Plain}
use Rattle.kn_hpack.proofs.IntegerFacts.{NumberRead, number, no_number as number_fault, tail_again, integer_again, integer_first, long_on}
use Rattle.kn_hpack.proofs.StringFacts.{StringRead, TextRead, string_on, text_on, bytes_bits}
use Rattle.kn_hpack.proofs.HuffmanFacts.{bad_padding_is_told, eos_is_told}
use Rattle.kn_hpack.proofs.StepFacts.{FieldRead, StepRead, a_step, BlockRead, starts_long, starts_with, step_again, all_grow, read_once, indexed_on, found_on, name_on, name_again, literal_on, value_on, limit_on, resize_on, take_on, add_on, indexed_again, literal_again}

abbrev pub string_fault : HpackReason → StringRead
string_fault r = Err r

abbrev pub text_fault : HpackReason → TextRead
text_fault r = Err r

abbrev pub field_fault : HpackReason → FieldRead
field_fault r = Err r

abbrev pub step_fault : HpackReason → StepRead
step_fault r = Err r

abbrev pub block_fault : HpackFault → BlockRead
block_fault f = Err f

-- integers

abbrev tail_on : ℕ → NumberRead → NumberRead
tail_on b r = r >>= λ x. Ok (b - 128 + 128 * x.0, x.1)

tail_cut : (left : ℕ) (bs : List ℕ) → length bs ≤ left → GoOn bs → tail_at left bs ≡ number_fault Cut
unfolding tail_at
tail_cut left [] h g = refl
tail_cut zero (b ∷ bs) h g = absurd (omega arith)
tail_cut (suc left) (b ∷ bs) h g = rw (le-ltb b 128 g.0) (ap (tail_on b) (tail_cut left bs (omega arith) g.1))

tail_long : (left : ℕ) (front rest : List ℕ) → length front ≡ left → GoOn front → 0 < length rest → tail_at left (front ++ rest) ≡ number_fault Integer
unfolding tail_at
tail_long zero [] [] e g h = absurd (omega arith)
tail_long zero [] (c ∷ cs) e g h = refl
tail_long zero (b ∷ bs) rest e g h = absurd (omega arith)
tail_long (suc left) [] rest e g h = absurd (omega arith)
tail_long (suc left) (b ∷ bs) rest e g h = rw (le-ltb b 128 g.0) (ap (tail_on b) (tail_long left bs rest (omega arith) g.1 h))

integer_on : (top b : ℕ) (bs : List ℕ) → top ≤ b % suc top → integer_at top (b ∷ bs) ≡ long_on top (tail_at 5 bs)
unfolding integer_at
integer_on top b bs h = rw (le-ltb (b % suc top) top h) refl

high_by : (top more : ℕ) (rest : List ℕ) → 2147483647 < top + more → long_on top (number more rest) ≡ number_fault Integer
high_by top more rest h = rw (lt-ltb 2147483647 (top + more) h) refl

integer_none : (top : ℕ) → integer_at top [] ≡ number_fault Cut
unfolding integer_at
integer_none top = refl

pub integer_told : (top : ℕ) (bytes : List ℕ) (r : HpackReason) → IntegerFault top bytes r → integer_at top bytes ≡ number_fault r
integer_told top bytes r (absent a) = integer_none a
integer_told top bytes r (unended a b bs h len g) = integer_on a b bs h ∙ ap (long_on a) (tail_cut 5 bs len g)
integer_told top bytes r (too_long a b bs front rest h e len g some) = integer_on a b bs h ∙ ap (long_on a) (ap (tail_at 5) e ∙ tail_long 5 front rest len g some)
integer_told top bytes r (too_high a b more bs text rest h e len t high) =
    integer_on a b bs h ∙ (ap (long_on a) (ap (tail_at 5) e ∙ tail_again 5 text more rest len t) ∙ high_by a more rest high)

-- strings

string_none : string_at [] ≡ string_fault Cut
unfolding string_at
string_none = refl

string_some : (b : ℕ) (bs : List ℕ) → string_at (b ∷ bs) ≡ string_on b (integer_at 127 (b ∷ bs))
unfolding string_at
string_some b bs = refl

absent_is : (top : ℕ) (r : HpackReason) → IntegerFault top [] r → Cut ≡ r
absent_is top r (absent a) = refl

length_told : (bytes : List ℕ) (r : HpackReason) → IntegerFault 127 bytes r → string_at bytes ≡ string_fault r
length_told [] r i = string_none ∙ ap string_fault (absent_is 127 r i)
length_told (b ∷ bs) r i = string_some b bs ∙ ap (string_on b) (integer_told 127 (b ∷ bs) r i)

short_by : (b len : ℕ) (rest : List ℕ) → length rest < len → string_on b (number len rest) ≡ string_fault Cut
short_by b len rest h = rw (lt-ltb (length rest) len h) refl

short_told : (h len : ℕ) (head rest : List ℕ) → IsInteger h 127 head len → length rest < len → string_at (head ++ rest) ≡ string_fault Cut
short_told h len [] rest i s = absurd i
short_told h len (b ∷ bs) rest i s = string_some b (bs ++ rest) ∙ (ap (string_on b) (integer_again h 127 (b ∷ bs) len rest i) ∙ short_by b len rest s)

coded : (b : ℕ) (body : List ℕ) → 128 ≤ b → text_at b body ≡ text_of (bits_of body)
unfolding text_at
coded b body h = rw (le-ltb b 128 h) refl

coded_by : (b : ℕ) (body rest : List ℕ) (r : HpackReason) → 128 ≤ b → text_of (bits_of body) ≡ text_fault r → string_on b (number (length body) (body ++ rest)) ≡ string_fault r
coded_by b body rest r h e =
    let long : nat_lt (length (body ++ rest)) (length body) ≡ false = le-ltb (length (body ++ rest)) (length body) (omega (arith, length-append body rest)) in
    rw (long, take-append_seam body rest, drop-append_seam body rest) (ap (text_on rest) (coded b body h ∙ e))

coded_told : (head body rest : List ℕ) (r : HpackReason) → IsInteger 1 127 head (length body) → text_of (bits_of body) ≡ text_fault r → string_at (head ++ (body ++ rest)) ≡ string_fault r
coded_told [] body rest r i e = absurd i
coded_told (b ∷ bs) body rest r i e =
    let f = integer_first 1 127 b (length body) bs i in
    string_some b (bs ++ (body ++ rest)) ∙ (ap (string_on b) (integer_again 1 127 (b ∷ bs) (length body) (body ++ rest) i) ∙ coded_by b body rest r (omega (arith, f.0)) e)

pub string_told : (bytes : List ℕ) (r : HpackReason) → StringFault bytes r → string_at bytes ≡ string_fault r
string_told bytes r (no_length a b i) = length_told a b i
string_told bytes r (too_short h len a head rest e i s) = ap string_at e ∙ short_told h len head rest i s
string_told bytes r (padding a head body rest e i p) = ap string_at e ∙ coded_told head body rest Padding i (bad_padding_is_told (bits_of body) (bytes_bits body) p)
string_told bytes r (ended a head body rest e i p) = ap string_at e ∙ coded_told head body rest Eos i (eos_is_told (bits_of body) p)

-- names and literals

name_some : (t : Table) (top : ℕ) (bytes : List ℕ) → name_at t top bytes ≡ name_on t (integer_at top bytes)
unfolding name_at
name_some t top bytes = refl

abbrev none_on : List ℕ → Option Field → StringRead
none_on rest o = found o >>= λ f. Ok (f.name, rest)

unknown_by : (t : Table) (index : ℕ) (rest : List ℕ) → 0 < index → field_at t index ≡ None → name_on t (number index rest) ≡ string_fault Index
unknown_by t index rest h e = let some : nat_eq index 0 ≡ false = ne_eqb index 0 (λ z. omega (arith, h, z)) in rw some (ap (none_on rest) e)

pub name_told : (kind top : ℕ) (t : Table) (bytes : List ℕ) (r : HpackReason) → NameFault kind top t bytes r → name_at t top bytes ≡ string_fault r
name_told kind top t bytes r (no_index k a u b s i) = name_some u a b ∙ ap (name_on u) (integer_told a b s i)
name_told kind top t bytes r (unknown k a index u b head rest e i h n) =
    name_some u a b ∙ (ap (λ (xs : List ℕ). name_on u (integer_at a xs)) e ∙ (ap (name_on u) (integer_again k a head index rest i) ∙ unknown_by u index rest h n))
name_told kind top t bytes r (no_text k a u b head rest s e i f) =
    name_some u a b ∙ (ap (λ (xs : List ℕ). name_on u (integer_at a xs)) e ∙ (ap (name_on u) (integer_again k a head 0 rest i) ∙ string_told rest s f))

literal_some : (t : Table) (top : ℕ) (bytes : List ℕ) → literal_at t top bytes ≡ literal_on (name_at t top bytes)
unfolding literal_at
literal_some t top bytes = refl

pub literal_told : (kind top : ℕ) (t : Table) (bytes : List ℕ) (r : HpackReason) → LiteralFault kind top t bytes r → literal_at t top bytes ≡ field_fault r
literal_told kind top t bytes r (no_name k a u b s n) = literal_some u a b ∙ ap literal_on (name_told k a u b s n)
literal_told kind top t bytes r (no_value k a index u b head naming name rest s e i n v) =
    literal_some u a b ∙ (ap (λ (xs : List ℕ). literal_on (name_at u a xs)) e
    ∙ (ap literal_on (name_again k a u index head naming name rest i n) ∙ ap (value_on name) (string_told rest s v)))

-- representations

indexed_some : (t : Table) (bytes : List ℕ) → indexed_at t bytes ≡ indexed_on t (integer_at 127 bytes)
unfolding indexed_at
indexed_some t bytes = refl

limit_some : (fields : List Field) (bytes : List ℕ) → limit_at fields bytes ≡ limit_on fields (integer_at 31 bytes)
unfolding limit_at
limit_some fields bytes = refl

limit_by : (fields : List Field) (limit : ℕ) (rest : List ℕ) → (4096 < limit) ⊎ (0 < length fields) → limit_on fields (number limit rest) ≡ number_fault TableSize
limit_by fields limit rest (inl h) = rw (lt-ltb 4096 limit h) refl
limit_by fields limit rest (inr h) = late (nat_lt 4096 limit) fields h where
  late : (b : Bool) (fs : List Field) → 0 < length fs → (if b || not (is_none fs) then number_fault TableSize else number limit rest) ≡ number_fault TableSize
  late true fs l = refl
  late false [] l = absurd (omega arith)
  late false (f ∷ fs) l = refl

large_by : (fields : List Field) (t : Table) (f : Field) (rest : List ℕ) → 16384 < total (fields ++ f ∷ []) → taken fields t (f, rest) ≡ step_fault TooLarge
unfolding one_more
large_by fields t f rest h = rw (lt-ltb 16384 (total (fields ++ f ∷ [])) h) refl

large_of : (q : Progress) (t : Table) (fs : List Field) → q ≡ progress t fs → 16384 < total q.fields → 16384 < total fs
large_of q t fs e h = omega (arith, ap (λ (r : Progress). total r.fields) e)

large_told : (k : Kind) (p : Progress) (text : List ℕ) (q : Progress) (rest : List ℕ) → Stands k p text q → 16384 < total q.fields → step_of k p (text ++ rest) ≡ step_fault TooLarge
large_told Indexed p text q rest s h =
    ap (take_on p) (indexed_again p.table text s.0 rest s.1) ∙ large_by p.fields p.table s.0 rest (large_of q p.table (p.fields ++ s.0 ∷ []) s.2 h)
large_told Added p text q rest s h =
    ap (add_on p) (literal_again 1 63 p.table text s.0 rest s.1) ∙ large_by p.fields (with_one p.table s.0) s.0 rest (large_of q (with_one p.table s.0) (p.fields ++ s.0 ∷ []) s.2 h)
large_told Resized p text q rest s h = let l : 16384 < 0 = large_of q (resized p.table s.0) [] s.4 h in absurd (omega arith)
large_told Never p text q rest s h =
    ap (take_on p) (literal_again 1 15 p.table text s.0 rest s.1) ∙ large_by p.fields p.table s.0 rest (large_of q p.table (p.fields ++ s.0 ∷ []) s.2 h)
large_told Plain p text q rest s h =
    ap (take_on p) (literal_again 0 15 p.table text s.0 rest s.1) ∙ large_by p.fields p.table s.0 rest (large_of q p.table (p.fields ++ s.0 ∷ []) s.2 h)

pub kind_told : (k : Kind) (p : Progress) (bytes : List ℕ) (r : HpackReason) → KindFault k p bytes r → step_of k p bytes ≡ step_fault r
kind_told k p bytes r (no_number a b s i) = ap (take_on a) (indexed_some a.table b ∙ ap (indexed_on a.table) (integer_told 127 b s i))
kind_told k p bytes r (no_field a index b head rest e i n) =
    ap (take_on a) (indexed_some a.table b ∙ (ap (λ (xs : List ℕ). indexed_on a.table (integer_at 127 xs)) e
    ∙ (ap (indexed_on a.table) (integer_again 1 127 head index rest i) ∙ ap (found_on rest) n)))
kind_told k p bytes r (added a b s i) = ap (add_on a) (literal_told 1 63 a.table b s i)
kind_told k p bytes r (never a b s i) = ap (take_on a) (literal_told 1 15 a.table b s i)
kind_told k p bytes r (plain a b s i) = ap (take_on a) (literal_told 0 15 a.table b s i)
kind_told k p bytes r (no_limit a b s i) = ap (resize_on a) (limit_some a.fields b ∙ ap (limit_on a.fields) (integer_told 31 b s i))
kind_told k p bytes r (over_limit a limit b head rest e i h) =
    ap (resize_on a) (limit_some a.fields b ∙ (ap (λ (xs : List ℕ). limit_on a.fields (integer_at 31 xs)) e
    ∙ (ap (limit_on a.fields) (integer_again 1 31 head limit rest i) ∙ limit_by a.fields limit rest h)))
kind_told k p bytes r (too_large l a q b text rest e s h) = ap (step_of l a) e ∙ large_told l a text q rest s h

-- blocks

record Reached (len steps : ℕ) (p : Progress) (bytes : List ℕ) (q : Progress) (tail : List ℕ) : Type 0 where
  left : ℕ
  enough : length tail ≤ left
  same : read_from len steps p bytes ≡ read_from len left q tail

reach_as : (p q : Progress) (len steps : ℕ) (tail : List ℕ) → q ≡ p → length tail ≤ steps → Reached len steps p tail q tail
reach_as p q len steps tail e h = record { left = steps; enough = h; same = ap (λ (r : Progress). read_from len steps r tail) (sym e) }

reached : (ks : List Kind) (len steps : ℕ) (p : Progress) (front : List ℕ) (q : Progress) (tail : List ℕ) → length front + length tail ≤ steps → AllStand ks p front q → total q.fields ≤ 16384 → Reached len steps p (front ++ tail) q tail
reached [] len steps p front q tail h s small =
    let r = reach_as p q len steps tail s.1 (omega arith) in
    record { left = r.left; enough = r.enough; same = ap (λ (xs : List ℕ). read_from len steps p (xs ++ tail)) s.0 ∙ r.same }
reached (k ∷ ks) len steps p front q tail h s small =
    let e : front ++ tail ≡ s.0 ++ (s.1 ++ tail) = ap (λ (xs : List ℕ). xs ++ tail) s.3 ∙ append_assoc s.0 s.1 tail in
    let f = starts_with k p s.0 s.2 (s.1 ++ tail) s.4 in
    let long : 0 < length s.0 = starts_long k p s.0 s.2 s.4 in
    let count : length front ≡ length s.0 + length s.1 = ap (λ (xs : List ℕ). length xs) s.3 ∙ length-append s.0 s.1 in
    let once : step_at p (front ++ tail) ≡ a_step s.2 (s.1 ++ tail) = ap (step_at p) e ∙ step_again k p s.0 s.2 (s.1 ++ tail) s.4 (omega (arith, all_grow ks s.2 s.1 q s.5)) in
    let r = reached ks len (steps - 1) s.2 s.1 q tail (omega arith) s.5 small in
    record { left = r.left; enough = r.enough; same = read_once len (steps - 1) steps p s.2 f.0 f.1 (front ++ tail) (s.1 ++ tail) (e ∙ f.2) (omega arith) once ∙ r.same }

abbrev stop_on : ℕ → ℕ → ℕ → StepRead → BlockRead
stop_on place len k r = placed place r (λ x. read_from len k x.0 x.1)

stopped : (len left : ℕ) (q : Progress) (b : ℕ) (bs : List ℕ) (r : HpackReason) → 0 < left → step_at q (b ∷ bs) ≡ step_fault r → read_from len left q (b ∷ bs) ≡ block_fault (record { place = len - length (b ∷ bs); reason = r })
unfolding read_from
stopped len zero q b bs r h e = absurd (omega arith)
stopped len (suc k) q b bs r h e = ap (stop_on (len - length (b ∷ bs)) len k) e

step_kind : (p : Progress) (b : ℕ) (bs : List ℕ) → step_at p (b ∷ bs) ≡ step_of (kind_of b) p (b ∷ bs)
unfolding step_at
step_kind p b bs = refl

fault_as : (f : HpackFault) (place : ℕ) → place ≡ f.place → block_fault (record { place = place; reason = f.reason }) ≡ block_fault f
fault_as f place e = ap (λ (n : ℕ). block_fault (record { place = n; reason = f.reason })) e

pub fault_is_told : FaultIsTold
unfolding read_block
fault_is_told t bytes f a =
    let count : length bytes ≡ length a.front + suc (length a.rest) = ap (λ (xs : List ℕ). length xs) a.joined ∙ length-append a.front (a.first ∷ a.rest) in
    let r = reached a.kinds (length bytes) (length bytes) (progress t []) a.front a.before (a.first ∷ a.rest) (omega arith) a.stands a.small in
    let some : 0 < r.left = omega (arith, r.enough) in
    let e : step_at a.before (a.first ∷ a.rest) ≡ step_fault f.reason = step_kind a.before a.first a.rest ∙ kind_told (kind_of a.first) a.before (a.first ∷ a.rest) f.reason a.fault in
    let at : length bytes - suc (length a.rest) ≡ f.place = omega (arith, a.place) in
    ap (read_from (length bytes) (length bytes) (progress t [])) a.joined
    ∙ (r.same ∙ (stopped (length bytes) r.left a.before a.first a.rest f.reason some e ∙ fault_as f (length bytes - suc (length a.rest)) at))
