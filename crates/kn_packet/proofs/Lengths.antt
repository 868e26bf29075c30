-- The lengths of the fields of a spelling.
use Rattle.std.proofs.Common.{◌≡◌, ℕ, zero, suc, ◌<◌, ◌≤◌, ◌+◌, ◌-◌, ◌*◌, ◌/◌, ◌%◌, take, set, append_assoc, Bool, true, false, cond, ltb, eqb, List, [], ◌∷◌, ◌++◌, length, refl, sym, ap, ◌∙◌, arith}
use Rattle.std.proofs.lemmas.Bool.{lt-ltb, le-ltb, ne_eqb}
use Rattle.std.proofs.lemmas.List.{length-append, take_more_set}
use Rattle.kn_packet.specs.Spelling.{shortest, varint_of, tag, number_field, message_field}

pub short_varint : (n : ℕ) → n < 128 → varint_of n ≡ n ∷ []
unfolding shortest
short_varint n small = let e : ltb n 128 ≡ true = lt-ltb n 128 small in rw e refl

pub tag_is : (number wire : ℕ) → number < 16 → wire < 8 → tag number wire ≡ (number * 8 + wire) ∷ []
tag_is number wire small smaller = short_varint (number * 8 + wire) (omega arith)

tag_length : (number wire : ℕ) → number < 16 → wire < 8 → length (tag number wire) ≡ 1
tag_length number wire small smaller = ap length (tag_is number wire small smaller)

pub message_length : (number : ℕ) (body : List ℕ) → number < 16 → length (message_field number body) ≡ 1 + length (varint_of (length body)) + length body
message_length number body small =
    let tagged = tag_length number 2 small (omega arith) in
    omega (arith, tagged, length-append (tag number 2 ++ varint_of (length body)) body, length-append (tag number 2) (varint_of (length body)))

pub number_length : (number n : ℕ) → number < 16 → (n ≡ 0 → ⊥) → length (number_field number n) ≡ 1 + length (varint_of n)
number_length number n small some =
    let other : eqb n 0 ≡ false = ne_eqb n 0 some in
    let tagged = tag_length number 0 small (omega arith) in
    rw other (omega (arith, tagged, length-append (tag number 0) (varint_of n)))

pub message_length_at : (number len head : ℕ) → number < 16 → head ≡ length (varint_of len) → (body : List ℕ) → length body ≡ len → 1 + head + len ≡ length (message_field number body)
message_length_at number len head small head-is body len-is =
    let whole = message_length number body small in
    let same : length (varint_of (length body)) ≡ head = ap (λ (n : ℕ). length (varint_of n)) len-is ∙ sym head-is in
    omega (arith, whole, same, len-is)

pub two_lengths : (a b : List ℕ) (m n : ℕ) → m ≡ length a → n ≡ length b → m + n ≡ length (a ++ b)
two_lengths a b m n p q = omega (arith, p, q, length-append a b)

pub three_lengths : (a b c : List ℕ) (l m n : ℕ) → l ≡ length a → m ≡ length b → n ≡ length c → l + m + n ≡ length (a ++ b ++ c)
three_lengths a b c l m n p q r = omega (arith, p, q, r, length-append (a ++ b) c, length-append a b)

-- ---- the first byte of a shortest varint

pub one_byte : (more n : ℕ) → (more ≡ 0 → ⊥) → n < 128 → shortest more n ≡ n ∷ []
unfolding shortest
one_byte zero n some small = absurd (some refl)
one_byte (suc more) n some small = let e : ltb n 128 ≡ true = lt-ltb n 128 small in rw e refl

pub more_bytes : (more n : ℕ) → (more ≡ 0 → ⊥) → 128 ≤ n → shortest more n ≡ (n % 128 + 128) ∷ shortest (more - 1) (n / 128)
unfolding shortest
more_bytes zero n some big = absurd (some refl)
more_bytes (suc more) n some big =
    let e : ltb n 128 ≡ false = le-ltb n 128 big in
    let one_less : suc more - 1 ≡ more = omega arith in
    rw (e, one_less) refl

pub one_byte_written : (room : List ℕ) (at more n : ℕ) → at < length room → (more ≡ 0 → ⊥) → n < 128 → take (at + 1) (set room at n) ≡ take at room ++ shortest more n
one_byte_written room at more n fits some small = take_more_set room at n fits ∙ ap (λ (b : List ℕ). take at room ++ b) (sym (one_byte more n some small))

pub byte_then_written : (room new : List ℕ) (at end more n : ℕ) → at < length room → (more ≡ 0 → ⊥) → 128 ≤ n
    → take end new ≡ take (at + 1) (set room at (n % 128 + 128)) ++ shortest (more - 1) (n / 128) → take end new ≡ take at room ++ shortest more n
byte_then_written room new at end more n fits some big e =
    e ∙ ap (λ (b : List ℕ). b ++ shortest (more - 1) (n / 128)) (take_more_set room at (n % 128 + 128) fits)
    ∙ append_assoc (take at room) ((n % 128 + 128) ∷ []) (shortest (more - 1) (n / 128))
    ∙ ap (λ (b : List ℕ). take at room ++ b) (sym (more_bytes more n some big))

either_some : (b : Bool) (xs ys : List ℕ) → 0 < length xs → 0 < length ys → 0 < length (cond b xs ys)
either_some true xs ys p q = p
either_some false xs ys p q = q

pub some_bytes : (more n : ℕ) → 0 < length (shortest more n)
unfolding shortest
some_bytes zero n = omega arith
some_bytes (suc more) n = either_some (ltb n 128) (n ∷ []) ((n % 128 + 128) ∷ shortest more (n / 128)) (omega arith) (omega arith)
