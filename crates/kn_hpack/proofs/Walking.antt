-- Walking goes on where it stands.
use Rattle.std.proofs.Common.{◌≡◌, refl, sym, ◌∙◌, ap, ℕ, suc, ◌+◌, ◌-◌, ◌/◌, ◌%◌, ◌^◌, ◌<◌, ◌≤◌, List, [], ◌∷◌, ◌++◌, Result, Ok, Err, drop, length, get_or, add-one, drop-cons, if◌then◌else◌, nat_lt, true, false, arith}
use Rattle.std.proofs.Math.ListN.{drop_of_length-le}
use Rattle.kn_hpack.specs.Faults.{◌>>=◌, Fails}
use Rattle.kn_hpack.specs.Walks.{walk, landing, child, text_of}
use Rattle.kn_hpack.specs.Codes.{bits, bits_of}
use Rattle.kn_hpack.specs.declared.fault.HpackReason.{HpackReason}
use Rattle.kn_hpack.specs.declared.fault.HpackReason.TheVariants.{Padding}
use Rattle.kn_hpack.specs.declared.fault.TextError.{TextError}
use Rattle.kn_hpack.specs.declared.fault.TextError.TheVariants as errors
use Rattle.kn_hpack.proofs.Reading.{bind_same, bind_assoc}

abbrev pub Walked : Type 0
Walked = Result (ℕ × List ℕ) HpackReason

abbrev pub TextRead : Type 0
TextRead = Result (List ℕ) HpackReason

abbrev pub stands : ℕ → List ℕ → Walked
stands n t = Ok (n, t)

abbrev pub on : List ℕ → Walked → Walked
on ys r = r >>= λ x. walk x.0 x.1 ys

abbrev pub finish : Walked → TextRead
finish r = r >>= λ x. if nat_lt x.0 8 then Ok x.1 else Err Padding

pub walk_append : (n : ℕ) (t xs ys : List ℕ) → walk n t (xs ++ ys) ≡ on ys (walk n t xs)
unfolding walk
walk_append n t [] ys = refl
walk_append n t (b ∷ xs) ys =
    bind_same (landing t (child n b)) (λ z. walk z.0 z.1 (xs ++ ys)) (λ z. walk z.0 z.1 xs >>= λ x. walk x.0 x.1 ys) (λ z. walk_append z.0 z.1 xs ys)
    ∙ sym (bind_assoc (landing t (child n b)) (λ z. walk z.0 z.1 xs) (λ z. walk z.0 z.1 ys))

pub goes_on : (n m : ℕ) (t u xs ys : List ℕ) (total : Walked) → walk n t xs ≡ stands m u → walk n t (xs ++ ys) ≡ total → walk m u ys ≡ total
goes_on n m t u xs ys total e h = sym (ap (on ys) e) ∙ (sym (walk_append n t xs ys) ∙ h)

pub ends : (e : TextError) (n : ℕ) (t xs ys : List ℕ) (total : Walked) → Fails e (walk n t xs) → walk n t (xs ++ ys) ≡ total → Fails e total
ends errors.NoMemory n t xs ys total f h = tt
ends (errors.Fault r) n t xs ys total f h = sym h ∙ (walk_append n t xs ys ∙ ap (on ys) f)

-- one bit more of a byte

bits_step : (k s n : ℕ) → s ≡ suc k → bits s n ≡ (n / 2 ^ k % 2) ∷ bits k n
unfolding bits
bits_step k s n e = rw e refl

pub bit_goes : (s byte n m : ℕ) (t u : List ℕ) (total : Walked) → 0 < s → walk n t ((byte / 2 ^ (s - 1) % 2) ∷ []) ≡ stands m u → walk n t (bits s byte) ≡ total → walk m u (bits (s - 1) byte) ≡ total
bit_goes s byte n m t u total h e w =
    let split : bits s byte ≡ (byte / 2 ^ (s - 1) % 2) ∷ bits (s - 1) byte = bits_step (s - 1) s byte (omega arith) in
    goes_on n m t u ((byte / 2 ^ (s - 1) % 2) ∷ []) (bits (s - 1) byte) total e (sym (ap (walk n t) split) ∙ w)

pub bit_ends : (e : TextError) (s byte n : ℕ) (t : List ℕ) (total : Walked) → 0 < s → Fails e (walk n t ((byte / 2 ^ (s - 1) % 2) ∷ [])) → walk n t (bits s byte) ≡ total → Fails e total
bit_ends e s byte n t total h f w =
    let split : bits s byte ≡ (byte / 2 ^ (s - 1) % 2) ∷ bits (s - 1) byte = bits_step (s - 1) s byte (omega arith) in
    ends e n t ((byte / 2 ^ (s - 1) % 2) ∷ []) (bits (s - 1) byte) total f (sym (ap (walk n t) split) ∙ w)

pub bits_done : (s byte n : ℕ) (t : List ℕ) (total : Walked) → s ≤ 0 → walk n t (bits s byte) ≡ total → total ≡ stands n t
unfolding walk bits
bits_done s byte n t total h w = let z : s ≡ 0 = omega arith in sym (rw z at w)

-- one byte more of a text

bits_next : (bytes : List ℕ) (i : ℕ) → i < length bytes → bits_of (drop i bytes) ≡ bits 8 (get_or bytes i 0) ++ bits_of (drop (i + 1) bytes)
bits_next bytes i h = rw (add-one, drop-cons bytes i 0) refl

pub byte_goes : (i n m : ℕ) (bytes t u : List ℕ) (total : Walked) → i < length bytes → walk n t (bits 8 (get_or bytes i 0)) ≡ stands m u → walk n t (bits_of (drop i bytes)) ≡ total → walk m u (bits_of (drop (i + 1) bytes)) ≡ total
byte_goes i n m bytes t u total h e w =
    goes_on n m t u (bits 8 (get_or bytes i 0)) (bits_of (drop (i + 1) bytes)) total e (sym (ap (walk n t) (bits_next bytes i h)) ∙ w)

failed : (e : TextError) (bs : List ℕ) → Fails e (walk 0 [] bs) → Fails e (text_of bs)
unfolding text_of
failed errors.NoMemory bs f = tt
failed (errors.Fault r) bs f = ap finish f

pub byte_ends : (e : TextError) (i n : ℕ) (bytes t : List ℕ) → i < length bytes → Fails e (walk n t (bits 8 (get_or bytes i 0))) → walk n t (bits_of (drop i bytes)) ≡ walk 0 [] (bits_of bytes) → Fails e (text_of (bits_of bytes))
byte_ends e i n bytes t h f w =
    failed e (bits_of bytes) (ends e n t (bits 8 (get_or bytes i 0)) (bits_of (drop (i + 1) bytes)) (walk 0 [] (bits_of bytes)) f (sym (ap (walk n t) (bits_next bytes i h)) ∙ w))

bytes_done : (i n : ℕ) (bytes t : List ℕ) → length bytes ≤ i → walk n t (bits_of (drop i bytes)) ≡ walk 0 [] (bits_of bytes) → walk 0 [] (bits_of bytes) ≡ stands n t
unfolding walk
bytes_done i n bytes t h w = let z : drop i bytes ≡ [] = drop_of_length-le bytes h in sym (rw z at w)

pub padding_good : (i n : ℕ) (bytes t : List ℕ) → length bytes ≤ i → true ≡ nat_lt n 8 → walk n t (bits_of (drop i bytes)) ≡ walk 0 [] (bits_of bytes) → text_of (bits_of bytes) ≡ Ok t
unfolding text_of
padding_good i n bytes t h low w = ap finish (bytes_done i n bytes t h w) ∙ (rw (← low) refl)

pub padding_bad : (i n : ℕ) (bytes t : List ℕ) → length bytes ≤ i → false ≡ nat_lt n 8 → walk n t (bits_of (drop i bytes)) ≡ walk 0 [] (bits_of bytes) → text_of (bits_of bytes) ≡ Err Padding
unfolding text_of
padding_bad i n bytes t h high w = ap finish (bytes_done i n bytes t h w) ∙ (rw (← high) refl)
