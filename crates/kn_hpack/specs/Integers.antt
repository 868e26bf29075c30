-- Integers behind a prefix (RFC 7541, section 5.1), of at most five continuation bytes and 2,147,483,647.
use Rattle.std.specs.Prelude.{◌≡◌, ℕ, ◌+◌, ◌*◌, ◌-◌, ◌%◌, ◌<◌, ◌≤◌, ◌⊎◌, List, [], ◌∷◌, length, nat_lt, suc, zero, Result, Ok, Err, if◌then◌else◌}
use Rattle.kn_hpack.specs.Faults.{◌>>=◌}
use Rattle.kn_hpack.specs.declared.fault.HpackReason.{HpackReason}
use Rattle.kn_hpack.specs.declared.fault.HpackReason.TheVariants.{Cut, Integer}

-- continuation bytes make the number: seven bits each, the least first, and the top bit on all but the last
abbrev pub IsTail : List ℕ → ℕ → Type 0
IsTail [] n = ⊥
IsTail (b ∷ []) n = (b < 128) × (n ≡ b)
IsTail (b ∷ c ∷ bs) n = (128 ≤ b) × (b < 256) × (high : ℕ) × (n ≡ b - 128 + 128 * high) × IsTail (c ∷ bs) high

-- The bytes spell the number behind the pattern `kind`, with a prefix whose largest value is `top`: in the prefix
-- where it is below that, and otherwise as what is over it in at most five continuation bytes.
abbrev pub IsInteger : ℕ → ℕ → List ℕ → ℕ → Type 0
IsInteger kind top [] n = ⊥
IsInteger kind top (b ∷ bs) n = (n ≤ 2147483647)
    × (((n < top) × (b ≡ kind * suc top + n) × (bs ≡ []))
    ⊎ ((b ≡ kind * suc top + top) × (length bs ≤ 5) × (more : ℕ) × (n ≡ top + more) × IsTail bs more))

-- the continuation bytes at the front, at most `left` of them
unfoldable pub tail_at : ℕ → List ℕ → Result (ℕ × List ℕ) HpackReason
tail_at left [] = Err Cut
tail_at zero (b ∷ bs) = Err Integer
tail_at (suc left) (b ∷ bs) = if nat_lt b 128 then Ok (b, bs) else (tail_at left bs >>= λ x. Ok (b - 128 + 128 * x.0, x.1))

-- the number at the front, and the bytes after it
unfoldable pub integer_at : ℕ → List ℕ → Result (ℕ × List ℕ) HpackReason
integer_at top [] = Err Cut
integer_at top (b ∷ bs) =
    if nat_lt (b % suc top) top then Ok (b % suc top, bs)
    else (tail_at 5 bs >>= λ x. if nat_lt 2147483647 (top + x.0) then Err Integer else Ok (top + x.0, x.1))
