-- Ranges of addresses, and what they hold.
use Rattle.std.specs.Prelude.{◌≡◌, ◌≢◌, ℕ, ◌<◌, length, slice_index, ◌/◌, ◌-◌, ◌^◌, ◌≤◌, ◌==◌, nat_le, Bool, false, List, ◌++◌, codes, decimal, Option, Some, None, if◌then◌else◌}
use Rattle.std.specs.List.{before_first, after_first}
use Rattle.std.specs.Net.Reader.{read_octet, whole_value}
use Rattle.kn_route.specs.declared.address.Address.{Address}
use Rattle.kn_route.specs.declared.address.Address.TheVariants.{V4, V6}
use Rattle.kn_route.specs.declared.address.Range.{Range}
use Rattle.kn_route.specs.Addresses.{IsAddress, address_in}

-- how many bits an address has
abbrev pub width_of : Address → ℕ
width_of (V4 n) = 32
width_of (V6 n) = 128

-- The text spells the range: an address, a `/`, and how many of its first bits count, which is a decimal
-- number without a sign or leading zeros.
abbrev pub IsRange : List ℕ → Range → Type 0
IsRange text range =
    (base : List ℕ) × (text ≡ base ++ codes "/" ++ decimal range.bits) × IsAddress base range.base
    × (range.bits ≤ width_of range.base)

-- the text is not empty, and begins with no plus, and with a zero only where nothing follows
abbrev pub IsPlain : List ℕ → Type 0
IsPlain text = (0 < length text) × (slice_index text 0 ≢ 43) × (slice_index text 0 ≡ 48 → length text ≡ 1)

-- the number from 0 to 255 that the whole text writes without a sign or leading zeros
unfoldable pub bits_in : List ℕ → Option ℕ
bits_in text = whole_value (read_octet text)

-- the range of a base and a count of bits, where both were read and the base has as many bits
abbrev pub range_from : Option Address → Option ℕ → Option Range
range_from (Some base) (Some bits) =
    if nat_le bits (width_of base) then Some (record { base = base; bits = bits }) else None
range_from (Some base) None = None
range_from None (Some bits) = None
range_from None None = None

-- the one range that the text spells, or none where it spells none; 47 is `/`
unfoldable pub range_in : List ℕ → Option Range
range_in text =
    range_from (address_in (before_first (λ b. b == 47) text))
    (bits_in (after_first (λ b. b == 47) text))

-- the two are of one version and the same number
abbrev pub is_address : Address → Address → Bool
is_address (V4 n) (V4 m) = n == m
is_address (V6 n) (V6 m) = n == m
is_address (V4 n) (V6 m) = false
is_address (V6 n) (V4 m) = false

-- the two are of one version, and their first bits, this many, are the same
abbrev pub is_alike : ℕ → Address → Address → Bool
is_alike bits (V4 n) (V4 m) = n / 2 ^ (32 - bits) == m / 2 ^ (32 - bits)
is_alike bits (V6 n) (V6 m) = n / 2 ^ (128 - bits) == m / 2 ^ (128 - bits)
is_alike bits (V4 n) (V6 m) = false
is_alike bits (V6 n) (V4 m) = false

-- the range holds the address
abbrev pub holds : Range → Address → Bool
holds range address = is_alike range.bits range.base address
