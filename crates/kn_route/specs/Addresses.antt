-- Addresses as numbers, and the texts that spell them (RFC 4291, section 2.2).
use Rattle.std.specs.Prelude.{◌≡◌, ℕ, ◌+◌, ◌*◌, ◌^◌, List, [], ◌∷◌, length, Option, Some, None, option_map}
use Rattle.std.specs.Net.Grammar.{IsDotted, IsColonHex}
use Rattle.std.specs.Net.Reader.{read_ipv4, read_ipv6, whole_value}
use Rattle.kn_route.specs.declared.address.Address.{Address}
use Rattle.kn_route.specs.declared.address.Address.TheVariants.{V4, V6}

-- the number that has these digits in a base, the highest first
abbrev pub number_in : ℕ → List ℕ → ℕ
number_in base [] = 0
number_in base (digit ∷ digits) = digit * base ^ length digits + number_in base digits

-- The text spells the address.
-- Version 4: four decimal numbers from 0 to 255 without leading zeros, joined by dots.
-- Version 6: eight groups joined by colons, or at most seven with one `::` in place of the groups that
-- are missing, which are zero. A group is one to four hexadecimal digits of either case. The last two
-- groups may be spelled as an address of version 4, where no `::` stands after them.
-- `IsDotted` and `IsColonHex` of std say these two grammars, as relations that no code is part of.
abbrev pub IsAddress : List ℕ → Address → Type 0
IsAddress text (V4 n) = (octets : List ℕ) × IsDotted text octets × (n ≡ number_in 256 octets)
IsAddress text (V6 n) = (groups : List ℕ) × IsColonHex text groups × (n ≡ number_in 65536 groups)

-- the number of the address of version 4 that the whole text is read as
unfoldable pub v4_in : List ℕ → Option ℕ
v4_in text = option_map (number_in 256) (whole_value (read_ipv4 text))

-- the same of version 6
unfoldable pub v6_in : List ℕ → Option ℕ
v6_in text = option_map (number_in 65536) (whole_value (read_ipv6 text))

-- the first that is there
abbrev pub either_address : Option ℕ → Option ℕ → Option Address
either_address (Some n) v6 = Some (V4 n)
either_address None (Some n) = Some (V6 n)
either_address None None = None

-- the one address that the text spells, or none where it spells none
abbrev pub address_in : List ℕ → Option Address
address_in text = either_address (v4_in text) (v6_in text)
