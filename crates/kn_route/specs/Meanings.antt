-- What the value of a pair of identifiers means, and which hosts it speaks of.
use Rattle.std.specs.Prelude.{ℕ, Bool, true, false, List, map, codes, bytes_eq, Option, Some, None, if◌then◌else◌}
use Rattle.std.specs.Char.{to_ascii_lowercase}
use Rattle.kn_route.specs.declared.address.Address.{Address}
use Rattle.kn_route.specs.declared.address.Address.TheVariants.{V4, V6}
use Rattle.kn_route.specs.declared.address.Range.{Range}
use Rattle.kn_route.specs.declared.id_kind.IdKind.{IdKind}
use Rattle.kn_route.specs.declared.id_kind.IdKind.TheVariants.{Ipv4, Ipv6, Host, Cidr, Uid, DefaultRoute}
use Rattle.kn_route.specs.declared.meaning.Meaning.{Meaning}
use Rattle.kn_route.specs.declared.meaning.Meaning.TheVariants.{Exactly, Within, Named, EveryDial, NoDial}
use Rattle.kn_route.specs.Addresses.{address_in}
use Rattle.kn_route.specs.Ranges.{range_in, is_address, holds}

-- an `ipv4` value speaks of the address that it spells, where that is of version 4
abbrev pub meaning_of_v4 : Option Address → Meaning
meaning_of_v4 (Some (V4 n)) = Exactly (V4 n)
meaning_of_v4 (Some (V6 n)) = NoDial
meaning_of_v4 None = NoDial

-- an `ipv6` value speaks of the address that it spells, where that is of version 6
abbrev pub meaning_of_v6 : Option Address → Meaning
meaning_of_v6 (Some (V6 n)) = Exactly (V6 n)
meaning_of_v6 (Some (V4 n)) = NoDial
meaning_of_v6 None = NoDial

-- a `cidr` value speaks of the addresses that its range holds
abbrev pub meaning_of_range : Option Range → Meaning
meaning_of_range (Some range) = Within range
meaning_of_range None = NoDial

-- a `default-route` value speaks of every dial where it is `true`
abbrev pub meaning_of_flag : List ℕ → Meaning
meaning_of_flag value = if bytes_eq value (codes "true") then EveryDial else NoDial

-- what a value of a kind means
abbrev pub meaning_of : IdKind → List ℕ → Meaning
meaning_of Ipv4 value = meaning_of_v4 (address_in value)
meaning_of Ipv6 value = meaning_of_v6 (address_in value)
meaning_of Host value = Named
meaning_of Cidr value = meaning_of_range (range_in value)
meaning_of Uid value = NoDial
meaning_of DefaultRoute value = meaning_of_flag value

-- the host has an address, and it is this one
abbrev pub is_some_address : Address → Option Address → Bool
is_some_address own (Some address) = is_address own address
is_some_address own None = false

-- the host has an address, and the range holds it
abbrev pub holds_some : Range → Option Address → Bool
holds_some range (Some address) = holds range address
holds_some range None = false

-- the two are equal after the letters A to Z of both are turned into a to z
abbrev pub is_name : List ℕ → List ℕ → Bool
is_name value host = bytes_eq (map to_ascii_lowercase value) (map to_ascii_lowercase host)

-- a value with this meaning speaks of this host, which may have an address
abbrev pub meets : Meaning → List ℕ → List ℕ → Option Address → Bool
meets (Exactly own) value host address = is_some_address own address
meets (Within range) value host address = holds_some range address
meets Named value host address = is_name value host
meets EveryDial value host address = false
meets NoDial value host address = false

-- a value with this meaning speaks of every dial
abbrev pub is_every_dial : Meaning → Bool
is_every_dial (Exactly own) = false
is_every_dial (Within range) = false
is_every_dial Named = false
is_every_dial EveryDial = true
is_every_dial NoDial = false

-- a pair of a kind and a value fits a host
abbrev pub fits : List ℕ → IdKind × List ℕ → Bool
fits host (kind, value) = meets (meaning_of kind value) value host (address_in host)

-- a pair is `default-route` with the value `true`
abbrev pub is_default_route : IdKind × List ℕ → Bool
is_default_route (kind, value) = is_every_dial (meaning_of kind value)
