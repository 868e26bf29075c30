-- Which agents a strategy finds for a host, in the words of the table of identifiers.
use Rattle.std.specs.Prelude.{◌≡◌, ℕ, List, map, codes, IsTrue, ⊤}
use Rattle.std.specs.List.{Any, Contains}
use Rattle.std.specs.Char.{to_ascii_lowercase}
use Rattle.kn_route.specs.declared.address.Address.{Address}
use Rattle.kn_route.specs.declared.address.Address.TheVariants.{V4, V6}
use Rattle.kn_route.specs.declared.address.Range.{Range}
use Rattle.kn_route.specs.declared.id_kind.IdKind.{IdKind}
use Rattle.kn_route.specs.declared.id_kind.IdKind.TheVariants.{Ipv4, Ipv6, Host, Cidr, Uid, DefaultRoute}
use Rattle.kn_route.specs.declared.strategy.Strategy.{Strategy}
use Rattle.kn_route.specs.declared.strategy.Strategy.TheVariants.{DestHost, DefaultRoute as ByDefaultRoute, Default}
use Rattle.kn_route.specs.declared.link.Link.{Link}
use Rattle.kn_route.specs.Addresses.{IsAddress}
use Rattle.kn_route.specs.Ranges.{IsRange, holds}

-- the two texts spell the same address of version 4
abbrev pub AreSameV4 : List ℕ → List ℕ → Type 0
AreSameV4 value host = (number : ℕ) × IsAddress value (V4 number) × IsAddress host (V4 number)

-- the same of version 6
abbrev pub AreSameV6 : List ℕ → List ℕ → Type 0
AreSameV6 value host = (number : ℕ) × IsAddress value (V6 number) × IsAddress host (V6 number)

-- the first text spells a range, and the second an address that the range holds
abbrev pub IsInRange : List ℕ → List ℕ → Type 0
IsInRange value host =
    (range : Range) × (address : Address) × IsRange value range × IsAddress host address × IsTrue (holds range address)

-- The table: a pair of this kind with this value speaks of the host. Names are the same without regard to
-- the case of the letters A to Z. A `uid` or a `default-route` speaks of no host.
abbrev pub Speaks : IdKind → List ℕ → List ℕ → Type 0
Speaks Ipv4 value host = AreSameV4 value host
Speaks Ipv6 value host = AreSameV6 value host
Speaks Host value host = map to_ascii_lowercase value ≡ map to_ascii_lowercase host
Speaks Cidr value host = IsInRange value host
Speaks Uid value host = ⊥
Speaks DefaultRoute value host = ⊥

-- the link is one of the strategy for the host
abbrev pub IsOf : Strategy → List ℕ → Link → Type 0
IsOf DestHost host link = Any (λ pair. Speaks pair.0 pair.1 host) link.identifiers
IsOf ByDefaultRoute host link = Contains link.identifiers (DefaultRoute, codes "true")
IsOf Default host link = ⊤
