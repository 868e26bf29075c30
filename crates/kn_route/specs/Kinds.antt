-- The kinds of identifiers.
use Rattle.std.specs.Prelude.{ℕ, List, codes, bytes_eq, Option, Some, None, if◌then◌else◌}
use Rattle.kn_route.specs.declared.id_kind.IdKind.{IdKind}
use Rattle.kn_route.specs.declared.id_kind.IdKind.TheVariants.{Ipv4, Ipv6, Host, Cidr, Uid, DefaultRoute}

-- the kind of a name
abbrev pub kind_named : List ℕ → Option IdKind
kind_named name =
    if bytes_eq name (codes "ipv4") then Some Ipv4
    else (if bytes_eq name (codes "ipv6") then Some Ipv6
    else (if bytes_eq name (codes "host") then Some Host
    else (if bytes_eq name (codes "cidr") then Some Cidr
    else (if bytes_eq name (codes "uid") then Some Uid
    else (if bytes_eq name (codes "default-route") then Some DefaultRoute else None)))))
