-- The strategies and the identifiers that a text spells.
use Rattle.std.specs.Prelude.{◌≡◌, ◌≢◌, ℕ, ◌<◌, ◌≤◌, List, map, codes, length}
use Rattle.std.specs.List.{AllPairs, join_with_byte}
use Rattle.form_urlencoded.specs.Form.{raw_pairs}
use Rattle.kn_route.specs.declared.id_kind.IdKind.{IdKind}
use Rattle.kn_route.specs.declared.id_kind.IdKind.TheVariants.{Ipv4, Ipv6, Host, Cidr, Uid, DefaultRoute}
use Rattle.kn_route.specs.declared.strategy.Strategy.{Strategy}
use Rattle.kn_route.specs.Strategies.{name_of}
use Rattle.kn_route.specs.Identifiers.{decoded}

-- the text is the names of the strategies with commas between them; there is one at least, and none twice
pub record IsStrategyList (text : List ℕ) (strategies : List Strategy) : Type 0 where
  pub joined : text ≡ join_with_byte 44 (map name_of strategies)
  pub some : 0 < length strategies
  pub distinct : AllPairs (λ s t. s ≢ t) strategies

-- the name of a kind
abbrev pub name_of_kind : IdKind → List ℕ
name_of_kind Ipv4 = codes "ipv4"
name_of_kind Ipv6 = codes "ipv6"
name_of_kind Host = codes "host"
name_of_kind Cidr = codes "cidr"
name_of_kind Uid = codes "uid"
name_of_kind DefaultRoute = codes "default-route"

-- a pair with its kind by name
abbrev pub named : IdKind × List ℕ → List ℕ × List ℕ
named (kind, value) = (name_of_kind kind, value)

-- the pairs, with their kinds by name, are those of the text as a form, in their order (URL Standard, section 5.1)
pub record AreIdentifiers (text : List ℕ) (pairs : List (IdKind × List ℕ)) : Type 0 where
  pub short : length text ≤ 10240
  pub spelled : map named pairs ≡ map decoded (raw_pairs text)
