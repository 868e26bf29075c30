-- The links that are up, and how they change.
use Rattle.std.specs.Prelude.{ℕ, ◌≤◌, ◌==◌, Bool, true, false, not, List, [], ◌∷◌, ◌++◌, map, filter, All, if◌then◌else◌}
use Rattle.std.specs.List.{list_any}
use Rattle.std.specs.List.Sorted.{IsStrictlyIncreasing}
use Rattle.kn_route.specs.declared.id_kind.IdKind.{IdKind}
use Rattle.kn_route.specs.declared.link.Link.{Link}

-- the links in their order, and the greatest number that one ever had, or 0
pub record LinkList : Type 0 where
  pub links : List Link
  pub top : ℕ

-- no link was ever up
abbrev pub no_links : LinkList
no_links = record { links = []; top = 0 }

-- a link of a number above all earlier ones comes up
abbrev pub with_link : LinkList → ℕ → List (IdKind × List ℕ) → LinkList
with_link list number identifiers = record {
  links = list.links ++ (record { number = number; draining = false; identifiers = identifiers }) ∷ [];
  top = number;
}

-- the link has this number
abbrev pub is_link : ℕ → Link → Bool
is_link number link = link.number == number

-- a link of this number is up
abbrev pub has_link : ℕ → LinkList → Bool
has_link number list = list_any (is_link number) list.links

-- the link, draining where it has this number
abbrev pub drained : ℕ → Link → Link
drained number link = if is_link number link then record link { draining = true } else link

-- the link of this number drains
abbrev pub with_drained : LinkList → ℕ → LinkList
with_drained list number = record list { links = map (drained number) list.links }

-- the link of this number is gone
abbrev pub without_link : LinkList → ℕ → LinkList
without_link list number = record list { links = filter (λ l. not (is_link number l)) list.links }

-- the number of a link, and whether it drains
abbrev pub mark_of : Link → ℕ × Bool
mark_of link = (link.number, link.draining)

-- the numbers of links
abbrev pub numbers_of : List Link → List ℕ
numbers_of links = map (λ l. l.number) links

-- the numbers rise, and none is above the greatest
pub record IsRising (list : LinkList) : Type 0 where
  pub rising : IsStrictlyIncreasing (numbers_of list.links)
  pub within : All (λ n. n ≤ list.top) (numbers_of list.links)
