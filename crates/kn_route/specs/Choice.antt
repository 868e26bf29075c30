-- The choice of a link for a dial.
use Rattle.std.specs.Prelude.{ℕ, ◌%◌, Bool, true, false, not, ◌&&◌, List, [], ◌∷◌, filter, length, slice_index, Option, Some, None}
use Rattle.std.specs.List.{list_any}
use Rattle.kn_route.specs.declared.strategy.Strategy.{Strategy}
use Rattle.kn_route.specs.declared.strategy.Strategy.TheVariants.{DestHost, DefaultRoute, Default}
use Rattle.kn_route.specs.declared.link.Link.{Link}
use Rattle.kn_route.specs.LinkLists.{numbers_of}
use Rattle.kn_route.specs.Meanings.{fits, is_default_route}

-- both are true, or both false
abbrev pub is_same_flag : Bool → Bool → Bool
is_same_flag true other = other
is_same_flag false other = not other

-- a link is one of a strategy for this host
abbrev pub is_of : Strategy → List ℕ → Link → Bool
is_of DestHost host link = list_any (fits host) link.identifiers
is_of DefaultRoute host link = list_any is_default_route link.identifiers
is_of Default host link = true

-- a link is one of a strategy for this host, and drains or does not, as is asked
abbrev pub is_candidate : Strategy → List ℕ → Bool → Link → Bool
is_candidate strategy host draining link =
    is_same_flag link.draining draining && is_of strategy host link

-- the links of a strategy for this host that drain, or those that do not
abbrev pub links_of : Strategy → List ℕ → Bool → List Link → List Link
links_of strategy host draining links = filter (is_candidate strategy host draining) links

-- the first list, or the second where the first is empty
abbrev pub first_nonempty : List Link → List Link → List Link
first_nonempty [] others = others
first_nonempty (link ∷ links) others = link ∷ links

-- the candidates of a strategy: its links that do not drain, or, where there is none, those that drain
abbrev pub candidates : Strategy → List ℕ → List Link → List Link
candidates strategy host links =
    first_nonempty (links_of strategy host false links) (links_of strategy host true links)

-- of the candidates, in their order, the one at place `dial mod count`, counted from 0
abbrev pub chosen : List Link → ℕ → Option ℕ
chosen [] dial = None
chosen (link ∷ links) dial =
    Some (slice_index (numbers_of (link ∷ links)) (dial % length (link ∷ links)))

-- the strategy and the link, where there is one
abbrev pub with_strategy : Strategy → Option ℕ → Option (Strategy × ℕ) → Option (Strategy × ℕ)
with_strategy strategy (Some link) later = Some (strategy, link)
with_strategy strategy None later = later

-- the first strategy with a candidate, and the link that it gives to this dial
unfoldable pub pick : List Strategy → List Link → List ℕ → ℕ → Option (Strategy × ℕ)
pick [] links host dial = None
pick (strategy ∷ strategies) links host dial =
    with_strategy strategy (chosen (candidates strategy host links) dial)
    (pick strategies links host dial)
