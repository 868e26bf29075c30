-- A listing of agents: one line of identifiers for each link, and what is printed of a choice among them.
use Rattle.std.specs.Prelude.{◌≡◌, ℕ, ◌+◌, ◌==◌, Bool, true, false, List, [], ◌∷◌, ◌++◌, length, drop, codes, decimal, Option, Some, None, Result, Ok, Err, ⊤, if◌then◌else◌}
use Rattle.std.specs.Result.{result_ok}
use Rattle.std.specs.Str.{is_utf8}
use Rattle.kn_route.specs.declared.id_kind.IdKind.{IdKind}
use Rattle.kn_route.specs.declared.strategy.Strategy.{Strategy}
use Rattle.kn_route.specs.declared.listing.ListingFault.{ListingFault}
use Rattle.kn_route.specs.declared.listing.ListingFault.TheVariants.{NoMemory, Line}
use Rattle.kn_route.specs.Cuts.{begins, parts_of}
use Rattle.kn_route.specs.Steps.{steps}
use Rattle.kn_route.specs.Identifiers.{identifiers_in}
use Rattle.kn_route.specs.LinkLists.{LinkList, no_links, with_link, with_drained}
use Rattle.kn_route.specs.Strategies.{name_of}

-- the parts, without the last where that is empty
abbrev pub without_last_empty : List (List ℕ) → List (List ℕ)
without_last_empty [] = []
without_last_empty (part ∷ []) = if length part == 0 then [] else part ∷ []
without_last_empty (part ∷ next ∷ parts) = part ∷ without_last_empty (next ∷ parts)

-- the lines: each ends with a line feed, which is 10, and the last may lack it
abbrev pub lines_of : List ℕ → List (List ℕ)
lines_of bytes = without_last_empty (parts_of 10 bytes)

-- the identifiers that a text spells, where it is UTF-8 and they can be read
abbrev pub line_identifiers : List ℕ → Option (List (IdKind × List ℕ))
line_identifiers text = if is_utf8 text then result_ok (identifiers_in text) else None

-- a line without its mark; a leading `!`, which is 33, marks a draining link
abbrev pub unmarked : List ℕ → List ℕ
unmarked line = if begins 33 line then drop 1 line else line

-- the links with one more, which takes the next number, or that its line, which has that number, is bad
abbrev pub with_next : LinkList → Bool → Option (List (IdKind × List ℕ)) → Result LinkList ℕ
with_next list draining None = Err (list.top + 1)
with_next list false (Some identifiers) = Ok (with_link list (list.top + 1) identifiers)
with_next list true (Some identifiers) =
    Ok (with_drained (with_link list (list.top + 1) identifiers) (list.top + 1))

-- the links with that of one more line
abbrev pub with_line : LinkList → List ℕ → Result LinkList ℕ
with_line list line = with_next list (begins 33 line) (line_identifiers (unmarked line))

-- the links of the lines, numbered from 1, or the number of the first bad line
unfoldable pub links_in : List ℕ → Result LinkList ℕ
links_in bytes = steps with_line no_links (lines_of bytes)

-- the fault is that the line of the expected number is bad, or that memory was wanting
abbrev pub IsFaultOf : Result LinkList ℕ → ListingFault → Type 0
IsFaultOf expected NoMemory = ⊤
IsFaultOf expected (Line number) = expected ≡ Err number

-- the answer is the expected one, or that memory was wanting
abbrev pub IsListingAnswer : Result LinkList ℕ → Result LinkList ListingFault → Type 0
IsListingAnswer expected (Ok links) = expected ≡ Ok links
IsListingAnswer expected (Err fault) = IsFaultOf expected fault

-- `STRATEGY LINK` and a line feed
abbrev pub printed_pick : Strategy → ℕ → List ℕ
printed_pick strategy link = name_of strategy ++ (codes " " ++ (decimal link ++ 10 ∷ []))

-- what is printed of a choice: that line, or `none` and a line feed
unfoldable pub printed_choice : Option (Strategy × ℕ) → List ℕ
printed_choice (Some (strategy, link)) = printed_pick strategy link
printed_choice None = codes "none" ++ 10 ∷ []
