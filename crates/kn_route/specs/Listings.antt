-- The links that a listing of agents spells.
use Rattle.std.specs.Prelude.{◌≡◌, ℕ, ◌+◌, true, false, List, [], ◌∷◌, ◌++◌, All, IsUtf8, length, Ok, ⊤, ◌⊎◌}
use Rattle.kn_route.specs.declared.link.Link.{Link}
use Rattle.kn_route.specs.Cuts.{begins}
use Rattle.kn_route.specs.Identifiers.{identifiers_in}
use Rattle.kn_route.specs.LinkLists.{LinkList}
use Rattle.kn_route.specs.Listing.{lines_of}
use Rattle.kn_route.specs.HostTexts.{HasNo}

-- the lines, each with the line feed that ends it
abbrev pub ended : List (List ℕ) → List ℕ
ended [] = []
ended (line ∷ lines) = line ++ 10 ∷ ended lines

-- the bytes are these lines and, behind the last line feed, this rest; no line feed stands in any of them
pub record AreLines (bytes : List ℕ) (lines : List (List ℕ)) (rest : List ℕ) : Type 0 where
  pub joined : bytes ≡ ended lines ++ rest
  pub whole : All (HasNo 10) lines
  pub last : HasNo 10 rest

-- the link is that of the line of this number: a `!`, which is 33, at its front is the mark of a draining link, and
-- the identifiers are those of the rest
pub record IsLine (number : ℕ) (line : List ℕ) (link : Link) : Type 0 where
  pub text : List ℕ
  pub mark : ((line ≡ 33 ∷ text) × (link.draining ≡ true)) ⊎ ((line ≡ text) × (begins 33 line ≡ false) × (link.draining ≡ false))
  pub utf8 : IsUtf8 text
  pub read : identifiers_in text ≡ Ok link.identifiers
  pub numbered : link.number ≡ number

-- the links are those of the lines, in their order, of which the first has this number
abbrev pub AreLinks : ℕ → List (List ℕ) → List Link → Type 0
AreLinks number [] [] = ⊤
AreLinks number [] (link ∷ links) = ⊥
AreLinks number (line ∷ lines) [] = ⊥
AreLinks number (line ∷ lines) (link ∷ links) = IsLine number line link × AreLinks (number + 1) lines links

-- link by link the listing is its lines, numbered from 1
pub record IsListing (bytes : List ℕ) (list : LinkList) : Type 0 where
  pub links : AreLinks 1 (lines_of bytes) list.links
  pub top : list.top ≡ length list.links
