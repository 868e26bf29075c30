-- Listings are read as their lines spell them.
use Rattle.std.proofs.Common.{◌≡◌, ◌≢◌, ◌==◌, ℕ, ◌+◌, ◌<◌, ◌≤◌, ◌⊎◌, inl, inr, List, [], ◌∷◌, ◌++◌, map, length, Option, Some, None, Bool, true, false, refl, sym, ap, ◌∙◌, subst, arith, append_assoc, append-nil, eq-eqb, ne_eqb, cond, drop}
use Rattle.std.specs.Prelude.{Result, Ok, Err, All, IsUtf8}
use Rattle.std.specs.Result.{result_ok}
use Rattle.std.specs.Str.{is_utf8}
use Rattle.std.proofs.lemmas.Bool.{eqb-true, eqb-false}
use Rattle.std.proofs.lemmas.Option.{none-some, same_Some}
use Rattle.std.proofs.lemmas.Str.{is_utf8-from_IsUtf8, IsUtf8-from_is_utf8}
use Rattle.std.proofs.lemmas.List.Elements.{All-head, All-tail, All-cons, All-push, All-nil, All-weaker}
use Rattle.kn_route.specs.declared.id_kind.IdKind.{IdKind}
use Rattle.kn_route.specs.declared.identifiers.IdFault.{IdFault}
use Rattle.kn_route.specs.declared.link.Link.{Link}
use Rattle.kn_route.specs.Cuts.{begins, parts_of}
use Rattle.kn_route.specs.Steps.{steps, and_then}
use Rattle.kn_route.specs.Identifiers.{identifiers_in}
use Rattle.kn_route.specs.LinkLists.{LinkList, no_links, drained}
use Rattle.kn_route.specs.Listing.{without_last_empty, lines_of, line_identifiers, with_next, with_line, links_in}
use Rattle.std.proofs.lemmas.List.Splits.{slice_split_at, slice_split_none}
use Rattle.kn_route.specs.HostTexts.{HasNo}
use Rattle.kn_route.specs.Listings.{IsLine, AreLinks, IsListing, AreLines, ended}
use Rattle.kn_route.proofs.HostTextLemmas.{begins_front}
use Rattle.kn_route.proofs.ListLemmas.{same_ok, err_ok}

-- ---- one line

read_text : (text : List ℕ) (pairs : List (IdKind × List ℕ)) → line_identifiers text ≡ Some pairs → IsUtf8 text × (identifiers_in text ≡ Ok pairs)
read_text text pairs h = go (is_utf8 text) refl h where
  go_on : (r : Result (List (IdKind × List ℕ)) IdFault) → identifiers_in text ≡ r → result_ok r ≡ Some pairs → identifiers_in text ≡ Ok pairs
  go_on (Ok own) is e = is ∙ ap Ok (same_Some own pairs e)
  go_on (Err fault) is e = absurd (none-some pairs e)

  go : (b : Bool) → is_utf8 text ≡ b → cond b (result_ok (identifiers_in text)) None ≡ Some pairs → IsUtf8 text × (identifiers_in text ≡ Ok pairs)
  go true is e = (IsUtf8-from_is_utf8 text is, go_on (identifiers_in text) refl e)
  go false is e = absurd (none-some pairs e)

text_read : (text : List ℕ) (pairs : List (IdKind × List ℕ)) → IsUtf8 text → identifiers_in text ≡ Ok pairs → line_identifiers text ≡ Some pairs
text_read text pairs valid h = rw (is_utf8-from_IsUtf8 text valid, h) refl

-- all numbers are at most the top
abbrev Below : LinkList → Type 0
Below list = All (λ (l : Link). l.number ≤ list.top) list.links

drained_low : (links : List Link) (number : ℕ) → All (λ (l : Link). l.number < number) links → map (drained number) links ≡ links
drained_low [] number low = refl
drained_low (l ∷ ls) number low =
    let first : l.number < number = All-head (λ (x : Link). x.number < number) l ls low in
    rw (ne_eqb l.number number (λ same. omega (arith, same, first)))
    (ap (λ t. l ∷ t) (drained_low ls number (All-tail (λ (x : Link). x.number < number) l ls low)))

abbrev next_link : LinkList → Bool → List (IdKind × List ℕ) → Link
next_link list draining pairs = record { number = list.top + 1; draining = draining; identifiers = pairs }

abbrev with_next_link : LinkList → Bool → List (IdKind × List ℕ) → LinkList
with_next_link list draining pairs = record { links = list.links ++ next_link list draining pairs ∷ []; top = list.top + 1 }

drained_last : (links : List Link) (last : Link) (number : ℕ) → last.number ≡ number → All (λ (l : Link). l.number < number) links → map (drained number) (links ++ last ∷ []) ≡ links ++ (record last { draining = true }) ∷ []
drained_last [] last number same low = rw (eq-eqb last.number number same) refl
drained_last (l ∷ ls) last number same low =
    let first : l.number < number = All-head (λ (x : Link). x.number < number) l ls low in
    rw (ne_eqb l.number number (λ equal. omega (arith, equal, first)))
    (ap (λ t. l ∷ t) (drained_last ls last number same (All-tail (λ (x : Link). x.number < number) l ls low)))

next_is : (list : LinkList) (draining : Bool) (pairs : List (IdKind × List ℕ)) → Below list → with_next list draining (Some pairs) ≡ Ok (with_next_link list draining pairs)
next_is list false pairs below = refl
next_is list true pairs below =
    let low = All-weaker (λ (l : Link). l.number ≤ list.top) (λ (l : Link). l.number < list.top + 1) (λ l h. omega (arith, h)) list.links below in
    ap (λ ls. let r : Result LinkList ℕ = Ok (record { links = ls; top = list.top + 1 }) in r) (drained_last list.links (next_link list false pairs) (list.top + 1) refl low)

below_next : (list : LinkList) (draining : Bool) (pairs : List (IdKind × List ℕ)) → Below list → Below (with_next_link list draining pairs)
below_next list draining pairs below =
    All-push (λ (l : Link). l.number ≤ list.top + 1) list.links (next_link list draining pairs)
    (All-weaker (λ (l : Link). l.number ≤ list.top) (λ (l : Link). l.number ≤ list.top + 1) (λ l h. omega (arith, h)) list.links below) (omega arith)

-- what a line adds
record LineRead (list : LinkList) (line : List ℕ) (after : LinkList) : Type 0 where
  link : Link
  grown : after ≡ record { links = list.links ++ link ∷ []; top = list.top + 1 }
  is_line : IsLine (list.top + 1) line link
  below : Below after

line_read : (list : LinkList) (line : List ℕ) (after : LinkList) → Below list → with_line list line ≡ Ok after → LineRead list line after
line_read list line after below h = go (begins 33 line) refl h where
  go_on : (marked : Bool) → begins 33 line ≡ marked → (found : Option (List (IdKind × List ℕ))) → line_identifiers (cond marked (drop 1 line) line) ≡ found → with_next list marked found ≡ Ok after → LineRead list line after
  go_on marked front None is e = absurd (err_ok (list.top + 1) after (by_mark marked e)) where
    by_mark : (m : Bool) → with_next list m None ≡ Ok after → Err (list.top + 1) ≡ Ok after
    by_mark true e = e
    by_mark false e = e
  go_on true front (Some pairs) is e =
      let text = read_text (drop 1 line) pairs is in
      let same : with_next_link list true pairs ≡ after = same_ok _ after (sym (next_is list true pairs below) ∙ e) in
      record {
        link = next_link list true pairs;
        grown = sym same;
        is_line = record { text = drop 1 line; mark = inl (begins_front 33 line (omega arith) front, refl); utf8 = text.0; read = text.1; numbered = refl };
        below = subst Below same (below_next list true pairs below);
      }
  go_on false front (Some pairs) is e =
      let text = read_text line pairs is in
      let same : with_next_link list false pairs ≡ after = same_ok _ after (sym (next_is list false pairs below) ∙ e) in
      record {
        link = next_link list false pairs;
        grown = sym same;
        is_line = record { text = line; mark = inr (refl, front, refl); utf8 = text.0; read = text.1; numbered = refl };
        below = subst Below same (below_next list false pairs below);
      }

  go : (marked : Bool) → begins 33 line ≡ marked → with_next list marked (line_identifiers (cond marked (drop 1 line) line)) ≡ Ok after → LineRead list line after
  go marked front e = go_on marked front (line_identifiers (cond marked (drop 1 line) line)) refl e

-- ---- all lines

record LinesRead (list : LinkList) (lines : List (List ℕ)) (after : LinkList) : Type 0 where
  more : List Link
  grown : after.links ≡ list.links ++ more
  top : after.top ≡ list.top + length more
  are_links : AreLinks (list.top + 1) lines more

lines_read : (list : LinkList) (lines : List (List ℕ)) (after : LinkList) → Below list → steps with_line list lines ≡ Ok after → LinesRead list lines after
lines_read list [] after below h =
    let same : list ≡ after = same_ok list after h in
    record { more = []; grown = ap (λ l. l.links) (sym same) ∙ sym (append-nil list.links); top = ap (λ l. l.top) (sym same) ∙ omega arith; are_links = tt }
lines_read list (line ∷ lines) after below h = go (λ t b. lines_read t lines after b) (with_line list line) refl h where
  go : ((t : LinkList) → Below t → steps with_line t lines ≡ Ok after → LinesRead t lines after) → (r : Result LinkList ℕ) → with_line list line ≡ r → and_then r (λ t. steps with_line t lines) ≡ Ok after → LinesRead list (line ∷ lines) after
  go later (Err e) is k = absurd (err_ok e after k)
  go later (Ok t) is k =
      let first = line_read list line t below is in
      let rest = later t first.below k in
      let links_are : t.links ≡ list.links ++ first.link ∷ [] = ap (λ l. l.links) first.grown in
      let top_is : t.top ≡ list.top + 1 = ap (λ l. l.top) first.grown in
      record {
        more = first.link ∷ rest.more;
        grown = rest.grown ∙ ap (λ u. u ++ rest.more) links_are ∙ append_assoc list.links (first.link ∷ []) rest.more;
        top = omega (arith, rest.top, top_is);
        are_links = (first.is_line, subst (λ n. AreLinks (n + 1) lines rest.more) top_is rest.are_links);
      }

pub listing_spelled : (bytes : List ℕ) (list : LinkList) → links_in bytes ≡ Ok list → IsListing bytes list
unfolding links_in
listing_spelled bytes list h =
    let read = lines_read no_links (lines_of bytes) list (All-nil _) h in
    let count : list.top ≡ 0 + length read.more = read.top in
    let long : length read.more ≡ length list.links = ap length (sym read.grown) in
    record {
      links = subst (AreLinks 1 (lines_of bytes)) (sym read.grown) read.are_links;
      top = omega (arith, count, long);
    }

line_of_link : (list : LinkList) (line : List ℕ) (link : Link) → Below list → IsLine (list.top + 1) line link → with_line list line ≡ Ok (record { links = list.links ++ link ∷ []; top = list.top + 1 })
line_of_link list line link below h = go h.mark where
  link_is : (draining : Bool) → link.draining ≡ draining → next_link list draining link.identifiers ≡ link
  link_is draining is = ap2 is h.numbered where
    ap2 : link.draining ≡ draining → link.number ≡ list.top + 1 → next_link list draining link.identifiers ≡ link
    ap2 d n = rw (← d, ← n) refl

  go : ((line ≡ 33 ∷ h.text) × (link.draining ≡ true)) ⊎ ((line ≡ h.text) × (begins 33 line ≡ false) × (link.draining ≡ false)) → with_line list line ≡ Ok (record { links = list.links ++ link ∷ []; top = list.top + 1 })
  go (inl (marked, draining)) =
      let front : begins 33 line ≡ true = ap (begins 33) marked in
      let rest : drop 1 line ≡ h.text = ap (drop 1) marked in
      rw (front, rest, text_read h.text link.identifiers h.utf8 h.read)
      (next_is list true link.identifiers below ∙ ap (λ l. let r : Result LinkList ℕ = Ok (record { links = list.links ++ l ∷ []; top = list.top + 1 }) in r) (link_is true draining))
  go (inr (same, front, steady)) =
      rw (front, same, text_read h.text link.identifiers h.utf8 h.read)
      (next_is list false link.identifiers below ∙ ap (λ l. let r : Result LinkList ℕ = Ok (record { links = list.links ++ l ∷ []; top = list.top + 1 }) in r) (link_is false steady))

lines_of_links : (list : LinkList) (lines : List (List ℕ)) (more : List Link) → Below list → AreLinks (list.top + 1) lines more → steps with_line list lines ≡ Ok (record { links = list.links ++ more; top = list.top + length more })
lines_of_links list [] [] below h = let none : list.top + 0 ≡ list.top = omega arith in rw (append-nil list.links, none) refl
lines_of_links list [] (link ∷ more) below h = absurd h
lines_of_links list (line ∷ lines) [] below h = absurd h
lines_of_links list (line ∷ lines) (link ∷ more) below h =
    let next : LinkList = record { links = list.links ++ link ∷ []; top = list.top + 1 } in
    let low : Below next = All-push (λ (l : Link). l.number ≤ list.top + 1) list.links link
    (All-weaker (λ (l : Link). l.number ≤ list.top) (λ (l : Link). l.number ≤ list.top + 1) (λ l b. omega (arith, b)) list.links below)
    (let n = h.0.numbered in omega arith) in
    let rest = lines_of_links next lines more low h.1 in
    let joined : (list.links ++ link ∷ []) ++ more ≡ list.links ++ link ∷ more = append_assoc list.links (link ∷ []) more in
    let count : list.top + 1 + length more ≡ list.top + length (link ∷ more) = omega arith in
    rw (line_of_link list line link below h.0) (rest ∙ rw (joined, count) refl)

pub spelled_listing : (bytes : List ℕ) (list : LinkList) → IsListing bytes list → links_in bytes ≡ Ok list
unfolding links_in
spelled_listing bytes list h =
    let count : 0 + length list.links ≡ list.top = omega (arith, h.top) in
    lines_of_links no_links (lines_of bytes) list.links (All-nil _) h.links
    ∙ ap (λ n. let r : Result LinkList ℕ = Ok (record { links = list.links; top = n }) in r) count

-- ---- bytes in lines

record Cut (bytes : List ℕ) : Type 0 where
  lines : List (List ℕ)
  rest : List ℕ
  are_lines : AreLines bytes lines rest

cut_lines : (bytes : List ℕ) → Cut bytes
cut_lines [] = record { lines = []; rest = []; are_lines = record { joined = refl; whole = All-nil (HasNo 10); last = All-nil (λ b. b ≢ 10) } }
cut_lines (b ∷ bs) = go (b == 10) refl (cut_lines bs) where
  more : (lines : List (List ℕ)) (rest : List ℕ) → b ≢ 10 → AreLines bs lines rest → Cut (b ∷ bs)
  more [] rest other are = record { lines = []; rest = b ∷ rest; are_lines = record { joined = ap (λ t. b ∷ t) are.joined; whole = All-nil (HasNo 10); last = All-cons (λ c. c ≢ 10) b rest other are.last } }
  more (l ∷ ls) rest other are = record {
    lines = (b ∷ l) ∷ ls;
    rest = rest;
    are_lines = record {
      joined = ap (λ t. b ∷ t) are.joined;
      whole = All-cons (HasNo 10) (b ∷ l) ls (All-cons (λ c. c ≢ 10) b l other (All-head (HasNo 10) l ls are.whole)) (All-tail (HasNo 10) l ls are.whole);
      last = are.last;
    };
  }

  go : (is_end : Bool) → (b == 10) ≡ is_end → Cut bs → Cut (b ∷ bs)
  go true is cut =
      let end : b ≡ 10 = eqb-true b 10 is in
      record {
        lines = [] ∷ cut.lines;
        rest = cut.rest;
        are_lines = record {
          joined = subst (λ c. b ∷ bs ≡ c ∷ (ended cut.lines ++ cut.rest)) end (ap (λ t. b ∷ t) cut.are_lines.joined);
          whole = All-cons (HasNo 10) [] cut.lines (All-nil (λ c. c ≢ 10)) cut.are_lines.whole;
          last = cut.are_lines.last;
        };
      }
  go false is cut = more cut.lines cut.rest (eqb-false b 10 is) cut.are_lines

pub in_lines : (bytes : List ℕ) → (lines : List (List ℕ)) × (rest : List ℕ) × AreLines bytes lines rest
in_lines bytes = let cut = cut_lines bytes in (cut.lines, cut.rest, cut.are_lines)

parts_of_lines : (lines : List (List ℕ)) (rest : List ℕ) → All (HasNo 10) lines → HasNo 10 rest → parts_of 10 (ended lines ++ rest) ≡ lines ++ rest ∷ []
parts_of_lines [] rest whole last = slice_split_none (λ b. b == 10) rest (λ k d inside. ne_eqb _ 10 (last k d inside))
parts_of_lines (l ∷ ls) rest whole last =
    ap (parts_of 10) (append_assoc l (10 ∷ ended ls) rest)
    ∙ slice_split_at (λ b. b == 10) l 10 (ended ls ++ rest) (λ k d inside. ne_eqb _ 10 (All-head (HasNo 10) l ls whole k d inside)) refl
    ∙ ap (λ ps. l ∷ ps) (parts_of_lines ls rest (All-tail (HasNo 10) l ls whole) last)

last_empty : (lines : List (List ℕ)) → without_last_empty (lines ++ [] ∷ []) ≡ lines
last_empty [] = refl
last_empty (l ∷ []) = refl
last_empty (l ∷ next ∷ ls) = ap (λ t. l ∷ t) (last_empty (next ∷ ls))

last_some : (lines : List (List ℕ)) (rest : List ℕ) → 0 < length rest → without_last_empty (lines ++ rest ∷ []) ≡ lines ++ rest ∷ []
last_some [] rest some = rw (ne_eqb (length rest) 0 (λ none. omega (arith, some, none))) refl
last_some (l ∷ []) rest some = ap (λ t. l ∷ t) (last_some [] rest some)
last_some (l ∷ next ∷ ls) rest some = ap (λ t. l ∷ t) (last_some (next ∷ ls) rest some)

pub whole_lines : (bytes : List ℕ) (lines : List (List ℕ)) → AreLines bytes lines [] → lines_of bytes ≡ lines
whole_lines bytes lines h = ap without_last_empty (ap (parts_of 10) h.joined ∙ parts_of_lines lines [] h.whole h.last) ∙ last_empty lines

pub open_lines : (bytes : List ℕ) (lines : List (List ℕ)) (rest : List ℕ) → AreLines bytes lines rest → 0 < length rest → lines_of bytes ≡ lines ++ rest ∷ []
open_lines bytes lines rest h some = ap without_last_empty (ap (parts_of 10) h.joined ∙ parts_of_lines lines rest h.whole h.last) ∙ last_some lines rest some
