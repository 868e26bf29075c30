-- A choice is a link of the first strategy that has one.
use Rattle.std.proofs.Common.{◌≡◌, ℕ, ◌<◌, ◌%◌, List, [], ◌∷◌, length, get_or, Option, Some, None, Bool, true, false, ◌&&◌, refl, sym, ap, ◌∙◌, subst, arith}
use Rattle.std.specs.Prelude.{All, filter}
use Rattle.std.specs.List.{Contains}
use Rattle.std.proofs.Math.Nat.{mod-lt}
use Rattle.std.proofs.lemmas.Bool.{false≢true, and_parts}
use Rattle.std.proofs.lemmas.Option.{none-some, same_Some}
use Rattle.std.proofs.lemmas.List.{get_or-map, get_or_default}
use Rattle.std.proofs.lemmas.List.Elements.{All-nil, All-cons, All-weaker, All-contains, All-contains_itself, All-filter, filter_passes}
use Rattle.kn_route.specs.declared.strategy.Strategy.{Strategy}
use Rattle.kn_route.specs.declared.link.Link.{Link}
use Rattle.kn_route.specs.LinkLists.{numbers_of}
use Rattle.kn_route.specs.Choice.{is_same_flag, is_of, is_candidate, links_of, first_nonempty, candidates, chosen, with_strategy, pick}
use Rattle.kn_route.specs.Fitting.{IsOf}
use Rattle.kn_route.specs.Picks.{HasNone, IsPick}
use Rattle.kn_route.proofs.FittingLemmas.{link_is_of, of_link}

filter_none : {X : Type 0} (p : X → Bool) (xs : List X) → filter p xs ≡ [] → All (λ x. p x ≡ false) xs
filter_none p [] h = All-nil _
filter_none p (x ∷ xs) h = go (p x) refl (filter_none p xs) h where
  go : (b : Bool) → p x ≡ b → (filter p xs ≡ [] → All (λ y. p y ≡ false) xs) → filter p (x ∷ xs) ≡ [] → All (λ y. p y ≡ false) (x ∷ xs)
  go true is rest e = absurd (let long : length (x ∷ filter p xs) ≡ 0 = ap length (rw is at e) in omega (arith, long))
  go false is rest e = All-cons (λ y. p y ≡ false) x xs is (rest (rw is at e))

-- ---- candidates

record Found (strategy : Strategy) (host : List ℕ) (links : List Link) (link : Link) : Type 0 where
  there : Contains links link
  of : IsOf strategy host link
  drains : link.draining ≡ true → All (λ other. IsOf strategy host other → other.draining ≡ true) links

flag_false : (b : Bool) → is_same_flag b false ≡ true → b ≡ false
flag_false true h = absurd (false≢true h)
flag_false false h = refl

in_links : (strategy : Strategy) (host : List ℕ) (draining : Bool) (links : List Link) (link : Link) → Contains (links_of strategy host draining links) link → Contains links link × (is_same_flag link.draining draining ≡ true) × IsOf strategy host link
in_links strategy host draining links link there =
    let passes = All-contains (λ l. is_candidate strategy host draining l ≡ true) _ link (filter_passes (is_candidate strategy host draining) links) there in
    let parts = and_parts (is_same_flag link.draining draining) (is_of strategy host link) passes in
    let inside = All-contains (Contains links) _ link (All-filter (is_candidate strategy host draining) (Contains links) links (All-contains_itself links)) there in
    (inside, parts.0, link_is_of strategy host link parts.1)

-- where none that does not drain is a candidate, each link of the strategy drains
all_drain : (strategy : Strategy) (host : List ℕ) (links : List Link) → links_of strategy host false links ≡ [] → All (λ other. IsOf strategy host other → other.draining ≡ true) links
all_drain strategy host links none =
    All-weaker (λ l. is_candidate strategy host false l ≡ false) (λ other. IsOf strategy host other → other.draining ≡ true)
    (λ l fails of. by_flag l.draining (is_of strategy host l) (of_link strategy host l of) fails) links (filter_none (is_candidate strategy host false) links none) where
      by_flag : (d o : Bool) → o ≡ true → (is_same_flag d false && o) ≡ false → d ≡ true
      by_flag true o is fails = refl
      by_flag false true is fails = absurd (false≢true (sym fails))
      by_flag false false is fails = absurd (false≢true is)

candidate_is : (strategy : Strategy) (host : List ℕ) (links : List Link) (link : Link) → Contains (candidates strategy host links) link → Found strategy host links link
candidate_is strategy host links link there = go (links_of strategy host false links) refl there where
  go : (steady : List Link) → links_of strategy host false links ≡ steady → Contains (first_nonempty steady (links_of strategy host true links)) link → Found strategy host links link
  go [] is inside =
      let parts = in_links strategy host true links link inside in
      record { there = parts.0; of = parts.2; drains = λ d. all_drain strategy host links is }
  go (l ∷ ls) is inside =
      let parts = in_links strategy host false links link (subst (λ t. Contains t link) (sym is) inside) in
      record { there = parts.0; of = parts.2; drains = λ d. absurd (false≢true (sym (flag_false link.draining parts.1) ∙ d)) }

no_candidate : (strategy : Strategy) (host : List ℕ) (links : List Link) → candidates strategy host links ≡ [] → HasNone links host strategy
no_candidate strategy host links h = go (links_of strategy host false links) refl h where
  by_flags : (d o : Bool) → (is_same_flag d false && o) ≡ false → (is_same_flag d true && o) ≡ false → o ≡ true → ⊥
  by_flags true o steady draining of = false≢true (sym draining ∙ of)
  by_flags false o steady draining of = false≢true (sym steady ∙ of)

  go : (steady : List Link) → links_of strategy host false links ≡ steady → first_nonempty steady (links_of strategy host true links) ≡ [] → HasNone links host strategy
  go [] is none =
      let a = filter_none (is_candidate strategy host false) links is in
      let b = filter_none (is_candidate strategy host true) links none in
      λ k d inside of. by_flags (get_or links k d).draining (is_of strategy host (get_or links k d)) (a k d inside) (b k d inside) (of_link strategy host (get_or links k d) of)
  go (l ∷ ls) is none = absurd (let long : length (l ∷ ls) ≡ 0 = ap length none in omega (arith, long))

-- ---- the choice

record Chooses (links : List Link) (number : ℕ) : Type 0 where
  link : Link
  there : Contains links link
  numbered : link.number ≡ number

chosen_is : (links : List Link) (dial number : ℕ) → chosen links dial ≡ Some number → Chooses links number
chosen_is [] dial number h = absurd (none-some number h)
chosen_is (l ∷ ls) dial number h =
    let place = dial % length (l ∷ ls) in
    let inside : place < length (l ∷ ls) = mod-lt dial (omega arith) in
    let at_place : get_or (numbers_of (l ∷ ls)) place 0 ≡ (get_or (l ∷ ls) place l).number = get_or-map (λ (x : Link). x.number) (l ∷ ls) place l 0 inside in
    let same : get_or (numbers_of (l ∷ ls)) place 0 ≡ number = same_Some _ number h in
    record { link = get_or (l ∷ ls) place l; there = (place, inside, get_or_same (l ∷ ls) place l inside); numbered = sym at_place ∙ same } where
      get_or_same : (xs : List Link) (i : ℕ) (d : Link) → i < length xs → get_or xs i (get_or xs i d) ≡ get_or xs i d
      get_or_same xs i d inside = get_or_default xs i (get_or xs i d) d inside

not_chosen : (links : List Link) (dial : ℕ) → chosen links dial ≡ None → links ≡ []
not_chosen [] dial h = refl
not_chosen (l ∷ ls) dial h = absurd (none-some _ (sym h))

pub picked : (strategies : List Strategy) (links : List Link) (host : List ℕ) (dial : ℕ) (strategy : Strategy) (number : ℕ) → pick strategies links host dial ≡ Some (strategy, number) → IsPick strategies links host strategy number
unfolding pick
picked [] links host dial strategy number h = absurd (none-some _ h)
picked (s ∷ ss) links host dial strategy number h = go (picked ss links host dial strategy number) (chosen (candidates s host links) dial) refl h where
  go : (pick ss links host dial ≡ Some (strategy, number) → IsPick ss links host strategy number) → (found : Option ℕ) → chosen (candidates s host links) dial ≡ found → with_strategy s found (pick ss links host dial) ≡ Some (strategy, number) → IsPick (s ∷ ss) links host strategy number
  go rest (Some n) is e =
      let pair = same_Some _ _ e in
      let own : s ≡ strategy = ap (λ p. p.0) pair in
      let number_is : n ≡ number = ap (λ p. p.1) pair in
      let choice = chosen_is (candidates s host links) dial n is in
      let found = candidate_is s host links choice.link choice.there in
      record {
        earlier = [];
        later = ss;
        listed = ap (λ x. x ∷ ss) own;
        first = All-nil (HasNone links host);
        link = choice.link;
        there = found.there;
        numbered = choice.numbered ∙ number_is;
        of = subst (λ x. IsOf x host choice.link) own found.of;
        drains = subst (λ x. choice.link.draining ≡ true → All (λ other. IsOf x host other → other.draining ≡ true) links) own found.drains;
      }
  go rest None is e =
      let later = rest e in
      let none = no_candidate s host links (not_chosen (candidates s host links) dial is) in
      record {
        earlier = s ∷ later.earlier;
        later = later.later;
        listed = ap (λ xs. s ∷ xs) later.listed;
        first = All-cons (HasNone links host) s later.earlier none later.first;
        link = later.link;
        there = later.there;
        numbered = later.numbered;
        of = later.of;
        drains = later.drains;
      }

pub not_picked : (strategies : List Strategy) (links : List Link) (host : List ℕ) (dial : ℕ) → pick strategies links host dial ≡ None → All (HasNone links host) strategies
unfolding pick
not_picked [] links host dial h = All-nil _
not_picked (s ∷ ss) links host dial h = go (not_picked ss links host dial) (chosen (candidates s host links) dial) refl h where
  go : (pick ss links host dial ≡ None → All (HasNone links host) ss) → (found : Option ℕ) → chosen (candidates s host links) dial ≡ found → with_strategy s found (pick ss links host dial) ≡ None → All (HasNone links host) (s ∷ ss)
  go rest (Some n) is e = absurd (none-some _ (sym e))
  go rest None is e = All-cons (HasNone links host) s ss (no_candidate s host links (not_chosen (candidates s host links) dial is)) (rest e)
