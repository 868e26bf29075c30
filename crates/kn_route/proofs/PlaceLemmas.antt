-- One place among links by rising number, and what is changed there.
use Rattle.std.proofs.Common.{◌≡◌, ℕ, zero, suc, ◌<◌, ◌≤◌, ◌⊎◌, List, [], ◌∷◌, map, length, get_or, set, Bool, true, false, ◌||◌, refl, ap, arith, inl, inr, ne_eqb, ltb}
use Rattle.std.specs.List.{list_any}
use Rattle.std.specs.List.Sorted.{IsStrictlyIncreasing, IsNonDecreasingBy, IsPartitionPoint}
use Rattle.std.proofs.lemmas.Bool.{cases_lt, ltb-true, ltb-false}
use Rattle.std.proofs.lemmas.List.{get_or-map, length-map}
use Rattle.std.proofs.lemmas.List.Kept.{AllPairs-from_increasing}
use Rattle.kn_route.specs.declared.link.Link.{Link}
use Rattle.kn_route.specs.LinkLists.{numbers_of, is_link, drained}
use Rattle.kn_route.specs.Places.{IsOnlyPlace}

-- a later link has a higher number
later : (links : List Link) → IsStrictlyIncreasing (numbers_of links) → (i j : ℕ) (d : Link) → i < j → j < length links → (get_or links i d).number < (get_or links j d).number
later links rising i j d before inside =
    let long : length (numbers_of links) ≡ length links = length-map links (λ (l : Link). l.number) in
    let first : get_or (numbers_of links) i 0 ≡ (get_or links i d).number = get_or-map (λ (l : Link). l.number) links i d 0 (omega arith) in
    let second : get_or (numbers_of links) j 0 ≡ (get_or links j d).number = get_or-map (λ (l : Link). l.number) links j d 0 inside in
    let grows : get_or (numbers_of links) i 0 < get_or (numbers_of links) j 0 = AllPairs-from_increasing (numbers_of links) rising i j 0 before (omega arith) in
    omega arith

pub no_lower : (links : List Link) → IsStrictlyIncreasing (numbers_of links) → IsNonDecreasingBy (λ (l : Link). l.number) links
no_lower links rising i j d within inside = go (cases_lt i j) where
  go : (i < j) ⊎ (j ≤ i) → (get_or links i d).number ≤ (get_or links j d).number
  go (inl before) = let grows = later links rising i j d before inside in omega arith
  go (inr past) = let same : i ≡ j = omega arith in rw same (omega arith)

-- a search by halves for the first link of no lower number
pub only_place : (links : List Link) (number place : ℕ) → IsStrictlyIncreasing (numbers_of links) → place ≤ length links → IsPartitionPoint (λ (l : Link). ltb l.number number ≡ true) (λ (l : Link). ltb l.number number ≡ false) links place → IsOnlyPlace number links place
only_place links number place rising within found k d inside other same = go (cases_lt k place) where
  go : (k < place) ⊎ (place ≤ k) → ⊥
  go (inl before) =
      let below = ltb-true _ _ (found.0 k d (omega arith) before) in
      omega (arith, below, same)
  go (inr from) =
      let here = ltb-false _ _ (found.1 place d (omega arith) (omega arith)) in
      let grows = later links rising place k d (omega (arith, from, other)) inside in
      omega (arith, here, grows, same)

drained_other : (number : ℕ) (link : Link) → ¬ (link.number ≡ number) → drained number link ≡ link
drained_other number link other = rw (ne_eqb link.number number other) refl

drained_none : (number : ℕ) (links : List Link) → ((k : ℕ) (d : Link) → k < length links → ¬ ((get_or links k d).number ≡ number)) → links ≡ map (drained number) links
drained_none number [] others = refl
drained_none number (l ∷ ls) others =
    rw (drained_other number l (others 0 l (omega arith)))
    (ap (λ t. l ∷ t) (drained_none number ls (λ k d inside. others (suc k) d (omega arith))))

-- the link at the only place drains, so all of that number do
pub drained_there : (number : ℕ) (links : List Link) (place : ℕ) (d : Link) → IsOnlyPlace number links place → place < length links → set links place (drained number (get_or links place d)) ≡ map (drained number) links
drained_there number [] place d only inside = absurd (omega arith)
drained_there number (l ∷ ls) zero d only inside =
    ap (λ t. drained number l ∷ t) (drained_none number ls (λ k e within. only (suc k) e (omega arith) (λ same. omega (arith, same))))
drained_there number (l ∷ ls) (suc place) d only inside =
    rw (drained_other number l (only 0 l (omega arith) (λ same. omega (arith, same))))
    (ap (λ t. l ∷ t) (drained_there number ls place d (λ k e within other. only (suc k) e (omega arith) (λ same. other (omega (arith, same)))) (omega arith)))

pub drained_nowhere : (number : ℕ) (links : List Link) (place : ℕ) → IsOnlyPlace number links place → length links ≤ place → links ≡ map (drained number) links
drained_nowhere number links place only past = drained_none number links (λ k d inside. only k d inside (λ same. omega (arith, same, inside)))

any_none : (number : ℕ) (links : List Link) → ((k : ℕ) (d : Link) → k < length links → ¬ ((get_or links k d).number ≡ number)) → list_any (is_link number) links ≡ false
any_none number [] others = refl
any_none number (l ∷ ls) others =
    rw (ne_eqb l.number number (others 0 l (omega arith)))
    (any_none number ls (λ k d inside. others (suc k) d (omega arith)))

pub any_nowhere : (number : ℕ) (links : List Link) (place : ℕ) → IsOnlyPlace number links place → length links ≤ place → list_any (is_link number) links ≡ false
any_nowhere number links place only past = any_none number links (λ k d inside. only k d inside (λ same. omega (arith, same, inside)))

-- a link has the number where the one at the only place has it
pub any_there : (number : ℕ) (links : List Link) (place : ℕ) (d : Link) → IsOnlyPlace number links place → place < length links → is_link number (get_or links place d) ≡ list_any (is_link number) links
any_there number [] place d only inside = absurd (omega arith)
any_there number (l ∷ ls) zero d only inside =
    let rest = any_none number ls (λ k e within. only (suc k) e (omega arith) (λ same. omega (arith, same))) in
    rw rest (go (is_link number l)) where
      go : (b : Bool) → b ≡ (b || false)
      go true = refl
      go false = refl
any_there number (l ∷ ls) (suc place) d only inside =
    rw (ne_eqb l.number number (only 0 l (omega arith) (λ same. omega (arith, same))))
    (any_there number ls place d (λ k e within other. only (suc k) e (omega arith) (λ same. other (omega (arith, same)))) (omega arith))
