-- Links stay in rising order.
use Rattle.std.proofs.Common.{◌≡◌, ℕ, ◌+◌, ◌<◌, ◌≤◌, ◌==◌, List, [], ◌∷◌, ◌++◌, map, length, get_or, Bool, true, false, not, cond, refl, sym, ap, subst, arith, length-append, inl, inr}
use Rattle.std.specs.Prelude.{filter, All}
use Rattle.std.specs.List.Sorted.{IsStrictlyIncreasing}
use Rattle.std.proofs.lemmas.Bool.{cases_lt}
use Rattle.std.proofs.lemmas.List.{get_or_append_left, map_push}
use Rattle.std.proofs.lemmas.List.Kept.{IsStrictlyIncreasing-filter}
use Rattle.std.proofs.lemmas.List.Elements.{All-push, All-weaker, All-get_or, All-filter, All-nil}
use Rattle.std.proofs.Math.Seq.{get_or-append_seam}
use Rattle.kn_route.specs.declared.id_kind.IdKind.{IdKind}
use Rattle.kn_route.specs.declared.link.Link.{Link}
use Rattle.kn_route.specs.LinkLists.{numbers_of, is_link, drained, IsRising}

pub rising_none : IsRising (record { links = []; top = 0 })
rising_none = record { rising = λ k h. absurd (omega arith); within = All-nil _ }

rising-push : (xs : List ℕ) (top y : ℕ) → IsStrictlyIncreasing xs → All (λ n. n ≤ top) xs → top < y → IsStrictlyIncreasing (xs ++ y ∷ [])
rising-push xs top y rising within above k inside =
    let long = length-append xs (y ∷ []) in
    let next : k < length xs = omega arith in
    let here = get_or_append_left xs (y ∷ []) 0 k next in
    elim (cases_lt (k + 1) (length xs)) [
      | inl more ↦ rw (here, get_or_append_left xs (y ∷ []) 0 (k + 1) more) (rising k more)
      | inr last ↦
          let place : length xs ≡ k + 1 = omega arith in
          let seam : get_or (xs ++ y ∷ []) (k + 1) 0 ≡ y = subst (λ n. get_or (xs ++ y ∷ []) n 0 ≡ y) place (get_or-append_seam xs y [] 0) in
          let below : get_or xs k 0 ≤ top = All-get_or (λ n. n ≤ top) xs k 0 next within in
          omega arith
    ]

pub rising-up : (links : List Link) (top number : ℕ) (identifiers : List (IdKind × List ℕ)) → IsRising (record { links = links; top = top }) → top < number → IsRising (record { links = links ++ (record { number = number; draining = false; identifiers = identifiers }) ∷ []; top = number })
rising-up links top number identifiers h above =
    let link : Link = record { number = number; draining = false; identifiers = identifiers } in
    let more : numbers_of (links ++ link ∷ []) ≡ numbers_of links ++ number ∷ [] = map_push (λ (l : Link). l.number) links link in
    record {
      rising = subst IsStrictlyIncreasing (sym more) (rising-push (numbers_of links) top number h.rising h.within above);
      within =
          subst (All (λ n. n ≤ number)) (sym more)
          (All-push (λ n. n ≤ number) (numbers_of links) number
          (All-weaker (λ n. n ≤ top) (λ n. n ≤ number) (λ n low. omega arith) (numbers_of links) h.within) (omega arith));
    }

drained-number : (number : ℕ) (link : Link) → (drained number link).number ≡ link.number
drained-number number link = go (is_link number link) where
  go : (b : Bool) → (cond b (record link { draining = true }) link).number ≡ link.number
  go true = refl
  go false = refl

numbers-drained : (number : ℕ) (links : List Link) → numbers_of (map (drained number) links) ≡ numbers_of links
numbers-drained number [] = refl
numbers-drained number (l ∷ ls) = rw (drained-number number l) (ap (λ ns. l.number ∷ ns) (numbers-drained number ls))

pub rising-drain : (links : List Link) (top number : ℕ) → IsRising (record { links = links; top = top }) → IsRising (record { links = map (drained number) links; top = top })
rising-drain links top number h = record {
  rising = subst IsStrictlyIncreasing (sym (numbers-drained number links)) h.rising;
  within = subst (All (λ n. n ≤ top)) (sym (numbers-drained number links)) h.within;
}

numbers-without : (number : ℕ) (links : List Link) → numbers_of (filter (λ l. not (is_link number l)) links) ≡ filter (λ n. not (n == number)) (numbers_of links)
numbers-without number [] = refl
numbers-without number (l ∷ ls) = go (not (l.number == number)) refl (numbers-without number ls) where
  go : (b : Bool) → not (l.number == number) ≡ b → numbers_of (filter (λ k. not (is_link number k)) ls) ≡ filter (λ n. not (n == number)) (numbers_of ls) → numbers_of (filter (λ k. not (is_link number k)) (l ∷ ls)) ≡ filter (λ n. not (n == number)) (numbers_of (l ∷ ls))
  go true h later = rw h (ap (λ ns. l.number ∷ ns) later)
  go false h later = rw h later

pub rising-down : (links : List Link) (top number : ℕ) → IsRising (record { links = links; top = top }) → IsRising (record { links = filter (λ l. not (is_link number l)) links; top = top })
rising-down links top number h = record {
  rising = subst IsStrictlyIncreasing (sym (numbers-without number links)) (IsStrictlyIncreasing-filter _ _ h.rising);
  within = subst (All (λ n. n ≤ top)) (sym (numbers-without number links)) (All-filter _ (λ n. n ≤ top) _ h.within);
}
