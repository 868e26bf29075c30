-- Elements of a filtered list, by their place.
use Rattle.std.proofs.Common.{◌≡◌, ℕ, zero, suc, ◌+◌, ◌<◌, List, [], ◌∷◌, map, length, get_or, take, Bool, true, false, refl, sym, ap, ◌∙◌, arith}
use Rattle.std.specs.Prelude.{filter}

-- an element that passes stands in the filtered list after those that pass before it
found_at : {X : Type 0} (f : X → ℕ) (p : X → Bool) (xs : List X) (i : ℕ) (x : X) → i < length xs → x ≡ get_or xs i x → p x ≡ true → get_or (map f (filter p xs)) (length (filter p (take i xs))) 0 ≡ f x
found_at f p [] i x inside is passes = absurd (omega arith)
found_at f p (y ∷ ys) zero x inside is passes = rw (ap p (sym is) ∙ passes) (ap f (sym is))
found_at f p (y ∷ ys) (suc i) x inside is passes =
    go (p y) refl (found_at f p ys i x (omega arith) is passes) where
      go : (b : Bool) → p y ≡ b → get_or (map f (filter p ys)) (length (filter p (take i ys))) 0 ≡ f x → get_or (map f (filter p (y ∷ ys))) (length (filter p (take (suc i) (y ∷ ys)))) 0 ≡ f x
      go true h later = rw h later
      go false h later = rw h later

pub number_found : {X : Type 0} (f : X → ℕ) (p : X → Bool) (xs : List X) (i left place : ℕ) (x : X) → i < length xs → x ≡ get_or xs i x → p x ≡ true → left + length (filter p (take i xs)) ≡ place → left ≡ 0 → f x ≡ get_or (map f (filter p xs)) place 0
number_found f p xs i left place x inside is passes count none =
    let there : length (filter p (take i xs)) ≡ place = omega arith in
    sym (rw there at (found_at f p xs i x inside is passes))
