-- Lists that are the beginning of others, and bytes that move from one list to the one before it.
use Rattle.std.proofs.Common.{◌≡◌, ◌++◌, ℕ, Bool, true, false, not, List, [], ◌∷◌, zero, suc, take, drop, refl, sym, ap, ◌∙◌, append_assoc, take-append-drop}
use Rattle.kn_tunnel.specs.Cuts.{IsPrefixOf}
use Rattle.kn_tunnel.specs.Kinds.{has, implies}

-- a text moved from the head of one part to the tail of the part before it
pub moved : (n : ℕ) (a b : List ℕ) → (a ++ take n b) ++ drop n b ≡ a ++ b
moved n a b = append_assoc a (take n b) (drop n b) ∙ ap (λ x. a ++ x) (take-append-drop n b)

pub front_of : (a b c : List ℕ) → IsPrefixOf (a ++ b) c → IsPrefixOf a c
front_of a b c p = (b ++ p.0, sym (append_assoc a b p.0) ∙ p.1)

pub of_same : (a b c : List ℕ) → a ≡ b → IsPrefixOf b c → IsPrefixOf a c
of_same a b c e p = (p.0, ap (λ x. x ++ p.0) e ∙ p.1)

pub to_same : (a b c : List ℕ) → b ≡ c → IsPrefixOf a b → IsPrefixOf a c
to_same a b c e p = (p.0, p.1 ∙ e)

pub to_longer : (a b c : List ℕ) → IsPrefixOf a b → IsPrefixOf a (b ++ c)
to_longer a b c p = (p.0 ++ c, sym (append_assoc a p.0 c) ∙ ap (λ x. x ++ c) p.1)

-- a shorter end
pub shorter : (a b b' c : List ℕ) → IsPrefixOf b' b → IsPrefixOf (a ++ b) c → IsPrefixOf (a ++ b') c
shorter a b b' c p q = front_of (a ++ b') p.0 c (of_same ((a ++ b') ++ p.0) (a ++ b) c (append_assoc a b' p.0 ∙ ap (λ x. a ++ x) p.1) q)

pub prefix_of_prefix : (a b c : List ℕ) → IsPrefixOf a b → IsPrefixOf b c → IsPrefixOf a c
prefix_of_prefix a b c p q = front_of a p.0 c (of_same (a ++ p.0) b c p.1 q)

pub empty_prefix : (a c : List ℕ) → a ≡ [] → IsPrefixOf a c
empty_prefix a c e = (c, ap (λ x. x ++ c) e)

-- what is not there
pub nothing : (xs : List ℕ) → not (has xs) ≡ true → xs ≡ []
nothing [] e = refl
nothing (x ∷ xs) e = absurd cc

abbrev pub no_list : List ℕ
no_list = []

take_of_none : (n : ℕ) → take n no_list ≡ no_list
take_of_none zero = refl
take_of_none (suc n) = refl

drop_of_none : (n : ℕ) → drop n no_list ≡ no_list
drop_of_none zero = refl
drop_of_none (suc n) = refl

pub take_none : (n : ℕ) (xs : List ℕ) → xs ≡ [] → take n xs ≡ []
take_none n xs e = ap (take n) e ∙ take_of_none n

pub drop_none : (n : ℕ) (xs : List ℕ) → xs ≡ [] → drop n xs ≡ []
drop_none n xs e = ap (drop n) e ∙ drop_of_none n

pub prefix_none : (xs ys : List ℕ) → ys ≡ [] → IsPrefixOf xs ys → xs ≡ []
prefix_none [] ys e p = refl
prefix_none (x ∷ xs) ys e p = absurd (cc (p.1, e))

pub front_none : (xs ys : List ℕ) → xs ++ ys ≡ [] → xs ≡ []
front_none [] ys e = refl
front_none (x ∷ xs) ys e = absurd cc

pub says : (a b : Bool) → implies a b ≡ true → a ≡ true → b ≡ true
says true b e f = e
says false b e f = absurd cc

pub never : (b : Bool) → b ≡ false → b ≡ true → ⊥
never true e f = absurd cc
never false e f = absurd cc

pub not_both : (b : Bool) → not b ≡ true → b ≡ true → ⊥
not_both true e f = absurd cc
not_both false e f = absurd cc

pub is_false : (b : Bool) → not b ≡ true → b ≡ false
is_false true e = absurd cc
is_false false e = refl
