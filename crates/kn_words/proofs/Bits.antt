-- Tests that are joined, and lists that are empty.
use Rattle.std.proofs.Common.{◌≡◌, ◌≤◌, ◌++◌, ◌&&◌, ◌||◌, ℕ, Bool, true, false, not, List, [], ◌∷◌, zero, suc, refl, sym, ap, ◌∙◌, arith}
use Rattle.kn_tunnel.specs.Cuts.{IsPrefixOf}
use Rattle.kn_tunnel.specs.Kinds.{is_empty, no_closes}

pub two : (a b : Bool) → (a && b) ≡ true → (a ≡ true) × (b ≡ true)
two true true e = (refl, refl)
two true false e = absurd cc
two false b e = absurd cc

pub three : (a b c : Bool) → (a && b && c) ≡ true → (a ≡ true) × (b ≡ true) × (c ≡ true)
three true true true e = (refl, refl, refl)
three true true false e = absurd cc
three true false c e = absurd cc
three false b c e = absurd cc

pub four : (a b c d : Bool) → (a && b && c && d) ≡ true → (a ≡ true) × (b ≡ true) × (c ≡ true) × (d ≡ true)
four true true true true e = (refl, refl, refl, refl)
four true true true false e = absurd cc
four true true false d e = absurd cc
four true false c d e = absurd cc
four false b c d e = absurd cc

pub all_two : (a b : Bool) → a ≡ true → b ≡ true → (a && b) ≡ true
all_two true b e f = f
all_two false b e f = absurd cc

pub all_three : (a b c : Bool) → a ≡ true → b ≡ true → c ≡ true → (a && b && c) ≡ true
all_three true true true e f g = refl
all_three true true false e f g = absurd cc
all_three true false c e f g = absurd cc
all_three false b c e f g = absurd cc

pub all_four : (a b c d : Bool) → a ≡ true → b ≡ true → c ≡ true → d ≡ true → (a && b && c && d) ≡ true
all_four true true true true e f g h = refl
all_four true true true false e f g h = absurd cc
all_four true true false d e f g h = absurd cc
all_four true false c d e f g h = absurd cc
all_four false b c d e f g h = absurd cc

pub either : (a b c : Bool) → (b ≡ true → c ≡ true) → (a || b) ≡ true → (a || c) ≡ true
either true b c f e = refl
either false b c f e = f e

pub first_holds : (a b : Bool) → a ≡ true → (a || b) ≡ true
first_holds true b e = refl
first_holds false b e = absurd cc

-- what is not in the whole is not in a part
pub not_more : (a b : Bool) → (a ≡ true → b ≡ true) → not b ≡ true → not a ≡ true
not_more false b f e = refl
not_more true true f e = e
not_more true false f e = absurd (cc (f refl))

pub neither : (a b c d : Bool) → (a ≡ true → c ≡ true) → (b ≡ true → d ≡ true) → (not c && not d) ≡ true → (not a && not b) ≡ true
neither a b c d f g e = let both = two (not c) (not d) e in all_two (not a) (not b) (not_more a c f both.0) (not_more b d g both.1)

pub empty_is : (b : List ℕ) → is_empty b ≡ true → b ≡ []
empty_is [] e = refl
empty_is (x ∷ b) e = absurd cc

pub front_empty : (a b : List ℕ) → is_empty (a ++ b) ≡ true → is_empty a ≡ true
front_empty [] b e = refl
front_empty (x ∷ a) b e = absurd cc

pub rear_empty : (a b : List ℕ) → is_empty (a ++ b) ≡ true → is_empty b ≡ true
rear_empty [] b e = e
rear_empty (x ∷ a) b e = absurd cc

pub prefix_empty : (a b : List ℕ) → IsPrefixOf a b → is_empty b ≡ true → is_empty a ≡ true
prefix_empty a b p e = front_empty a p.0 (ap is_empty p.1 ∙ e)

-- a prefix of an empty list is all of it
pub prefix_all : (a b : List ℕ) → IsPrefixOf a b → is_empty b ≡ true → a ≡ b
prefix_all a b p e = empty_is a (prefix_empty a b p e) ∙ sym (empty_is b e)

pub not_closed : (n : ℕ) → no_closes (suc n) ≡ true → ⊥
not_closed zero e = absurd cc
not_closed (suc zero) e = absurd cc
not_closed (suc (suc n)) e = absurd cc

pub none_is : (n : ℕ) → no_closes n ≡ true → n ≡ 0
none_is zero e = refl
none_is (suc n) e = absurd (not_closed n e)

pub fewer_none : (m n : ℕ) → m ≤ n → no_closes n ≡ true → no_closes m ≡ true
fewer_none zero n le e = refl
fewer_none (suc m) n le e = let z = none_is n e in absurd (omega (arith, le, z))
